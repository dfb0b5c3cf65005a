-- The `styp` and the `prft` as their parts, and their lengths. Assumes nothing.
use Prim.Native.Nat.{ℕ, ◌+◌, ◌-◌, ◌*◌, ◌/◌, ◌^◌}
use native.Mathlib.Omega.{arith}
use mathlib.Core.Path.{◌≡◌, refl, sym, ◌∙◌, ap}
use mathlib.Core.Bool.{true, false}
use mathlib.Core.List.{List, [], ◌∷◌, ◌++◌}
use borrow.Author.Tests.{eq-eqb, ne_eqb}
use lib.ListN.{length, take, drop, length-append, length-take, length-drop}
use lib.Seq.{take_all}
use Rattle.laws.specs.Bytes.{be}
use Rattle.laws.proofs.BytesLaws.{length-be, be-split}
use Rattle.laws.proofs.PartLaws.{joined}
use Rattle.track.specs.declared.Track.{Track}
use Rattle.boxes.specs.Box.{words, box, full_box}
use Rattle.boxes.proofs.BoxLaws.{length-box, length-full_box, box-head, full_box-head}
use Rattle.boxes.specs.Box as B
use Rattle.prft_value.specs.declared.Prft.{Prft}
use Rattle.cmaf_write_prelude.specs.Prelude.{styp_box, media_bytes, prft_box}

-- ---- styp

pub styp-none : (bs : List ℕ) → length bs ≡ 0 → styp_box bs ≡ []
unfolding styp_box
styp-none [] e = refl
styp-none (b ∷ bs) e = absurd (omega arith)

abbrev pub styp_parts : List ℕ → List (List ℕ)
styp_parts bs = words ((12 + length bs) ∷ B.styp ∷ []) ∷ take 4 bs ∷ be 4 0 ∷ drop 4 bs ∷ []

module _ (bs : List ℕ) (some : length bs ≡ 0 → ⊥) where
  abbrev body : List ℕ
  body = take 4 bs ++ (be 4 0 ++ drop 4 bs)

  body-length : length body ≡ 4 + length bs
  body-length = simp (length-append, length-be, length-take, length-drop) (omega arith)

  is-box : box B.styp body ≡ styp_box bs
  unfolding styp_box
  is-box = go bs some
    where
      go : (bs : List ℕ) → (length bs ≡ 0 → ⊥) → box B.styp (take 4 bs ++ (be 4 0 ++ drop 4 bs)) ≡ styp_box bs
      go [] h = absurd (h refl)
      go (b ∷ bs) h = refl

  pub styp-length : length (styp_box bs) ≡ 12 + length bs
  styp-length = ap length (sym is-box) ∙ length-box B.styp body ∙ omega (arith, body-length)

  pub styp-parts : joined (styp_parts bs) ≡ styp_box bs
  unfolding words
  styp-parts = box-head B.styp (12 + length bs) [] body {body = body} refl (omega (arith, body-length)) ∙ is-box

-- ---- prft

pub media-short : (version media : ℕ) → version ≡ 0 → media_bytes version media ≡ be 4 media
unfolding media_bytes
media-short version media e = rw (eq-eqb version 0 e)

pub media-long : (version media : ℕ) → (version ≡ 0 → ⊥) → media_bytes version media ≡ be 8 media
unfolding media_bytes
media-long version media e = rw (ne_eqb version 0 e)

-- the fields before the media time are words
abbrev pub prft_parts : Track → Prft → ℕ → List (List ℕ)
prft_parts t p size =
    words (size ∷ B.prft ∷ (p.version * 2 ^ 24 + p.flags) ∷ t.id ∷ (p.ntp.0 / 2 ^ 32) ∷ p.ntp.0 ∷ []) ∷ media_bytes p.version p.media.0 ∷ []

module _ (t : Track) (p : Prft) where
  pub prft-none : p.stands ≡ false → prft_box t p ≡ []
  unfolding prft_box
  prft-none e = rw e

  abbrev rest : List ℕ
  rest = be 4 t.id ++ (be 8 p.ntp.0 ++ media_bytes p.version p.media.0)

  module _ (stands : p.stands ≡ true) where
    prft-is : full_box B.prft p.version p.flags rest ≡ prft_box t p
    unfolding prft_box
    prft-is = rw stands

    whole : length (prft_box t p) ≡ 12 + length rest
    whole = ap length (sym prft-is) ∙ length-full_box B.prft p.version p.flags rest

    pub prft-length : length (prft_box t p) ≡ 24 + length (media_bytes p.version p.media.0)
    prft-length = whole ∙ simp (length-append, length-be) (omega arith)

    numbers : words (t.id ∷ (p.ntp.0 / 2 ^ 32) ∷ p.ntp.0 ∷ []) ++ media_bytes p.version p.media.0 ≡ rest
    unfolding words be
    numbers = ap (λ (l : List ℕ). be 4 t.id ++ (l ++ media_bytes p.version p.media.0)) (sym (be-split 4 4 p.ntp.0))

    pub prft-parts : (size : ℕ) → size ≡ length (prft_box t p) → joined (prft_parts t p size) ≡ prft_box t p
    prft-parts size e =
        full_box-head B.prft p.version p.flags size _ (t.id ∷ (p.ntp.0 / 2 ^ 32) ∷ p.ntp.0 ∷ []) (media_bytes p.version p.media.0) numbers refl (e ∙ whole)
        ∙ prft-is

-- ---- slices

-- parts of a slice, as code takes them
pub rest-is : (n : ℕ) (bs : List ℕ) → take (length bs - n) (drop n bs) ≡ drop n bs
rest-is n bs = take_all (length bs - n) (drop n bs) (simp length-drop (omega arith))

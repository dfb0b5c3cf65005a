-- The `prft` that is written, read. Assumes nothing.
use Prim.Native.Nat.{ℕ, ◌+◌, ◌-◌, ◌*◌, ◌^◌, ◌≤◌, ◌<◌}
use native.Mathlib.Omega.{arith}
use mathlib.Core.Path.{◌≡◌, refl, sym, ap}
use mathlib.Core.Bool.{Bool, true, false, cond, ◌&&◌, ◌||◌}
use mathlib.Core.List.{List, ◌++◌}
use borrow.Author.Tests.{ne_eqb, eqb-true, eqb-false}
use lib.Dec.{eqb}
use lib.ListN.{length}
use Rattle.laws.specs.Bytes.{be}
use Rattle.laws.proofs.BytesLaws.{length-be}
use Rattle.track.specs.declared.Track.{Track}
use Rattle.boxes.specs.Box.{full_box}
use Rattle.boxes.specs.Box as B
use Rattle.cmaf_read_tree.specs.Numbers.{u32, u64}
use Rattle.byte_parts.specs.declared.Part.{Part}
use Rattle.cmaf_read_shape.specs.Parts.{part}
use Rattle.prft_value.specs.declared.Prft.{Prft}
use Rattle.cmaf_write_prelude.specs.Prelude.{media_bytes, prft_box}
use Rattle.cmaf_write_prelude.proofs.OuterLaws.{prft-none, prft-length, media-short, media-long}
use Rattle.cmaf_read_prelude.specs.Fields.{version_at, flags_at}
use Rattle.cmaf_read_prelude.specs.Prft.{prft_ok, media_time, prft_of, prft_track}
use Rattle.cmaf_read_shape.specs.Left.{Left}
use Rattle.cmaf_read_shape.proofs.LeftLaws.{left-on, left-number, last-number}
use Rattle.cmaf_read_facts.specs.Given.{BoxedPrft}
use Rattle.rebuilt.proofs.FullBoxes.{full-word, full_body}

-- what it says: it is right, and our track's
pub record PrftSays (t : Track) (c : List ℕ) (b : Part) (p : Prft) : Type 0 where
  pub read : prft_of c b ≡ p
  pub right : prft_ok c b ≡ true
  pub track : prft_track c b t.id ≡ t.id

module _ {c : List ℕ} {at end : ℕ} (t : Track) (p : Prft) (ys : List ℕ) (h : Left c at end (prft_box t p ++ ys)) (stands : p.stands ≡ true)
    (track : t.id < 2 ^ 32) (k : BoxedPrft p) where
  abbrev b : Part
  b = part at (length (prft_box t p))

  abbrev media : List ℕ
  media = media_bytes p.version p.media.0

  abbrev rest : List ℕ
  rest = be 4 t.id ++ (be 8 p.ntp.0 ++ media)

  box-is : Left c at end (full_box B.prft p.version p.flags rest ++ ys)
  unfolding prft_box
  box-is = rw stands at h

  word-is : u32 c (at + 8) ≡ p.version * 2 ^ 24 + p.flags
  word-is = full-word B.prft p.version p.flags rest ys box-is (omega (arith, k.version, k.flags))

  version-is : version_at c b ≡ p.version
  version-is = rw word-is (omega (arith, k.flags))

  flags-is : flags_at c b ≡ p.flags
  flags-is = rw word-is (omega (arith, k.flags))

  body : Left c (at + 12) (at + 12 + length rest) rest
  body = full_body B.prft p.version p.flags rest ys box-is

  left-ntp : Left c (at + 16) (at + 12 + length rest) (be 8 p.ntp.0 ++ media)
  left-ntp = left-on 4 t.id (be 8 p.ntp.0 ++ media) (omega arith) body

  left-media : Left c (at + 24) (at + 12 + length rest) media
  left-media = left-on 8 p.ntp.0 media (omega arith) left-ntp

  media-is : media_time c b ≡ p.media.0
  unfolding media_time
  media-is = rw version-is (by (eqb p.version 0) refl k.media)
    where
      by : (z : Bool) → eqb p.version 0 ≡ z → p.media.0 ≤ cond z (2 ^ 32 - 1) (2 ^ 64 - 1) → cond z (u32 c (at + 24)) (u64 c (at + 24)) ≡ p.media.0
      by true e low = last-number 4 p.media.0 (omega arith) (rw (media-short p.version p.media.0 (eqb-true _ _ e)) at left-media)
      by false e low = last-number 8 p.media.0 (omega arith) (rw (media-long p.version p.media.0 (eqb-false _ _ e)) at left-media)

  here : eqb (length (prft_box t p)) 0 ≡ false
  here = ne_eqb (length (prft_box t p)) 0 (λ q. omega (arith, prft-length t p stands))

  -- version and length are right
  right_is : prft_ok c b ≡ true
  unfolding prft_ok
  right_is = rw (version-is, prft-length t p stands) (by (eqb p.version 0) refl)
    where
      by : (z : Bool) → eqb p.version 0 ≡ z
          → (eqb (24 + length media) 0 || ((eqb p.version 0 && eqb (24 + length media) 28) || (eqb p.version 1 && eqb (24 + length media) 32))) ≡ true
      by true e =
          let v : p.version ≡ 0 = eqb-true _ _ e in rw (media-short p.version p.media.0 v, length-be 4 p.media.0, v)
      by false e =
          let v : p.version ≡ 0 → ⊥ = eqb-false _ _ e in
          let o : p.version ≡ 1 = omega (arith, k.version) in
          rw (media-long p.version p.media.0 v, length-be 8 p.media.0, o)

  -- all that it says where it stands
  stands-says : PrftSays t c b p
  unfolding prft_of prft_track
  stands-says =
      record {
        read =
            rw (here, left-number 8 p.ntp.0 media (omega (arith, k.ntp)) left-ntp, media-is, version-is, flags-is)
            (ap (λ (o : Bool). record { stands = o; ntp = p.ntp; media = p.media; version = p.version; flags = p.flags }) (sym stands));
        right = right_is;
        track = rw (here, left-number 4 t.id (be 8 p.ntp.0 ++ media) track body);
      }

-- the `prft` of a chunk, where it stands and where it doesn't
pub prft-says : {c : List ℕ} {at end : ℕ} (t : Track) (p : Prft) (ys : List ℕ) → t.id < 2 ^ 32 → BoxedPrft p → Left c at end (prft_box t p ++ ys)
    → PrftSays t c (part at (length (prft_box t p))) p
unfolding prft_of prft_ok prft_track
prft-says {c} {at} {end} t p ys id k h = by p.stands refl
  where
    by : (b : Bool) → p.stands ≡ b → PrftSays t c (part at (length (prft_box t p))) p
    by true e = stands-says t p ys h e id k
    by false e = rw (prft-none t p e) (record { read = sym (k.none e); right = refl; track = refl })

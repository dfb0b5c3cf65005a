-- The place of the `mfhd` number in a front is found: with its number put to 0 a front is the one that has the number 0. Assumes nothing.
use Prim.Native.Nat.{ℕ, ◌+◌, ◌^◌, ◌≤◌, ◌<◌}
use native.Mathlib.Omega.{arith}
use mathlib.Core.Path.{◌≡◌, refl, sym, ◌∙◌, ap}
use mathlib.Core.List.{List, ◌++◌, append_assoc}
use lib.ListN.{length, take, drop, length-append}
use lib.Seq.{slice, take_at, drop_at, drop-drop}
use Rattle.laws.specs.Bytes.{be, de}
use Rattle.laws.proofs.BytesLaws.{length-be, de-be-small}
use Rattle.laws.proofs.SliceLaws.{slice-between}
use Rattle.boxes.specs.Box.{box, full_box}
use Rattle.boxes.specs.Box as B
use Rattle.cmaf_read_tree.specs.Whole.{kind_of}
use Rattle.cmaf_read_tree.proofs.BoxedLaws.{box-kind}
use Rattle.track.specs.declared.Track.{Track}
use Rattle.prft_value.specs.declared.Prft.{Prft}
use Rattle.event_value.specs.Events.{Event}
use Rattle.cmaf_write_prelude.specs.Prelude.{styp_box, prft_box}
use Rattle.cmaf_write_emsg.specs.Emsg.{emsg_boxes}
use Rattle.cmaf_write_moof.specs.Moof.{mfhd_box, plain, moof_box, moof_whole, protection}
use Rattle.cmaf_write_front.specs.Front.{front}
use Rattle.cmaf_read_shape.specs.Top.{top_of}
use Rattle.rebuilt.specs.Chunk.{AllShort}
use Rattle.rebuilt.proofs.BeforeMoof.{moof-place}
use Rattle.joining.specs.Number.{number_at, number_in, zeroed, unnumbered}

-- four bytes between others, put to 0
zeroed-at : (at : ℕ) (x y z : List ℕ) → length x ≡ at → length y ≡ 4 → zeroed at (x ++ (y ++ z)) ≡ x ++ (be 4 0 ++ z)
unfolding zeroed
zeroed-at at x y z lx ly =
    rw (take_at x (y ++ z) at lx)
    (ap (λ (l : List ℕ). x ++ (be 4 0 ++ l))
    (sym (drop-drop 4 at (x ++ (y ++ z))) ∙ ap (drop 4) (drop_at x (y ++ z) at lx) ∙ drop_at y z 4 ly))

-- ---- the number in the `moof`

-- the first 20 bytes of a `moof` that has an `mfhd` and then the bytes x
abbrev head : List ℕ → List ℕ
head x = take 20 (box B.moof (mfhd_box 0 ++ x))

head-long : (x : List ℕ) → length (head x) ≡ 20
unfolding mfhd_box full_box box be
head-long x = refl

box-is : (n : ℕ) (x : List ℕ) → box B.moof (mfhd_box n ++ x) ≡ head x ++ (be 4 n ++ x)
unfolding mfhd_box full_box box be
box-is n x = refl

module _ (t : Track) (w : List ℕ) (payload : ℕ) (p : Prft) (es : List Event) (brands : List ℕ) where
  -- what stands in the `moof` behind the `mfhd`: the number's width is its own, so that it is the same with every number
  abbrev traf : List ℕ
  traf =
      let before = plain t w payload (length (moof_box t 0 w payload 0) + 8) in
      box B.traf (before ++ protection t w (8 + (length (mfhd_box 0) + (8 + length before))))

  moof-is : (n : ℕ) → moof_whole t n w payload ≡ box B.moof (mfhd_box n ++ traf)
  unfolding moof_whole moof_box mfhd_box full_box box be
  moof-is n = refl

  -- the bytes before the `moof`, and those behind it
  abbrev before : List ℕ
  before = styp_box brands ++ (prft_box t p ++ emsg_boxes es)

  abbrev last : List ℕ
  last = be 4 (8 + payload) ++ be 4 B.mdat

  abbrev numbered : ℕ → List ℕ
  numbered n = front t n w payload p es brands

  -- a front with any number
  cut : (n : ℕ) → numbered n ≡ (before ++ head traf) ++ (be 4 n ++ (traf ++ last))
  unfolding front
  cut n =
      ap (λ (m : List ℕ). styp_box brands ++ (prft_box t p ++ (emsg_boxes es ++ (m ++ last)))) (moof-is n ∙ box-is n traf)
      ∙ simp append_assoc

  before-long : length (before ++ head traf) ≡ length before + 20
  before-long = length-append before (head traf) ∙ ap (λ (k : ℕ). length before + k) (head-long traf)

  -- its length isn't the number's
  pub front_long : (n : ℕ) → length (numbered n) ≡ length (numbered 0)
  front_long n = rw (cut n, cut 0) (simp (length-append, length-be))

  module _ (few : length brands ≤ 64) (short : AllShort es) where
    number-place : (n : ℕ) → number_at (numbered n) ≡ length before + 20
    unfolding number_at front
    number-place n =
        let l : List ℕ = moof_whole t n w payload ++ last in
        let kind : kind_of l ≡ B.moof =
        ap (λ (m : List ℕ). kind_of (m ++ last)) (moof-is n) ∙ box-kind B.moof (mfhd_box n ++ traf) last (omega arith) in
        let place : (top_of (numbered n)).moof.at ≡ 0 + length (styp_box brands) + length (prft_box t p) + length (emsg_boxes es) =
        moof-place t p es brands l kind few short in
        omega (arith, place, length-append (styp_box brands) (prft_box t p ++ emsg_boxes es), length-append (prft_box t p) (emsg_boxes es))

    -- the same with every number
    pub front-place : (n : ℕ) → number_at (numbered n) ≡ number_at (numbered 0)
    front-place n = number-place n ∙ sym (number-place 0)

    -- with its number put to 0 it is the front that has the number 0
    pub front-unnumbered : (n : ℕ) → unnumbered (numbered n) ≡ numbered 0
    front-unnumbered n =
        ap (λ (at : ℕ). zeroed at (numbered n)) (number-place n)
        ∙ ap (zeroed (length before + 20)) (cut n)
        ∙ zeroed-at (length before + 20) (before ++ head traf) (be 4 n) (traf ++ last) before-long (length-be 4 n)
        ∙ sym (cut 0)

    -- the number stands there
    pub front-number : (n : ℕ) → n < 2 ^ 32 → number_in (numbered n) ≡ n
    unfolding number_in
    front-number n lt =
        let x : List ℕ = before ++ head traf in
        let from : number_at (numbered n) ≡ length x = number-place n ∙ sym before-long in
        let to : number_at (numbered n) + 4 ≡ length x + length (be 4 n) = omega (arith, from, length-be 4 n) in
        ap de
        ((λ j. slice (from j) (to j) (numbered n))
        ∙ ap (slice (length x) (length x + length (be 4 n))) (cut n)
        ∙ slice-between x (be 4 n) (traf ++ last))
        ∙ de-be-small 4 n lt

-- The last sample's protected bytes: what a chunk has can be that, and what can be that is small. Assumes nothing.
use Prim.Native.Nat.{ℕ, suc, ◌+◌, ◌-◌, ◌^◌, ◌≤◌}
use native.Mathlib.Omega.{arith}
use mathlib.Core.Path.{◌≡◌, refl, sym, ◌∙◌, ap}
use mathlib.Core.Bool.{Bool, true, false, cond, ◌&&◌}
use mathlib.Core.List.{List}
use borrow.Author.Tests.{eqb-true, eqb-false, eq-eqb, leb-true, le-leb, not-true}
use lib.Dec.{eqb, leb}
use lib.ListN.{length, get_or}
use lib.Seq.{slice}
use Rattle.constants.specs.Maxima.{payload_most, subsamples_most}
use Rattle.laws.specs.Tests.{sum}
use Rattle.laws.proofs.TestLaws.{and_left, and_right}
use Rattle.track.specs.declared.Track.{Track}
use Rattle.track.specs.Track.{cenc}
use Rattle.field_table.specs.Lines.{lines, line_for, set_len, subsamples_at}
use Rattle.field_set.specs.Lawful.{has, value_at, count_in, values_of, lawful}
use Rattle.field_set.proofs.ValueLaws.{values-all}
use Rattle.told_sizes.specs.Sums.{bytes_of, Summable}
use Rattle.told_sizes.specs.Told.{may_have}
use Rattle.told_sizes.proofs.SumLaws.{lawful-summable, protected-small}
use Rattle.effective.specs.Sizes.{size_of}
use Rattle.effective.specs.Sums.{sizes_ok}
use Rattle.effective.proofs.SizesAdd.{sum-behind, sizes_before, sizes-add}
use Rattle.effective.proofs.AgreeLaws.{size-may}
use Rattle.counters.specs.Protected.{protected_of, last_pairs, counted, last_protected, last_bytes, last_fits}

-- IVs are counted only of samples
pub some-samples : (t : Track) (w : List ℕ) → counted t w ≡ true → 1 ≤ count_in w
some-samples t w e =
    let z : count_in w ≡ 0 → ⊥ = eqb-false _ _ (not-true (eqb (count_in w) 0) (and_right (eqb t.protection cenc) _ e)) in
    omega arith

-- the words of a field that stands
pub values-stand : (w : List ℕ) (n : ℕ) → has 11 w ≡ true → values_of 11 n w ≡ slice (subsamples_at + 1) (subsamples_at + 1 + n) w
unfolding has lines line_for
values-stand w n e = values-all 11 n w (eqb-false _ _ (not-true (eqb (get_or w subsamples_at 0) 0) e))

-- the last sample's subsamples are the last of all
pub last-pairs : {w : List ℕ} → Summable w → has 11 w ≡ true → 1 ≤ count_in w → last_pairs w + value_at 11 (count_in w - 1) w ≡ sum (values_of 11 (count_in w) w)
unfolding lines line_for
last-pairs {w} s on some =
    let n : subsamples_at + 1 + (count_in w - 1) + 1 ≡ subsamples_at + 1 + count_in w = omega arith in
    let a : last_pairs w ≡ sum (slice (subsamples_at + 1) (subsamples_at + 1 + (count_in w - 1)) w) = ap sum (values-stand w (count_in w - 1) on) in
    let b : sum (values_of 11 (count_in w) w) ≡ sum (slice (subsamples_at + 1) (subsamples_at + 1 + (count_in w - 1) + 1) w) =
    ap sum (values-stand w (count_in w) on ∙ ap (λ (to : ℕ). slice (subsamples_at + 1) to w) (sym n)) in
    omega (arith, a, b, sum-behind w (subsamples_at + 1) (subsamples_at + 1 + (count_in w - 1)) (omega arith) (omega (arith, s.words, s.few)))

-- the last sample has no more than the payload
size-most : (t : Track) (w : List ℕ) (payload : ℕ) → Summable w → payload ≤ payload_most → sizes_ok t w payload ≡ true → 1 ≤ count_in w
    → size_of t w payload (count_in w - 1) ≤ payload
unfolding sizes_before
size-most t w payload s short ok some =
    let n : count_in w ≡ suc (count_in w - 1) = omega arith in
    let all : sizes_before t w payload (suc (count_in w - 1)) ≡ payload = ap (sizes_before t w payload) (sym n) ∙ sizes-add t w payload s.words s.few short ok in
    omega (arith, all)

module _ (t : Track) (w : List ℕ) (long : length w ≡ set_len) (good : lawful t w ≡ true) where
  -- what a chunk's last sample has can be what it has
  pub last-kept : (payload : ℕ) → payload ≤ payload_most → sizes_ok t w payload ≡ true → last_fits t w (last_protected t w payload) ≡ true
  unfolding last_fits last_protected last_bytes protected_of
  last-kept payload short ok = go (counted t w) (has 11 w) refl
    where
      size : ℕ
      size = size_of t w payload (count_in w - 1)

      bytes : ℕ
      bytes = bytes_of 15 w (last_pairs w) (value_at 11 (count_in w - 1) w)

      go : (a b : Bool) → counted t w ≡ a
          → cond a
          (cond b (eqb (cond a (cond b bytes size) 0) bytes) (leb (cond a (cond b bytes size) 0) payload_most && may_have t w (count_in w - 1) (cond a (cond b bytes size) 0)))
          (eqb (cond a (cond b bytes size) 0) 0)
          ≡ true
      go true true e = eq-eqb bytes bytes refl
      go true false e =
          let most : size ≤ payload = size-most t w payload (lawful-summable t w long good) short ok (some-samples t w e) in
          rw (le-leb size payload_most (omega arith)) (size-may t w payload (count_in w - 1))
      go false b e = refl

  -- and what can be that keeps a bound
  pub last-small : (last : ℕ) → last_fits t w last ≡ true → last ≤ 2 ^ 48
  unfolding last_fits last_bytes bytes_of lines line_for
  last-small last h = go (counted t w) (has 11 w) refl refl h
    where
      s : Summable w
      s = lawful-summable t w long good

      go : (a b : Bool) → counted t w ≡ a → has 11 w ≡ b
          → cond a (cond b (eqb last (last_bytes w)) (leb last payload_most && may_have t w (count_in w - 1) last)) (eqb last 0) ≡ true → last ≤ 2 ^ 48
      go true true e on k =
          let few : last_pairs w + value_at 11 (count_in w - 1) w ≤ subsamples_most = omega (arith, last-pairs s on (some-samples t w e), s.subsamples) in
          let is : last ≡ last_bytes w = eqb-true _ _ k in
          omega (arith, is, protected-small s (last_pairs w) (value_at 11 (count_in w - 1) w) few)
      go true false e on k = omega (arith, leb-true last payload_most (and_left (leb last payload_most) _ k))
      go false b e on k = omega (arith, eqb-true last 0 k)

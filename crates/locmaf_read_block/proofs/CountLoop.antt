-- The loop of `count`: the varints that were counted, with those that are left, are the whole. Assumes nothing.
use Prim.Native.Nat.{ℕ, ◌+◌, ◌≤◌, ◌<◌}
use native.Mathlib.Nat.{add-zero}
use native.Mathlib.Omega.{arith}
use mathlib.Core.Path.{◌≡◌, sym, ◌∙◌, ap}
use mathlib.Core.List.{List}
use lib.ListN.{length}
use lib.Seq.{slice, length-slice}
use borrow.Author.Tests.{lt-leb}
use Rattle.laws.proofs.SliceLaws.{drop-slice, slice-none}
use Rattle.wire.specs.declared.form.Row.{Row}
use Rattle.std.specs.Prelude.{Some, None}
use Rattle.wire.specs.Varint.{read_at}
use Rattle.wire.proofs.Reading.{cut-inv}
use Rattle.locmaf_read_block.specs.Front.{Series, before}
use Rattle.locmaf_read_block.specs.Numbers.{numbers_run, counted, count_at}
use Rattle.locmaf_read_block.proofs.ReadLaws.{Found}
use Rattle.locmaf_read_block.proofs.NumberLaws.{numbers-none, numbers-cut, numbers-one, plus-zero, counted-before, count-inside}
use Rattle.runs.specs.Run.{plus}

pub record Counting (F : List Row) (s : List ℕ) (at end n p : ℕ) : Type 0 where
  pub bytes : end ≤ length s
  pub few : at + n ≤ p
  pub whole : plus n (counted (numbers_run F (slice p end s))) ≡ count_at F s at end

module _ (F : List Row) (s : List ℕ) (at end : ℕ) where
  pub past : length s < end → None ≡ count_at F s at end
  unfolding count_at
  past h = rw (lt-leb _ _ h)

  pub start : end ≤ length s → Counting F s at end 0 at
  start h = record { bytes = h; few = omega arith; whole = plus-zero _ ∙ sym (count-inside F s at end h) }

  module _ (n p : ℕ) (i : Counting F s at end n p) where
    pub done : end ≤ p → Some n ≡ count_at F s at end
    unfolding counted
    done h =
        let e : plus n (counted (numbers_run F (slice p end s))) ≡ Some n =
        rw (numbers-none F (slice p end s) (ap length (slice-none p end s h)), add-zero) in
        sym e ∙ i.whole

    pub cut : p < end → None ≡ read_at F s p end → None ≡ count_at F s at end
    unfolding counted
    cut lt e =
        let l : 0 < length (slice p end s) = omega (arith, length-slice p end s i.bytes) in
        let z : plus n (counted (numbers_run F (slice p end s))) ≡ None = rw (numbers-cut F (slice p end s) l (cut-inv F s p end i.bytes e)) in
        sym z ∙ i.whole

    pub next : (v q : ℕ) → Found F s p end v q → Counting F s at end (n + 1) q
    next v q f =
        let one : numbers_run F (slice p end s) ≡ before v (numbers_run F (slice q end s)) =
        numbers-one F (slice p end s) v f.size f.read ∙ rw (drop-slice p end f.size s, ← f.place) in
        record {
          bytes = i.bytes;
          few = omega (arith, i.few, f.some);
          whole =
              sym (ap (λ (r : Series ℕ). plus n (counted r)) one ∙ counted-before n v (numbers_run F (slice q end s))) ∙ i.whole;
        }

-- The tuples of a part of a list, by places: one off the front and the rest; and what is known of each. Assumes nothing.
use Prim.Native.Nat.{ℕ, zero, suc, ◌+◌, ◌-◌, ◌%◌, ◌≤◌, ◌<◌}
use native.Mathlib.Omega.{arith}
use mathlib.Core.Path.{◌≡◌, refl, sym, ◌∙◌}
use mathlib.Core.Bool.{Bool, true, false}
use mathlib.Core.List.{List, [], ◌∷◌}
use borrow.Author.Tests.{leb-true, leb-false}
use lib.Dec.{leb}
use lib.ListN.{length, drop}
use lib.Seq.{slice, length-slice}
use Rattle.laws.proofs.SliceLaws.{drop-slice, take-slice, slice-none}
use Rattle.wire.specs.declared.form.Row.{Row}
use Rattle.std.specs.Prelude.{Option, Some, None}
use Rattle.wire.specs.Varint.{read_f}
use Rattle.wire.proofs.VarintLaws.{read-prefix}
use Rattle.locmaf_read_block.specs.declared.tuples.Tuple.{Tuple}
use Rattle.locmaf_read_block.specs.Front.{series, before}
use Rattle.locmaf_read_block.specs.Tuples.{kind_of, part_of, tuple_f, tuple_at, tuple_front, tuples_run, bytes_of}
use Rattle.locmaf_read_block.specs.Numbers.{numbers_f}
use Rattle.laws.specs.Each.{AllOf}
use Rattle.locmaf_read_block.proofs.FrontLaws.{taken_none, taken-cut, taken-off}
use Rattle.locmaf_read_block.proofs.NumberLaws.{numbers-nil, numbers-cons}
use Rattle.locmaf_read_block.proofs.TupleLaws.{inside, Spans, spans}

-- what is known of a tuple of the block that ends in s before the place end
pub record Proper (F : List Row) (s : List ℕ) (end : ℕ) (t : Tuple) : Type 0 where
  pub kind : t.kind ≡ kind_of t.id (part_of t.kind)
  pub inside : (part_of t.kind).at + (part_of t.kind).len ≤ end
  pub scalar : t.id % 2 ≡ 0 → numbers_f F (bytes_of s (part_of t.kind)) ≡ Some (t.number ∷ [])
  pub held : (t.id % 2 ≡ 0 → ⊥) → (part_of t.kind).len ≡ t.number

proper-of : (F : List Row) (s : List ℕ) (p end : ℕ) (t : Tuple) (next : ℕ) → end ≤ length s → p < end → Spans F p (slice p end s) t next → Proper F s end t
proper-of F s p end t next h lt z =
    record {
      kind = z.kind;
      inside = omega (arith, z.ends, z.within, length-slice p end s h);
      scalar = λ u. one (z.scalar u);
      held = z.held;
    }
  where
    a : ℕ
    a = (part_of t.kind).at

    n : ℕ
    n = (part_of t.kind).len

    one : read_f F (drop (a - p) (slice p end s)) ≡ Some (t.number, n) → numbers_f F (slice a (a + n) s) ≡ Some (t.number ∷ [])
    one e =
        let m : p + (a - p) ≡ a = omega (arith, z.starts) in
        let le : a + n ≤ end = omega (arith, z.ends, z.within, length-slice p end s h) in
        let f : read_f F (slice a end s) ≡ Some (t.number, n) = rw (drop-slice p end (a - p) s, m) at e in
        let g : read_f F (slice a (a + n) s) ≡ Some (t.number, n) = rw (take-slice a end n s le h) at (read-prefix F (slice a end s) t.number n f) in
        numbers-cons F (slice a (a + n) s) t.number n [] g (rw (drop-slice a (a + n) n s, slice-none (a + n) (a + n) s (omega arith)) (numbers-nil F))

-- a tuple that was read from the place p, before the place end
pub record Took (F : List Row) (s : List ℕ) (p end : ℕ) (t : Tuple) (next : ℕ) : Type 0 where
  pub read : tuple_f F p (slice p end s) ≡ Some (t, next)
  pub two : p + 2 ≤ next
  pub starts : p < (part_of t.kind).at
  pub ends : (part_of t.kind).at + (part_of t.kind).len ≡ next
  pub within : next ≤ end
  pub proper : Proper F s end t

pub took-at : (F : List Row) (s : List ℕ) (p end : ℕ) (t : Tuple) (next : ℕ) → end ≤ length s → p < end → tuple_f F p (slice p end s) ≡ Some (t, next)
    → Took F s p end t next
took-at F s p end t next h lt r =
    let z = spans F p (slice p end s) t next r in
    record {
      read = r;
      two = z.two;
      starts = z.starts;
      ends = z.ends;
      within = omega (arith, z.within, length-slice p end s h);
      proper = proper-of F s p end t next h lt z;
    }

-- the same of what a call of `tuple_at` answered
pub took : (F : List Row) (s : List ℕ) (p end : ℕ) (t : Tuple) (next : ℕ) → end ≤ length s → p < end → Some (t, next) ≡ tuple_at F s p end
    → Took F s p end t next
took F s p end t next h lt e = took-at F s p end t next h lt (sym (e ∙ inside F s p end h))

-- no tuples, and one off the front
pub tuples-none : (F : List Row) (at : ℕ) → tuples_run F at [] ≡ series [] true
unfolding tuples_run
tuples-none F at = taken_none (tuple_front F) at [] refl

pub tuples-off : (F : List Row) (at : ℕ) (s : List ℕ) (t : Tuple) (next : ℕ) → tuple_f F at s ≡ Some (t, next)
    → tuples_run F at s ≡ before t (tuples_run F next (drop (next - at) s))
unfolding tuples_run tuple_front
tuples-off F at s t next e =
    let z = spans F at s t next e in
    let n : at + (next - at) ≡ next = omega (arith, z.two) in
    taken-off (tuple_front F) at s t (next - at) (omega (arith, z.two, z.within)) (omega (arith, z.two)) (rw e) ∙ rw n

-- the same of what is left of a block, by places
module _ (F : List Row) (s : List ℕ) (p end : ℕ) where
  pub tuples-done : end ≤ p → tuples_run F p (slice p end s) ≡ series [] true
  tuples-done h = rw (slice-none p end s h) (tuples-none F p)

  module _ (h : end ≤ length s) (lt : p < end) where
    pub tuples-cut : tuple_f F p (slice p end s) ≡ None → tuples_run F p (slice p end s) ≡ series [] false
    unfolding tuples_run tuple_front
    tuples-cut e = taken-cut (tuple_front F) p (slice p end s) (omega (arith, length-slice p end s h)) (rw e)

    pub tuples-one : (t : Tuple) (next : ℕ) → Took F s p end t next → tuples_run F p (slice p end s) ≡ before t (tuples_run F next (slice next end s))
    tuples-one t next k =
        let n : p + (next - p) ≡ next = omega (arith, k.two) in
        tuples-off F p (slice p end s) t next k.read ∙ rw (drop-slice p end (next - p) s, n)

-- every tuple of a block is proper
module _ (F : List Row) (s : List ℕ) (end : ℕ) (h : end ≤ length s) where
  proper-within : (n p : ℕ) → end - p ≤ n → AllOf (Proper F s end) (tuples_run F p (slice p end s)).items
  proper-within zero p le = rw (tuples-done F s p end (omega arith)) tt
  proper-within (suc n) p le = go (leb end p) refl (λ q l. proper-within n q l)
    where
      step : p < end → (g : Option (Tuple × ℕ)) → tuple_f F p (slice p end s) ≡ g
          → ((q : ℕ) → end - q ≤ n → AllOf (Proper F s end) (tuples_run F q (slice q end s)).items)
          → AllOf (Proper F s end) (tuples_run F p (slice p end s)).items
      step lt (Some (t, next)) q ih =
          let k = took-at F s p end t next h lt q in
          rw (tuples-one F s p end h lt t next k) (k.proper, ih next (omega (arith, k.two, k.within)))
      step lt None q ih = rw (tuples-cut F s p end h lt q) tt

      go : (b : Bool) → leb end p ≡ b → ((q : ℕ) → end - q ≤ n → AllOf (Proper F s end) (tuples_run F q (slice q end s)).items)
          → AllOf (Proper F s end) (tuples_run F p (slice p end s)).items
      go true q ih = rw (tuples-done F s p end (leb-true _ _ q)) tt
      go false q ih = step (leb-false _ _ q) (tuple_f F p (slice p end s)) refl ih

  pub all-proper : (at : ℕ) → AllOf (Proper F s end) (tuples_run F at (slice at end s)).items
  all-proper at = proper-within (end - at) at (omega arith)

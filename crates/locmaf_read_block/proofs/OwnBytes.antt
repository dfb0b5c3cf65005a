-- A tuple goes by its own bytes: whatever stands behind them, and wherever they stand. Assumes nothing.
use Prim.Native.Nat.{ℕ, ◌+◌, ◌%◌, ◌≤◌}
use native.Mathlib.Nat.{add_assoc}
use native.Mathlib.Omega.{arith}
use mathlib.Core.Path.{◌≡◌, refl, sym, ◌∙◌}
use mathlib.Core.Bool.{Bool, true, false, cond}
use mathlib.Core.List.{List, ◌++◌}
use borrow.Author.Tests.{le-leb}
use lib.Dec.{leb, eqb}
use lib.ListN.{length, drop, length-drop, length-append}
use lib.Seq.{drop-append-le}
use Rattle.wire.specs.declared.form.Row.{Row}
use Rattle.std.specs.Prelude.{Option, Some, None}
use Rattle.std.proofs.lemmas.Option.{none-some, some_pair_parts}
use Rattle.wire.specs.Varint.{read_f, on_got}
use Rattle.wire.proofs.VarintLaws.{read-own}
use Rattle.locmaf_read_block.specs.declared.tuples.Tuple.{Tuple}
use Rattle.locmaf_read_block.specs.Tuples.{part, tuple, body_f, tuple_f}

-- the tuple t, whose bytes s stand at the place at: its part begins `from` bytes behind their start and goes to their end; and it is read again wherever they stand
pub record Own (F : List Row) (at : ℕ) (s : List ℕ) (t : Tuple) : Type 0 where
  pub id : ℕ
  pub number : ℕ
  pub from : ℕ
  pub len : ℕ
  pub ends : from + len ≡ length s
  pub is : t ≡ tuple id number (part (at + from) len)
  pub again : (p : ℕ) (r : List ℕ) → tuple_f F p (s ++ r) ≡ Some (tuple id number (part (p + from) len), p + length s)

module _ (F : List Row) (at : ℕ) (s r : List ℕ) (t : Tuple) where
  -- they are t with the place after s
  abbrev Whole : Option (Tuple × ℕ) → Type 0
  Whole o = o ≡ Some (t, at + length s)

  never : {X : Type 0} → Whole None → X
  never e = absurd (none-some _ e)

  -- what is made of an id in k bytes and a number in j, at the place p with the bytes l behind them
  abbrev made : (id k n j p : ℕ) → List ℕ → Option (Tuple × ℕ)
  made id k n j p l =
      cond (eqb (id % 2) 0) (Some (tuple id n (part (p + k) j), p + k + j))
      (cond (leb n (length l)) (Some (tuple id n (part (p + k + j) n), p + k + j + n)) None)

  module _ (id k n j : ℕ) (q : read_f F (s ++ r) ≡ Some (id, k)) (g : read_f F (drop k (s ++ r)) ≡ Some (n, j)) where
    -- both are read again
    both-again : k + j ≤ length s → (p : ℕ) (l : List ℕ) → tuple_f F p (s ++ l) ≡ made id k n j p (drop j (drop k s ++ l))
    unfolding tuple_f body_f
    both-again h p l =
        let a : k ≤ length s = omega arith in
        let b : j ≤ length (drop k s) = omega (arith, length-drop k s) in
        rw (read-own F s r l id k a q, drop-append-le k s l a, read-own F (drop k s) r l n j b (rw (drop-append-le k s r a) at g))

    own : (a b : Bool) → eqb (id % 2) 0 ≡ a → leb n (length (drop j (drop k (s ++ r)))) ≡ b
        → Whole (cond a (Some (tuple id n (part (at + k) j), at + k + j)) (cond b (Some (tuple id n (part (at + k + j) n), at + k + j + n)) None))
        → Own F at s t
    own true b o h d =
        let w = some_pair_parts (tuple id n (part (at + k) j)) t (at + k + j) (at + length s) d in
        record {
          id = id;
          number = n;
          from = k;
          len = j;
          ends = omega arith;
          is = sym w.0;
          again = λ p l. let z : p + k + j ≡ p + length s = omega arith in both-again (omega arith) p l ∙ rw (o, z);
        }
    own false true o h d =
        let w = some_pair_parts (tuple id n (part (at + k + j) n)) t (at + k + j + n) (at + length s) d in
        record {
          id = id;
          number = n;
          from = k + j;
          len = n;
          ends = omega arith;
          is = rw (← add_assoc at k j) (sym w.0);
          again = λ p l.
              let z : p + k + j + n ≡ p + length s = omega arith in
              let b : j ≤ length (drop k s) = omega (arith, length-drop k s) in
              let m : n ≤ length (drop j (drop k s) ++ l) = omega (arith, length-append (drop j (drop k s)) l, length-drop j (drop k s), length-drop k s) in
              both-again (omega arith) p l ∙ rw (o, drop-append-le j (drop k s) l b, le-leb _ _ m, z, add_assoc p k j);
        }
    own false false o h d = never d

  -- what was read off the front, up to the end of s
  pub tuple-own : tuple_f F at (s ++ r) ≡ Some (t, at + length s) → Own F at s t
  unfolding tuple_f body_f
  tuple-own e = first (read_f F (s ++ r)) refl e
    where
      second : (id k : ℕ) → read_f F (s ++ r) ≡ Some (id, k) → (g : Option (ℕ × ℕ)) → read_f F (drop k (s ++ r)) ≡ g
          → Whole (on_got g (λ n j. made id k n j at (drop j (drop k (s ++ r)))) None) → Own F at s t
      second id k q (Some (n, j)) g d = own id k n j q g (eqb (id % 2) 0) (leb n (length (drop j (drop k (s ++ r))))) refl refl d
      second id k q None g d = never d

      first : (g : Option (ℕ × ℕ)) → read_f F (s ++ r) ≡ g → Whole (on_got g (λ id k. body_f F id (at + k) (drop k (s ++ r))) None) → Own F at s t
      first (Some (id, k)) q d = second id k q (read_f F (drop k (s ++ r))) refl d
      first None q d = never d

-- The first zero byte from a place on. Assumes nothing.
use Prim.Native.Nat.{ℕ, suc, ◌+◌, ◌-◌, ◌≤◌, ◌<◌}
use native.Mathlib.Nat.{add-zero}
use native.Mathlib.Numerals.{add-one}
use native.Mathlib.Omega.{arith}
use mathlib.Core.Path.{◌≡◌, refl, sym, ◌∙◌, ap}
use mathlib.Core.Bool.{Bool, true, false, cond, not}
use mathlib.Core.List.{List, [], ◌∷◌}
use borrow.Author.Tests.{eq-eqb, ne_eqb}
use lib.Dec.{eqb}
use lib.ListN.{length, get_or, take, drop}
use lib.Seq.{slice, slice-cons, length-slice}
use Rattle.laws.specs.Tests.{no_zero}
use Rattle.laws.proofs.TestLaws.{both}
use Rattle.laws.proofs.SliceLaws.{slice-none, take-slice, slice-lent}
use Rattle.event_value.specs.Events.{part}
use Rattle.cmaf_read_prelude.specs.Emsg.{before_zero, zero_from}

-- ---- the loop that looks for it

module _ (c : List ℕ) (i to : ℕ) where
  -- it is here
  pub zero-here : i < to → to ≤ length c → get_or c i 0 ≡ 0 → i ≡ zero_from c i to
  unfolding zero_from before_zero
  zero-here h k e = rw (slice-cons i to c 0 h k, eq-eqb (get_or c i 0) 0 e) (sym (add-zero i))

  -- it is not here
  pub zero-next : i < to → to ≤ length c → (get_or c i 0 ≡ 0 → ⊥) → zero_from c (i + 1) to ≡ zero_from c i to
  unfolding zero_from before_zero
  zero-next h k n = rw (slice-cons i to c 0 h k, ne_eqb (get_or c i 0) 0 n, add-one) (omega arith)

  -- there is none
  pub zero-none : to ≤ i → i ≡ zero_from c i to
  unfolding zero_from before_zero
  zero-none h = rw (slice-none i to c h) (sym (add-zero i))

-- ---- where it is

before-le : (s : List ℕ) → before_zero s ≤ length s
unfolding before_zero
before-le [] = omega arith
before-le (x ∷ s) = by (eqb x 0) (before-le s)
  where
    by : (t : Bool) → before_zero s ≤ length s → cond t 0 (suc (before_zero s)) ≤ suc (length s)
    by true h = omega arith
    by false h = omega arith

pub zero-after : (c : List ℕ) (from to : ℕ) → from ≤ zero_from c from to
unfolding zero_from
zero-after c from to = omega arith

pub zero-before : (c : List ℕ) (from to : ℕ) → from ≤ to → to ≤ length c → zero_from c from to ≤ to
unfolding zero_from
zero-before c from to h k = omega (arith, before-le (slice from to c), length-slice from to c k)

-- ---- no zero byte stands before it

front-text : (s : List ℕ) → no_zero (take (before_zero s) s) ≡ true
unfolding before_zero no_zero
front-text [] = refl
front-text (x ∷ s) = by (eqb x 0) refl (front-text s)
  where
    by : (t : Bool) → eqb x 0 ≡ t → no_zero (take (before_zero s) s) ≡ true → no_zero (take (cond t 0 (suc (before_zero s))) (x ∷ s)) ≡ true
    by true e h = refl
    by false e h = both _ _ (ap not e) h

pub zero-text : (c : List ℕ) (from to : ℕ) → from ≤ to → to ≤ length c → no_zero (part c from (zero_from c from to - from)) ≡ true
unfolding zero_from
zero-text c from to h k =
    let n : ℕ = before_zero (slice from to c) in
    let l : from + n ≤ to = omega (arith, before-le (slice from to c), length-slice from to c k) in
    let e : take (from + n - from) (drop from c) ≡ take n (slice from to c) =
    slice-lent from (from + n) c (omega arith) (omega arith) ∙ sym (take-slice from to n c l k) in
    ap no_zero e ∙ front-text (slice from to c)

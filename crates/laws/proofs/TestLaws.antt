-- Laws of tests: a row of tests taken apart and put together, and what one number that collects bits says of all. Assumes nothing.
use Prim.Native.Nat.{ℕ, zero, suc, ◌+◌, ◌-◌, ◌*◌, ◌/◌, ◌%◌, ◌^◌, ◌≤◌, ◌<◌, max}
use native.Mathlib.Nat.{zero-add, add_assoc, suc-mul}
use native.Mathlib.Numerals.{add-one}
use native.Mathlib.Omega.{arith}
use mathlib.Core.Path.{◌≡◌, refl, sym, ◌∙◌, ap, ap₂}
use mathlib.Core.Bool.{Bool, true, false, false≢true, ◌&&◌, ◌||◌, beq}
use mathlib.Core.List.{List, [], ◌∷◌, ◌++◌}
use borrow.Author.Tests.{eqb-true, eq-eqb, leb-true, le-leb}
use lib.Dec.{eqb, leb}
use lib.Arith.{bin_ind, digits_mod}
use lib.Bits.{bit_or, or_add_and, and_le_l, and_le_r, or_lt, or_step, or_shr}
use lib.ListN.{length, get_or, take, drop, replicate}
use lib.Seq.{slice, slice-cons}
use Rattle.laws.specs.Tests.{◌and◌, all_zero, all_le, all_bits, sum, same}

-- both halves of a row of tests that holds
pub left : (a b : Bool) → (a and b) ≡ true → a ≡ true
unfolding ◌and◌
left true b e = refl
left false b e = e

pub right : (a b : Bool) → (a and b) ≡ true → b ≡ true
unfolding ◌and◌
right true b e = e
right false b e = absurd (false≢true e)

pub both : (a b : Bool) → a ≡ true → b ≡ true → (a and b) ≡ true
unfolding ◌and◌
both a b p q = rw (p, q)

-- the same of code's own conjunction
pub and_left : (a b : Bool) → (a && b) ≡ true → a ≡ true
and_left true b e = refl
and_left false b e = e

pub and_right : (a b : Bool) → (a && b) ≡ true → b ≡ true
and_right true b e = e
and_right false b e = absurd (false≢true e)

pub both_of : (a b : Bool) → (a && b) ≡ true → (a ≡ true) × (b ≡ true)
both_of a b e = (and_left a b e, and_right a b e)

-- what follows from each of two tests follows where one of them holds
pub either : (P : Type 0) (a b : Bool) → (a ≡ true → P) → (b ≡ true → P) → (a || b) ≡ true → P
either P true b f g e = f refl
either P false b f g e = g e

-- neither holds where not one of two does
pub neither : (a b : Bool) → (a || b) ≡ false → (a ≡ false) × (b ≡ false)
neither true b e = absurd (false≢true (sym e))
neither false b e = (refl, e)

-- a test that holds leaves the one behind it, and one that fails decides
pub and-true : {a : Bool} (b : Bool) → a ≡ true → (a and b) ≡ b
unfolding ◌and◌
and-true b e = simp e

pub and-false : {a : Bool} (b : Bool) → a ≡ false → (a and b) ≡ false
unfolding ◌and◌
and-false b e = simp e

-- a row of tests is what code makes of it
pub and_is : (a b : Bool) → (a and b) ≡ (a && b)
unfolding ◌and◌
and_is true b = refl
and_is false b = refl

pub and_assoc : (a b c : Bool) → ((a and b) and c) ≡ (a and (b and c))
unfolding ◌and◌
and_assoc true b c = refl
and_assoc false b c = refl

-- a loop's test so far, one test more, and those that are left
pub and-next : (a b c : Bool) → ((a && b) and c) ≡ (a and (b and c))
unfolding ◌and◌
and-next true b c = refl
and-next false b c = refl

-- no test is left
pub and-end : (a : Bool) → (a and true) ≡ a
unfolding ◌and◌
and-end true = refl
and-end false = refl

-- two tests that hold together are the same test
pub same_test : (a b : Bool) → (a ≡ true → b ≡ true) → (b ≡ true → a ≡ true) → a ≡ b
same_test true b p q = sym (p refl)
same_test false true p q = q refl
same_test false false p q = refl

-- a test that can't fail
pub unless : (b : Bool) → (b ≡ false → ⊥) → b ≡ true
unless true h = refl
unless false h = absurd (h refl)

-- tests that were found the same
pub alike : (a b : Bool) → beq a b ≡ true → a ≡ b
alike true true e = refl
alike true false e = absurd (false≢true e)
alike false true e = absurd (false≢true e)
alike false false e = refl

pub all_zero-append : (xs ys : List ℕ) → all_zero (xs ++ ys) ≡ (all_zero xs and all_zero ys)
unfolding all_zero ◌and◌
all_zero-append [] ys = refl
all_zero-append (x ∷ xs) ys = ap (λ (b : Bool). eqb x 0 and b) (all_zero-append xs ys) ∙ sym (and_assoc (eqb x 0) (all_zero xs) (all_zero ys))

pub all_zero-zeros : (n : ℕ) → all_zero (replicate n 0) ≡ true
unfolding all_zero ◌and◌
all_zero-zeros zero = refl
all_zero-zeros (suc n) = all_zero-zeros n

pub all_le-append : (b : ℕ) (xs ys : List ℕ) → all_le b (xs ++ ys) ≡ (all_le b xs and all_le b ys)
unfolding all_le ◌and◌
all_le-append b [] ys = refl
all_le-append b (x ∷ xs) ys = ap (λ (c : Bool). leb x b and c) (all_le-append b xs ys) ∙ sym (and_assoc (leb x b) (all_le b xs) (all_le b ys))

-- every number keeps a bound, one by one; of one number, and of bytes
pub each-le : (b : ℕ) (xs : List ℕ) → ((i : ℕ) → get_or xs i 0 ≤ b) → all_le b xs ≡ true
unfolding all_le
each-le b [] h = refl
each-le b (x ∷ xs) h = both _ _ (le-leb x b (h 0)) (each-le b xs (λ i. h (suc i)))

pub one-le : (b v : ℕ) → v ≤ b → all_le b (v ∷ []) ≡ true
unfolding all_le
one-le b v h = both _ _ (le-leb v b h) refl

pub all-bytes : (s : List ℕ) → ((i : ℕ) → get_or s i 0 < 256) → all_le 255 s ≡ true
all-bytes s h = each-le 255 s (λ i. let k = h i in omega arith)

-- one of numbers within a bound, and parts of them
pub le-at : (b : ℕ) (xs : List ℕ) (i : ℕ) → all_le b xs ≡ true → get_or xs i 0 ≤ b
unfolding all_le
le-at b [] i e = omega arith
le-at b (x ∷ xs) zero e = leb-true _ _ (left _ _ e)
le-at b (x ∷ xs) (suc i) e = le-at b xs i (right _ _ e)

pub low-take : (b n : ℕ) (l : List ℕ) → all_le b l ≡ true → all_le b (take n l) ≡ true
unfolding all_le
low-take b zero [] h = refl
low-take b zero (x ∷ l) h = refl
low-take b (suc n) [] h = refl
low-take b (suc n) (x ∷ l) h = both _ _ (left _ _ h) (low-take b n l (right _ _ h))

pub low-drop : (b n : ℕ) (l : List ℕ) → all_le b l ≡ true → all_le b (drop n l) ≡ true
unfolding all_le
low-drop b zero [] h = h
low-drop b zero (x ∷ l) h = h
low-drop b (suc n) [] h = h
low-drop b (suc n) (x ∷ l) h = low-drop b n l (right _ _ h)

pub low-slice : (b f t : ℕ) (l : List ℕ) → all_le b l ≡ true → all_le b (slice f t l) ≡ true
low-slice b f t l h = low-drop b f (take t l) (low-take b t l h)

-- zeros keep every bound
pub zeros-le : (b : ℕ) (s : List ℕ) → all_zero s ≡ true → all_le b s ≡ true
unfolding all_zero all_le
zeros-le b [] e = refl
zeros-le b (x ∷ s) e =
    let z : x ≡ 0 = eqb-true x 0 (left _ _ e) in
    both _ _ (le-leb x b (omega arith)) (zeros-le b s (right _ _ e))

pub sum-append : (xs ys : List ℕ) → sum (xs ++ ys) ≡ sum xs + sum ys
unfolding sum
sum-append [] ys = sym (zero-add (sum ys))
sum-append (x ∷ xs) ys = ap (λ (n : ℕ). x + n) (sum-append xs ys) ∙ sym (add_assoc x (sum xs) (sum ys))

-- the sum of a part: its first number, and the others
pub sum-next : (w : List ℕ) (i to : ℕ) → i < to → to ≤ length w → sum (slice i to w) ≡ get_or w i 0 + sum (slice (i + 1) to w)
unfolding sum
sum-next w i to lt le = rw (add-one, slice-cons i to w 0 lt le)

-- numbers within a bound: their sum
pub sum-most : (b : ℕ) (s : List ℕ) → all_le b s ≡ true → sum s ≤ length s * b
unfolding sum all_le
sum-most b [] e = omega arith
sum-most b (x ∷ s) e =
    let h : x ≤ b = leb-true x b (left _ _ e) in
    rw (suc-mul (length s) b) (omega (arith, sum-most b s (right _ _ e)))

-- a list all of whose numbers are 0 is known by its length
pub zeros-are : (s : List ℕ) → all_zero s ≡ true → s ≡ replicate (length s) 0
unfolding all_zero
zeros-are [] e = refl
zeros-are (x ∷ s) e = λ j. eqb-true x 0 (left _ _ e) j ∷ zeros-are s (right _ _ e) j

-- lists that were found the same are equal
pub same-is : (a b : List ℕ) → same a b ≡ true → a ≡ b
unfolding same
same-is [] [] e = refl
same-is [] (y ∷ ys) e = absurd (false≢true e)
same-is (x ∷ xs) [] e = absurd (false≢true e)
same-is (x ∷ xs) (y ∷ ys) e = ap₂ (λ (u : ℕ) (us : List ℕ). u ∷ us) (eqb-true _ _ (left _ _ e)) (same-is xs ys (right _ _ e))

or-zero : (a b : ℕ) → eqb (bit_or a b) 0 ≡ (eqb a 0 and eqb b 0)
or-zero a b =
    same_test _ _
    (λ e.
    let z : bit_or a b ≡ 0 = eqb-true _ _ e in
    let p : a ≡ 0 = omega (arith, or_add_and a b, and_le_r a b) in
    let q : b ≡ 0 = omega (arith, or_add_and a b, and_le_l a b) in
    both _ _ (eq-eqb a 0 p) (eq-eqb b 0 q))
    (λ e.
    let p : a ≡ 0 = eqb-true a 0 (left _ _ e) in
    let q : b ≡ 0 = eqb-true b 0 (right _ _ e) in
    eq-eqb (bit_or a b) 0 (omega (arith, or_add_and a b)))

-- the collected bits are 0 just where every number is
pub bits-zero : (s : List ℕ) → eqb (all_bits s) 0 ≡ all_zero s
unfolding all_bits all_zero
bits-zero [] = refl
bits-zero (x ∷ s) = or-zero x (all_bits s) ∙ ap (λ (b : Bool). eqb x 0 and b) (bits-zero s)

or-le : (k a b : ℕ) → leb (bit_or a b) (2 ^ k - 1) ≡ (leb a (2 ^ k - 1) and leb b (2 ^ k - 1))
or-le k a b =
    same_test _ _
    (λ e.
    let z : bit_or a b ≤ 2 ^ k - 1 = leb-true _ _ e in
    both _ _ (le-leb a (2 ^ k - 1) (omega (arith, or_add_and a b, and_le_r a b))) (le-leb b (2 ^ k - 1) (omega (arith, or_add_and a b, and_le_l a b))))
    (λ e.
    let p : a ≤ 2 ^ k - 1 = leb-true _ _ (left _ _ e) in
    let q : b ≤ 2 ^ k - 1 = leb-true _ _ (right _ _ e) in
    let o : 1 ≤ 2 ^ k = lib.Pow.pow_pos k in
    le-leb (bit_or a b) (2 ^ k - 1) (omega (arith, or_lt k a b (omega arith) (omega arith))))

-- the collected bits are within a bound of ones just where every number is
pub bits-le : (k : ℕ) (s : List ℕ) → leb (all_bits s) (2 ^ k - 1) ≡ all_le (2 ^ k - 1) s
unfolding all_bits all_le
bits-le k [] = le-leb 0 (2 ^ k - 1) (omega arith)
bits-le k (x ∷ s) = or-le k x (all_bits s) ∙ ap (λ (b : Bool). leb x (2 ^ k - 1) and b) (bits-le k s)

-- the lowest bit of collected bits
or-odd : (a b : ℕ) → bit_or a b % 2 ≡ max (a % 2) (b % 2)
or-odd a b = ap (λ (n : ℕ). n % 2) (or_step a b) ∙ digits_mod (bit_or (a / 2) (b / 2)) (omega arith)

-- the largest of three
max_assoc : (a b c : ℕ) → max (max a b) c ≡ max a (max b c)
max_assoc a b c = omega arith

-- bits are collected in any grouping
pub or_assoc : (a b c : ℕ) → bit_or (bit_or a b) c ≡ bit_or a (bit_or b c)
or_assoc a =
    bin_ind (λ (n : ℕ). (b c : ℕ) → bit_or (bit_or n b) c ≡ bit_or n (bit_or b c)) (λ b c. refl)
    (λ n ih b c.
    or_step (bit_or n b) c
    ∙ ap₂ (λ (x y : ℕ). bit_or x (c / 2) * 2 + max y (c % 2)) (or_shr n b 1) (or-odd n b)
    ∙ ap₂ (λ (x y : ℕ). x * 2 + y) (ih (b / 2) (c / 2)) (max_assoc (n % 2) (b % 2) (c % 2))
    ∙ sym (or_step n (bit_or b c) ∙ ap₂ (λ (x y : ℕ). bit_or (n / 2) x * 2 + max (n % 2) y) (or_shr b c 1) (or-odd b c)))
    a

-- Tests of numbers, of lists of them, and rows of tests.
use Rattle.std.specs.Prelude.{ℕ, ◌+◌, Bool, true, false, not, ◌||◌, List, [], ◌∷◌, eqb, leb}
use Rattle.std.specs.Int.Bits.{bit_or}

-- ==== The rules

-- both tests hold: a conjunction that stays shut, so that a law can take a long row of tests apart
infixr 40 ◌and◌
unfoldable pub ◌and◌ : Bool → Bool → Bool
true and b = b
false and b = false

-- every number is 0
unfoldable pub all_zero : List ℕ → Bool
all_zero [] = true
all_zero (x ∷ xs) = eqb x 0 and all_zero xs

-- no number is 0
unfoldable pub no_zero : List ℕ → Bool
no_zero [] = true
no_zero (x ∷ xs) = not (eqb x 0) and no_zero xs

-- every number is at most the bound
unfoldable pub all_le : ℕ → List ℕ → Bool
all_le bound [] = true
all_le bound (x ∷ xs) = leb x bound and all_le bound xs

unfoldable pub sum : List ℕ → ℕ
sum [] = 0
sum (x ∷ xs) = x + sum xs

-- the number is one of a list
unfoldable pub among : ℕ → List ℕ → Bool
among id [] = false
among id (d ∷ ds) = eqb d id || among id ds

-- two lists are equal
unfoldable pub same : List ℕ → List ℕ → Bool
same [] [] = true
same [] (y ∷ ys) = false
same (x ∷ xs) [] = false
same (x ∷ xs) (y ∷ ys) = eqb x y and same xs ys

-- ==== What only mirrors the code

-- the bits that are set in one number or another
unfoldable pub all_bits : List ℕ → ℕ
all_bits [] = 0
all_bits (x ∷ xs) = bit_or x (all_bits xs)

-- Single elements of a list, with a default where there is none; lists of one element; lists one behind the other. Assumes nothing.
use Prim.Native.Nat.{ℕ, zero, suc, ◌-◌, ◌<◌, ◌≤◌}
use native.Mathlib.Nat.{not-suc-le-zero, le_of_suc-le-suc, sub-zero}
use native.Mathlib.Omega.{arith}
use mathlib.Core.Path.{◌≡◌, refl, sym, ◌∙◌, ap}
use mathlib.Core.List.{List, [], ◌∷◌, ◌++◌, flatten, Permᴰ}
use lib.ListN.{length, get_or, take, drop, replicate, length-append}
use lib.Seq.{take_at, drop_at}

-- inside a list the default doesn't matter
pub get_d-in : (l : List ℕ) (i d d' : ℕ) → i < length l → get_or l i d ≡ get_or l i d'
get_d-in [] i d d' h = absurd (not-suc-le-zero h)
get_d-in (x ∷ l) zero d d' h = refl
get_d-in (x ∷ l) (suc i) d d' h = get_d-in l i d d' (le_of_suc-le-suc h)

-- the rest of a list of one element
pub drop-replicate : (k n a : ℕ) → drop k (replicate n a) ≡ replicate (n - k) a
drop-replicate zero zero a = refl
drop-replicate zero (suc n) a = rw sub-zero
drop-replicate (suc k) zero a = let z : 0 - suc k ≡ 0 = omega arith in rw z
drop-replicate (suc k) (suc n) a = let z : suc n - suc k ≡ n - k = omega arith in rw z (drop-replicate k n a)

-- and its front
pub take-replicate : (k n a : ℕ) → k ≤ n → take k (replicate n a) ≡ replicate k a
take-replicate zero zero a h = refl
take-replicate zero (suc n) a h = refl
take-replicate (suc k) zero a h = absurd (not-suc-le-zero h)
take-replicate (suc k) (suc n) a h = ap (λ (l : List ℕ). a ∷ l) (take-replicate k n a (le_of_suc-le-suc h))

-- two fronts of one length, of the same list
pub fronts-same : (a b x y : List ℕ) → a ++ x ≡ b ++ y → length a ≡ length b → (a ≡ b) × (x ≡ y)
fronts-same a b x y e l = (
  sym (take_at a x (length b) l) ∙ ap (take (length b)) e ∙ take_at b y (length b) refl,
  sym (drop_at a x (length b) l) ∙ ap (drop (length b)) e ∙ drop_at b y (length b) refl,
)

-- how long lists are together doesn't go by their order
pub flatten-long : {ts us : List (List ℕ)} → Permᴰ ts us → length (flatten ts) ≡ length (flatten us)
unfolding flatten
flatten-long Permᴰ.nil = refl
flatten-long (Permᴰ.cons {a} {b} {l₁} {l₂} e d) =
    omega (arith, length-append a (flatten l₁), length-append b (flatten l₂), ap length e, flatten-long d)
flatten-long (Permᴰ.swap {a} {b} {a'} {b'} {l} e f) =
    omega (
      arith,
      length-append a (b ++ flatten l),
      length-append b (flatten l),
      length-append a' (b' ++ flatten l),
      length-append b' (flatten l),
      ap length e,
      ap length f,
    )
flatten-long (Permᴰ.trans d d') = flatten-long d ∙ flatten-long d'

-- Laws of numbers as bytes, once over the width. Assumes nothing.
use Prim.Native.Nat.{ℕ, zero, suc, ◌+◌, ◌*◌, ◌/◌, ◌%◌, ◌^◌, ◌≤◌, ◌<◌}
use native.Mathlib.Nat.{zero-add, suc-add, zero-mul, add-mul, mul_assoc, add_assoc, mul_comm, div-div-eq-div-mul, mod-one, div-one, mod-eq_of_lt, pow-succ', one-le-pow}
use native.Mathlib.Nat.{mul-add-div_right, mul-add-mod_self_right}
use native.Mathlib.Omega.{arith}
use mathlib.Core.Path.{◌≡◌, refl, sym, ◌∙◌, ap, ap₂}
use mathlib.Core.Bool.{true}
use mathlib.Core.List.{List, [], ◌∷◌, ◌++◌}
use borrow.Author.Tests.{leb-true}
use lib.ListN.{length, length-append, get_or, take, drop}
use lib.Arith.{mod-mul, digits_lt, digits_div}
use lib.Pow.{pow-add}
use lib.Dec.{lit<}
use lib.Seq.{slice, length-slice}
use Rattle.laws.specs.Bytes.{be, de, Bytes}
use Rattle.laws.specs.Tests.{all_le}
use Rattle.laws.proofs.TestLaws.{left, right}

pub pow_pos : (k : ℕ) → 0 < 256 ^ k
pow_pos k = one-le-pow k 256 (lit< tt)

pub length-be : (k v : ℕ) → length (be k v) ≡ k
unfolding be
length-be zero v = refl
length-be (suc k) v = ap suc (length-be k v)

-- a number that one byte holds
pub be-one : (v : ℕ) → v < 256 → be 1 v ≡ v ∷ []
unfolding be
be-one v h = rw (div-one v, mod-eq_of_lt h)

-- a number's bytes in two parts
pub be-split : (j k v : ℕ) → be (j + k) v ≡ be j (v / 256 ^ k) ++ be k v
unfolding be
be-split zero k v = rw zero-add
be-split (suc j) k v =
    ap (λ (n : ℕ). be n v) (suc-add j k)
    ∙ ap (λ (x : ℕ). (x % 256) ∷ be (j + k) v)
    (ap (λ (n : ℕ). v / n) (pow-add 256 j k ∙ mul_comm (256 ^ j) (256 ^ k)) ∙ sym (div-div-eq-div-mul v (256 ^ k) (256 ^ j)))
    ∙ ap (λ (l : List ℕ). (v / 256 ^ k / 256 ^ j % 256) ∷ l) (be-split j k v)

-- what two runs of bytes spell together
pub de-append : (a b : List ℕ) → de (a ++ b) ≡ de a * 256 ^ length b + de b
unfolding de
de-append [] b = sym (ap (λ (n : ℕ). n + de b) (zero-mul (256 ^ length b)) ∙ zero-add (de b))
de-append (x ∷ a) b =
    ap (λ (n : ℕ). x * 256 ^ n + de (a ++ b)) (length-append a b)
    ∙ ap (λ (n : ℕ). x * n + de (a ++ b)) (pow-add 256 (length a) (length b))
    ∙ ap (λ (n : ℕ). x * (256 ^ length a * 256 ^ length b) + n) (de-append a b)
    ∙ ap (λ (n : ℕ). n + (de a * 256 ^ length b + de b)) (sym (mul_assoc x (256 ^ length a) (256 ^ length b)))
    ∙ sym (add_assoc (x * 256 ^ length a * 256 ^ length b) (de a * 256 ^ length b) (de b))
    ∙ ap (λ (n : ℕ). n + de b) (sym (add-mul (x * 256 ^ length a) (de a) (256 ^ length b)))

-- the number that the bytes spell is what they were made of, as far as they hold it
pub de-be : (k v : ℕ) → de (be k v) ≡ v % 256 ^ k
unfolding be de
de-be zero v = sym (mod-one v)
de-be (suc k) v =
    ap (λ (n : ℕ). v / 256 ^ k % 256 * 256 ^ n + de (be k v)) (length-be k v)
    ∙ ap (λ (n : ℕ). v / 256 ^ k % 256 * 256 ^ k + n) (de-be k v)
    ∙ sym (mod-mul v (lit< tt) (pow_pos k))
    ∙ ap (λ (n : ℕ). v % n) (sym (pow-succ' 256 k))

pub de-be-small : (k v : ℕ) → v < 256 ^ k → de (be k v) ≡ v
de-be-small k v h = de-be k v ∙ mod-eq_of_lt h

-- the bytes that a slice of bytes holds
pub are-bytes : (s : List ℕ) → ((i : ℕ) → get_or s i 0 < 256) → Bytes s
are-bytes [] h = tt
are-bytes (b ∷ s) h = (h 0, are-bytes s (λ i. h (suc i)))

-- the same by a test
pub bytes-are : (s : List ℕ) → all_le 255 s ≡ true → Bytes s
unfolding all_le
bytes-are [] e = tt
bytes-are (b ∷ s) e = let h : b ≤ 255 = leb-true b 255 (left _ _ e) in (omega arith, bytes-are s (right _ _ e))

pub bytes_take : (n : ℕ) (s : List ℕ) → Bytes s → Bytes (take n s)
bytes_take zero [] h = tt
bytes_take zero (b ∷ s) h = tt
bytes_take (suc n) [] h = tt
bytes_take (suc n) (b ∷ s) h = (h.0, bytes_take n s h.1)

pub bytes_drop : (n : ℕ) (s : List ℕ) → Bytes s → Bytes (drop n s)
bytes_drop zero [] h = tt
bytes_drop zero (b ∷ s) h = h
bytes_drop (suc n) [] h = tt
bytes_drop (suc n) (b ∷ s) h = bytes_drop n s h.1

-- bytes spell no number past their width
pub de-lt : (s : List ℕ) → Bytes s → de s < 256 ^ length s
unfolding de
de-lt [] h = lit< tt
de-lt (b ∷ s) h = rw (pow-succ' 256 (length s)) (digits_lt h.0 (de-lt s h.1))

-- bytes of a number don't tell what stands above them
be-high : (k m a v : ℕ) → be k (a * 256 ^ (k + m) + v) ≡ be k v
unfolding be
be-high zero m a v = refl
be-high (suc k) m a v =
    let p : ℕ = 256 ^ k in
    let e : a * 256 ^ (suc k + m) ≡ a * 256 ^ m * 256 * p =
    let s : suc k + m ≡ m + suc k = omega arith in
    ap (λ (n : ℕ). a * 256 ^ n) s
    ∙ ap (λ (n : ℕ). a * n) (pow-add 256 m (suc k) ∙ ap (λ (n : ℕ). 256 ^ m * n) (pow-succ' 256 k))
    ∙ sym (mul_assoc a (256 ^ m) (256 * p))
    ∙ sym (mul_assoc (a * 256 ^ m) 256 p) in
    let d : (a * 256 ^ (suc k + m) + v) / p % 256 ≡ v / p % 256 =
    ap (λ (n : ℕ). (n + v) / p % 256) e
    ∙ ap (λ (n : ℕ). n % 256) (mul-add-div_right (pow_pos k) (a * 256 ^ m * 256) v)
    ∙ mul-add-mod_self_right (a * 256 ^ m) 256 (v / p) in
    let n : suc k + m ≡ k + suc m = omega arith in
    ap₂ (λ (x : ℕ) (l : List ℕ). x ∷ l) d (ap (λ (i : ℕ). be k (a * 256 ^ i + v)) n ∙ be-high k (suc m) a v)

-- bytes are those of the number that they spell
pub be-de : (s : List ℕ) → Bytes s → be (length s) (de s) ≡ s
unfolding be de
be-de [] h = refl
be-de (b ∷ s) h =
    let p : ℕ = 256 ^ length s in
    let d : (b * p + de s) / p % 256 ≡ b = ap (λ (n : ℕ). n % 256) (digits_div b (de-lt s h.1)) ∙ mod-eq_of_lt h.0 in
    let n : length s + 0 ≡ length s = omega arith in
    ap₂ (λ (x : ℕ) (l : List ℕ). x ∷ l) d
    (ap (λ (i : ℕ). be (length s) (b * 256 ^ i + de s)) (sym n) ∙ be-high (length s) 0 b (de s) ∙ be-de s h.1)

-- and so are those of a part of a chunk
pub be-slice : (c : List ℕ) → all_le 255 c ≡ true → (k at : ℕ) → at + k ≤ length c → be k (de (slice at (at + k) c)) ≡ slice at (at + k) c
be-slice c low k at h =
    let n : length (slice at (at + k) c) ≡ k = omega (arith, length-slice at (at + k) c h) in
    ap (λ (i : ℕ). be i (de (slice at (at + k) c))) (sym n)
    ∙ be-de (slice at (at + k) c) (bytes_drop at (take (at + k) c) (bytes_take (at + k) c (bytes-are c low)))

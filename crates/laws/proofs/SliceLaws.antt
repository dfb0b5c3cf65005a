-- Parts of a list by their places: what `lib.Seq` lacks. Assumes nothing.
use Prim.Native.Nat.{ℕ, zero, suc, ◌+◌, ◌-◌, ◌≤◌}
use native.Mathlib.Nat.{zero-add, suc-add}
use native.Mathlib.Omega.{arith}
use native.Mathlib.Decide.{dec_lt}
use mathlib.Core.Path.{◌≡◌, refl, sym, ◌∙◌, ap}
use mathlib.Core.List.{List, [], ◌∷◌, ◌++◌}
use lib.ListN.{length, take, drop, length-take, drop_of_length-le, take-append-drop, length-drop}
use lib.Seq.{slice, take-nil, length-take-le, take-add, take-take, take_all, drop_at, drop-drop, take-append-add, take-append_seam, drop-append_seam, drop-append-le, take-append-le, drop-append-add, drop-length}

-- nothing stands between a place and one not after it
pub slice-none : (f t : ℕ) (l : List ℕ) → t ≤ f → slice f t l ≡ []
slice-none f t l h = let k : length (take t l) ≤ f = omega (arith, length-take t l) in drop_of_length-le (take t l) k

-- a part is no longer than the list
pub slice-few : (f t : ℕ) (l : List ℕ) → length (slice f t l) ≤ length l
slice-few f t l = simp (length-drop, length-take) (omega arith)

-- the first n of a part
pub take-slice : (f t n : ℕ) (l : List ℕ) → f + n ≤ t → t ≤ length l → take n (slice f t l) ≡ slice f (f + n) l
take-slice f t n l h k =
    let e : take (f + n) l ≡ take f (take t l) ++ take n (drop f (take t l)) =
    sym (take-take (f + n) t l h) ∙ take-add f n (take t l) in
    let lf : length (take f (take t l)) ≡ f = omega (arith, length-take f (take t l), length-take t l) in
    sym (ap (drop f) e ∙ drop_at (take f (take t l)) _ f lf)

-- the rest of a part
pub drop-slice : (f t n : ℕ) (l : List ℕ) → drop n (slice f t l) ≡ slice (f + n) t l
drop-slice f t n l = drop-drop n f (take t l)

-- a part that goes to the list's end
pub slice-to-end : (f n : ℕ) (l : List ℕ) → length l ≡ n → slice f n l ≡ drop f l
slice-to-end f n l e = ap (drop f) (take_all n l (omega arith))

-- what is left of a list from a place on is the last so many of it
pub drop-last : (n : ℕ) (l p : List ℕ) → p ≡ drop n l → p ≡ drop (length l - length p) l
drop-last n l p e =
    let k : length p ≡ length l - n = ap length e ∙ length-drop n l in
    elim (dec_lt (length l) n) [
      | yes h ↦
          let z : length l - length p ≡ length l = omega arith in
          e ∙ drop_of_length-le l {i = n} (omega arith) ∙ sym (ap (λ (m : ℕ). drop m l) z ∙ drop-length l)
      | no h ↦
          let z : length l - length p ≡ n = omega arith in
          e ∙ ap (λ (m : ℕ). drop m l) (sym z)
    ]

-- a part of the middle as it is lent
pub slice-lent : (a e : ℕ) (s : List ℕ) → a ≤ e → e ≤ length s → take (e - a) (drop a s) ≡ slice a e s
slice-lent a e s h k =
    let n : a + (e - a) ≡ e = omega arith in
    ap (λ (l : List ℕ). take (e - a) l) (sym (slice-to-end a (length s) s refl))
    ∙ take-slice a (length s) (e - a) s (omega arith) (omega arith)
    ∙ ap (λ (m : ℕ). slice a m s) n

-- the part that stands between two others
pub slice-between : (pre mid post : List ℕ) → slice (length pre) (length pre + length mid) (pre ++ (mid ++ post)) ≡ mid
slice-between pre mid post = rw (take-append-add pre (mid ++ post) (length mid), take-append_seam, drop-append_seam)

-- a part of what stands between two others
pub slice-within : (pre mid post : List ℕ) (a b : ℕ) → b ≤ length mid → slice (length pre + a) (length pre + b) (pre ++ (mid ++ post)) ≡ slice a b mid
slice-within pre mid post a b h =
    rw (take-append-add pre (mid ++ post) b, take-append-le b mid post h, drop-append-add pre (take b mid) a)

-- a part is its front and its rest
pub slice-join : (f m t : ℕ) (l : List ℕ) → f ≤ m → m ≤ t → t ≤ length l → slice f t l ≡ slice f m l ++ slice m t l
slice-join f m t l a b c =
    let n : f ≤ length (take m (take t l)) = omega (arith, length-take m (take t l), length-take t l) in
    ap (drop f) (sym (take-append-drop m (take t l)))
    ∙ drop-append-le f (take m (take t l)) (drop m (take t l)) n
    ∙ ap (λ (z : List ℕ). drop f z ++ drop m (take t l)) (take-take m t l b)

-- a part of what is left of a list from a place on, as a part of the list
pub slice-drop : (at i j : ℕ) (l : List ℕ) → at ≤ length l → slice i j (drop at l) ≡ slice (at + i) (at + j) l
slice-drop at i j l h =
    sym
    (sym (drop-drop i at (take (at + j) l))
    ∙ ap (drop i) (ap (drop at) (take-add at j l) ∙ drop_at (take at l) (take j (drop at l)) at (length-take-le at l h)))

-- so many numbers from a place on, wherever the list ends
pub slice_front : (f n : ℕ) (l : List ℕ) → slice f (f + n) l ≡ take n (drop f l)
slice_front zero n l = rw zero-add
slice_front (suc f) n [] = ap (drop (suc f)) (take-nil (suc f + n)) ∙ sym (take-nil n)
slice_front (suc f) n (x ∷ l) = rw suc-add (slice_front f n l)

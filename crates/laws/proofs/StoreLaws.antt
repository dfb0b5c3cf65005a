-- Runs of stores: what code leaves in a slice, one store after another. Assumes nothing.
use Prim.Native.Nat.{ℕ, suc, ◌+◌, ◌-◌, ◌≤◌, ◌<◌}
use native.Mathlib.Nat.{zero-add, suc-add, add-zero, add-suc}
use native.Mathlib.Omega.{arith}
use native.Mathlib.Numerals.{add-one}
use mathlib.Core.Path.{◌≡◌, refl, sym, ◌∙◌, ap}
use mathlib.Core.List.{List, [], ◌∷◌, ◌++◌, append_assoc}
use lib.ListN.{length, get_or, set, take, drop, replicate, take-append-drop, length-set}
use lib.Seq.{sets, sets-eq, drop-drop, set_comm, set-append_left, length-take-le, take-suc-set, drop-set-lt, get_or-set_other}
use borrow.Rule.Slice.PartMut.{put_mid, mid_of, post_of, mid_len}

-- a run after a run
pub sets-append : (us vs l : List ℕ) (i : ℕ) → sets l i (us ++ vs) ≡ sets (sets l i us) (i + length us) vs
sets-append [] vs l i = rw add-zero
sets-append (u ∷ us) vs l i =
    sets-append us vs (set l i u) (suc i)
    ∙ ap (λ (k : ℕ). sets (sets (set l i u) (suc i) us) k vs) (suc-add i (length us) ∙ sym (add-suc i (length us)))

-- a word before a run of stores
pub word-before : (vs w : List ℕ) (i p : ℕ) → p < i → get_or (sets w i vs) p 0 ≡ get_or w p 0
word-before [] w i p h = refl
word-before (v ∷ vs) w i p h = word-before vs (set w i v) (suc i) p (omega arith) ∙ get_or-set_other w i p v 0 (omega arith)

-- a word behind it
pub word-behind : (vs w : List ℕ) (i p : ℕ) → i + length vs ≤ p → get_or (sets w i vs) p 0 ≡ get_or w p 0
word-behind [] w i p h = refl
word-behind (v ∷ vs) w i p h = word-behind vs (set w i v) (suc i) p (omega arith) ∙ get_or-set_other w i p v 0 (omega arith)

-- a store before a run of stores
pub set-sets : (vs l : List ℕ) (p i v : ℕ) → p < i → set (sets l i vs) p v ≡ sets (set l p v) i vs
set-sets [] l p i v h = refl
set-sets (a ∷ vs) l p i v h =
    set-sets vs (set l i a) p (suc i) v (omega arith) ∙ ap (λ (k : List ℕ). sets k (suc i) vs) (set_comm l i p a v (omega arith))

set_after : (xs ys : List ℕ) (i v : ℕ) → set (xs ++ ys) (length xs + i) v ≡ xs ++ set ys i v
set_after [] ys i v = rw zero-add
set_after (x ∷ xs) ys i v = rw suc-add (ap (λ (l : List ℕ). x ∷ l) (set_after xs ys i v))

-- a run that lies in the second of two lists, or in the first
pub sets-after : (vs xs ys : List ℕ) (i : ℕ) → sets (xs ++ ys) (length xs + i) vs ≡ xs ++ sets ys i vs
sets-after [] xs ys i = refl
sets-after (v ∷ vs) xs ys i = rw (set_after xs ys i v, ← add-suc (length xs) i) (sets-after vs xs (set ys i v) (suc i))

pub sets-before : (vs xs ys : List ℕ) (i : ℕ) → i + length vs ≤ length xs → sets (xs ++ ys) i vs ≡ sets xs i vs ++ ys
sets-before [] xs ys i h = refl
sets-before (v ∷ vs) xs ys i h =
    let k : i < length xs = omega arith in
    let m : suc i + length vs ≤ length (set xs i v) = omega (arith, length-set xs i v) in
    rw (set-append_left xs ys i v k) (sets-before vs (set xs i v) ys (suc i) m)

-- what was written from the front of a part that was lent is written from the part's place in the whole
pub put-sets : (a e : ℕ) (xs vs : List ℕ) → a ≤ e → e ≤ length xs → length vs ≤ e - a
    → put_mid a (e - a) xs (sets (mid_of a (e - a) xs) 0 vs) ≡ sets xs a vs
put-sets a e xs vs h g l =
    let A : List ℕ = take a xs in
    let M : List ℕ = mid_of a (e - a) xs in
    let P : List ℕ = post_of a (e - a) xs in
    let la : length A + 0 ≡ a = omega (arith, length-take-le a xs (omega arith)) in
    let lm : 0 + length vs ≤ length M = omega (arith, mid_len a e xs g) in
    let whole : A ++ (M ++ P) ≡ xs = ap (λ (z : List ℕ). A ++ z) (take-append-drop (e - a) (drop a xs)) ∙ take-append-drop a xs in
    let run : sets (A ++ (M ++ P)) (length A + 0) vs ≡ A ++ (sets M 0 vs ++ P) =
    sets-after vs A (M ++ P) 0 ∙ ap (λ (z : List ℕ). A ++ z) (sets-before vs M P 0 lm) in
    sym (ap (λ (z : List ℕ). sets z a vs) (sym whole) ∙ ap (λ (n : ℕ). sets (A ++ (M ++ P)) n vs) (sym la) ∙ run)

-- where all of the part was written
pub put-whole : (a k : ℕ) (xs vs : List ℕ) → k ≡ length vs → a + length vs ≤ length xs → put_mid a k xs vs ≡ sets xs a vs
put-whole a k xs vs e h =
    rw e
    (ap (λ (z : List ℕ). take a xs ++ (vs ++ z)) (drop-drop (length vs) a xs)
    ∙ sym (append_assoc (take a xs) vs (drop (a + length vs) xs))
    ∙ sym (sets-eq vs xs a h))

-- the list s with 0 from the place i up to the place to
abbrev pub cleared : List ℕ → ℕ → ℕ → List ℕ
cleared s i to = take i s ++ (replicate (to - i) 0 ++ drop to s)

-- a loop that stores 0: one store more, and none left
pub clear-more : (s : List ℕ) (i to : ℕ) → i < to → to ≤ length s → cleared (set s i 0) (i + 1) to ≡ cleared s i to
clear-more s i to h l =
    let e : to - i ≡ suc (to - suc i) = omega arith in
    let k : i < length s = omega arith in
    rw (add-one, take-suc-set s i 0 k, drop-set-lt to s i 0 h, e) (append_assoc (take i s) (0 ∷ []) _)

pub clear-end : (s : List ℕ) (i to : ℕ) → i ≡ to → cleared s i to ≡ s
clear-end s i to q =
    let e : to - i ≡ 0 = omega arith in
    rw (e, q) (take-append-drop to s)

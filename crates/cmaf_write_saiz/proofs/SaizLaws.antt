-- The bytes of `saiz`: the sizes of entries, whether they are equal, the length, and the head as words; and those of `saio`. Assumes nothing.
use Prim.Native.Nat.{ℕ, zero, suc, ◌+◌, ◌-◌, ◌≤◌, ◌<◌}
use native.Mathlib.Numerals.{add-one}
use native.Mathlib.Omega.{arith}
use mathlib.Core.Path.{◌≡◌, refl, sym, ◌∙◌, ap}
use mathlib.Core.Bool.{Bool, true, false}
use mathlib.Core.List.{List, [], ◌∷◌, ◌++◌, append_assoc, append-nil}
use borrow.Author.Tests.{eq-eqb, ne_eqb}
use lib.Dec.{lit<}
use lib.ListN.{length, length-append}
use Rattle.laws.specs.Bytes.{be}
use Rattle.laws.proofs.BytesLaws.{length-be, be-one}
use Rattle.track.specs.declared.Track.{Track}
use Rattle.boxes.specs.Box.{words, full_box}
use Rattle.boxes.specs.Box as B
use Rattle.boxes.proofs.BoxLaws.{length-full_box, full_box-head, box-words}
use Rattle.field_set.specs.Lawful.{count_in}
use Rattle.cmaf_write_saiz.specs.Saiz.{info_size, info_sizes, all_sized, saiz_box, saio_box}

pub sizes-length : (t : Track) (w : List ℕ) (k i : ℕ) → length (info_sizes t w k i) ≡ k
unfolding info_sizes
sizes-length t w zero i = refl
sizes-length t w (suc k) i = ap suc (sizes-length t w k (suc i))

module _ (t : Track) (w : List ℕ) (n i : ℕ) where
  pub sizes-end : n ≤ i → info_sizes t w (n - i) i ≡ []
  unfolding info_sizes
  sizes-end h = let e : n - i ≡ 0 = omega arith in rw e

  pub sizes-next : {r : ℕ} → i < n → r ≡ info_size t w i → r < 256 → info_sizes t w (n - i) i ≡ be 1 r ++ info_sizes t w (n - (i + 1)) (i + 1)
  unfolding info_sizes
  sizes-next {r} h q s = let e : n - i ≡ suc (n - suc i) = omega arith in rw (be-one r s, add-one i, e, q)

  pub sized-end : (v : ℕ) → n ≤ i → all_sized t w v (n - i) i ≡ true
  unfolding all_sized
  sized-end v h = let e : n - i ≡ 0 = omega arith in rw e

  pub sized-next : (v : ℕ) → i < n → info_size t w i ≡ v → all_sized t w v (n - i) i ≡ all_sized t w v (n - (i + 1)) (i + 1)
  unfolding all_sized
  sized-next v h q = let e : n - i ≡ suc (n - suc i) = omega arith in rw (add-one i, e, eq-eqb (info_size t w i) v q)

  pub sized-not : (v : ℕ) → i < n → (info_size t w i ≡ v → ⊥) → all_sized t w v (n - i) i ≡ false
  unfolding all_sized
  sized-not v h q = let e : n - i ≡ suc (n - suc i) = omega arith in rw (e, ne_eqb (info_size t w i) v q)

-- ---- the box

words-none : (body : List ℕ) → words [] ++ body ≡ body
unfolding words
words-none body = refl

module _ (t : Track) (w : List ℕ) where
  -- all entries have the size of the first
  module _ {v : ℕ} {r : Bool} (q : v ≡ info_size t w 0) (g : r ≡ all_sized t w v (count_in w) 0) (e : r ≡ true) where
    same : all_sized t w (info_size t w 0) (count_in w) 0 ≡ true
    same = rw q at (sym g ∙ e)

    pub saiz-length-same : length (saiz_box t w) ≡ 17
    unfolding saiz_box
    saiz-length-same = rw same (length-full_box B.saiz 0 0 (info_size t w 0 ∷ be 4 (count_in w)) ∙ simp length-be)

    pub saiz-same : v < 256 → words (17 ∷ B.saiz ∷ 0 ∷ []) ++ (be 1 v ++ be 4 (count_in w)) ≡ saiz_box t w
    unfolding saiz_box
    saiz-same h = rw (same, be-one v h, q) (full_box-head B.saiz 0 0 17 0 [] (info_size t w 0 ∷ be 4 (count_in w)) (words-none _) refl (simp length-be))

  -- or not
  module _ {v : ℕ} {r : Bool} (q : v ≡ info_size t w 0) (g : r ≡ all_sized t w v (count_in w) 0) (e : r ≡ false) where
    other : all_sized t w (info_size t w 0) (count_in w) 0 ≡ false
    other = rw q at (sym g ∙ e)

    pub saiz-length-other : length (saiz_box t w) ≡ 17 + count_in w
    unfolding saiz_box
    saiz-length-other =
        rw other
        (length-full_box B.saiz 0 0 (0 ∷ (be 4 (count_in w) ++ info_sizes t w (count_in w) 0))
        ∙ simp (length-append, length-be, sizes-length) (omega arith))

    pub saiz-other : words ((17 + count_in w) ∷ B.saiz ∷ 0 ∷ []) ++ (be 1 0 ++ be 4 (count_in w)) ++ info_sizes t w (count_in w) 0 ≡ saiz_box t w
    unfolding saiz_box
    saiz-other =
        let n : ℕ = count_in w in
        let head : List ℕ = words ((17 + n) ∷ B.saiz ∷ 0 ∷ []) in
        let body : List ℕ = 0 ∷ (be 4 n ++ info_sizes t w n 0) in
        let size : 17 + n ≡ 12 + length body = simp (length-append, length-be, sizes-length) (omega arith) in
        rw (other, be-one 0 (lit< tt)) (append_assoc head (0 ∷ be 4 n) (info_sizes t w n 0) ∙ full_box-head B.saiz 0 0 (17 + n) 0 [] body (words-none body) refl size)

-- ---- saio

pub saio-length : (offset : ℕ) → length (saio_box offset) ≡ 20
unfolding saio_box
saio-length offset = length-full_box B.saio 0 0 (be 4 1 ++ be 4 offset) ∙ simp (length-append, length-be)

pub saio-words : (offset : ℕ) → words (20 ∷ B.saio ∷ 0 ∷ 1 ∷ offset ∷ []) ≡ saio_box offset
unfolding saio_box full_box words
saio-words offset =
    box-words B.saio 20 (0 ∷ 1 ∷ offset ∷ []) (ap (λ (x : List ℕ). be 4 0 ++ (be 4 1 ++ x)) (sym (append-nil (be 4 offset)))) refl

-- Laws of noting a tuple in the words of its id. Assumes nothing.
use Prim.Native.Nat.{ℕ, suc, ◌+◌, ◌*◌, ◌≤◌, ◌<◌}
use native.Mathlib.Omega.{arith}
use mathlib.Core.Path.{◌≡◌, refl, sym, ◌∙◌}
use mathlib.Core.Bool.{Bool, true, false, cond, ◌&&◌, and-false}
use mathlib.Core.List.{List, [], ◌∷◌}
use borrow.Author.Tests.{le-leb, lt-leb, ne_eqb, eq-eqb, ltb-true, ltb-false}
use lib.Dec.{ltb, eqb}
use lib.ListN.{length, get_or, set, length-set}
use lib.Seq.{sets, get_or-set_same, get_or-set_other}
use Rattle.constants.specs.Ids.{id_count}
use Rattle.locmaf_read_index.specs.Places.{index_len, stands_at, number_at, many_at}
use Rattle.locmaf_read_block.specs.declared.tuples.Tuple.{Tuple}
use Rattle.locmaf_read_block.specs.Tuples.{part_of}
use Rattle.locmaf_read_block.specs.Entries.{known}
use Rattle.locmaf_read_index.specs.Index.{fresh, noted}

-- no id past 27 is known
pub known_small : (id : ℕ) → known id ≡ true → id < id_count
unfolding known
known_small id e = go (ltb id id_count) refl
  where
    go : (b : Bool) → ltb id id_count ≡ b → id < id_count
    go true q = ltb-true _ _ q
    go false q =
        let h : id_count ≤ id = ltb-false _ _ q in
        let z : false ≡ true =
        rw (
          le-leb 1 id (omega arith),
          lt-leb id 16 (omega arith),
          ne_eqb id 18 (λ p. omega arith),
          ne_eqb id 20 (λ p. omega arith),
          le-leb 22 id (omega arith),
          lt-leb id 25 (omega arith),
          ne_eqb id 27 (λ p. omega arith),
        ) at e in
        cc

-- an id that was asked, and is known
pub small-known : (id : ℕ) {b : Bool} → b ≡ known id → b ≡ true → id < id_count
small-known id e f = known_small id (sym e ∙ f)

module _ (words : List ℕ) (id : ℕ) where
  pub fresh-unknown : known id ≡ false → false ≡ fresh words id
  unfolding fresh
  fresh-unknown e = rw e

  pub fresh-twice : (get_or words (stands_at id) 0 ≡ 0 → ⊥) → false ≡ fresh words id
  unfolding fresh
  fresh-twice n = rw (ne_eqb _ _ n, and-false)

  pub fresh-is : known id ≡ true → get_or words (stands_at id) 0 ≡ 0 → true ≡ fresh words id
  unfolding fresh
  fresh-is e z = rw (e, eq-eqb _ _ z)

  -- a fresh id is known
  pub fresh-known : fresh words id ≡ true → known id ≡ true
  unfolding fresh
  fresh-known e = go (known id) e
    where
      go : (b : Bool) → b && eqb (get_or words (stands_at id) 0) 0 ≡ true → b ≡ true
      go true q = refl
      go false q = q

module _ (words : List ℕ) (t : Tuple) (count : ℕ) where
  pub noted-not : false ≡ fresh words t.id → words ≡ noted words t count
  unfolding noted
  noted-not e = rw (← e)

  pub noted-is : true ≡ fresh words t.id
      → set (set (set words (stands_at t.id) ((part_of t.kind).at + 1)) (number_at t.id) t.number) (many_at t.id) count ≡ noted words t count
  unfolding noted
  noted-is e =
      let e₁ : t.id * 3 + 1 ≡ suc (stands_at t.id) = omega arith in
      let e₂ : t.id * 3 + 2 ≡ suc (suc (stands_at t.id)) = omega arith in
      rw (← e, e₁, e₂)

-- ---- the words of an id, and of the others

module _ (l : List ℕ) (i x y z : ℕ) where
  three-other : (j : ℕ) → (j ≡ i → ⊥) → (j ≡ suc i → ⊥) → (j ≡ suc (suc i) → ⊥) → get_or (sets l i (x ∷ y ∷ z ∷ [])) j 0 ≡ get_or l j 0
  three-other j n₀ n₁ n₂ =
      get_or-set_other (set (set l i x) (suc i) y) (suc (suc i)) j z 0 n₂
      ∙ get_or-set_other (set l i x) (suc i) j y 0 n₁
      ∙ get_or-set_other l i j x 0 n₀

  module _ (h : i + 2 < length l) where
    three-first : get_or (sets l i (x ∷ y ∷ z ∷ [])) i 0 ≡ x
    three-first =
        get_or-set_other (set (set l i x) (suc i) y) (suc (suc i)) i z 0 (λ e. omega arith)
        ∙ get_or-set_other (set l i x) (suc i) i y 0 (λ e. omega arith)
        ∙ get_or-set_same l i x 0 (omega arith)

    three-second : get_or (sets l i (x ∷ y ∷ z ∷ [])) (suc i) 0 ≡ y
    three-second =
        get_or-set_other (set (set l i x) (suc i) y) (suc (suc i)) (suc i) z 0 (λ e. omega arith)
        ∙ get_or-set_same (set l i x) (suc i) y 0 (omega (arith, length-set l i x))

    three_third : get_or (sets l i (x ∷ y ∷ z ∷ [])) (suc (suc i)) 0 ≡ z
    three_third =
        get_or-set_same (set (set l i x) (suc i) y) (suc (suc i)) z 0 (omega (arith, length-set (set l i x) (suc i) y, length-set l i x))

-- the three words of an id
pub record Cell (words : List ℕ) (id first second third : ℕ) : Type 0 where
  pub one : get_or words (stands_at id) 0 ≡ first
  pub two : get_or words (number_at id) 0 ≡ second
  pub three : get_or words (many_at id) 0 ≡ third

module _ (words : List ℕ) (t : Tuple) (count : ℕ) where
  written : fresh words t.id ≡ true → noted words t count ≡ sets words (stands_at t.id) (((part_of t.kind).at + 1) ∷ t.number ∷ count ∷ [])
  unfolding noted
  written e = rw e

  -- an id that was fresh has its words
  pub noted-cell : length words ≡ index_len → fresh words t.id ≡ true → Cell (noted words t count) t.id ((part_of t.kind).at + 1) t.number count
  noted-cell l e =
      let k : t.id < id_count = known_small t.id (fresh-known words t.id e) in
      let h : t.id * 3 + 2 < length words = omega arith in
      let e₁ : t.id * 3 + 1 ≡ suc (stands_at t.id) = omega arith in
      let e₂ : t.id * 3 + 2 ≡ suc (suc (stands_at t.id)) = omega arith in
      rw (written e)
      (record {
        one = three-first words (stands_at t.id) ((part_of t.kind).at + 1) t.number count h;
        two = rw e₁ (three-second words (stands_at t.id) ((part_of t.kind).at + 1) t.number count h);
        three = rw e₂ (three_third words (stands_at t.id) ((part_of t.kind).at + 1) t.number count h);
      })

  -- and the words of the others stay
  pub noted_other : (id i : ℕ) → (t.id ≡ id → ⊥) → i < 3 → get_or (noted words t count) (stands_at id + i) 0 ≡ get_or words (stands_at id + i) 0
  unfolding noted
  noted_other id i n h = go (fresh words t.id)
    where
      go : (b : Bool)
          → get_or (cond b (sets words (stands_at t.id) (((part_of t.kind).at + 1) ∷ t.number ∷ count ∷ [])) words) (stands_at id + i) 0 ≡ get_or words (stands_at id + i) 0
      go true =
          three-other words (stands_at t.id) ((part_of t.kind).at + 1) t.number count (stands_at id + i)
          (λ e. n (omega arith))
          (λ e. n (omega arith))
          (λ e. n (omega arith))
      go false = refl

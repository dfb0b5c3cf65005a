-- Which ids may stand: what code finds of them, and on which ids it rests. Assumes nothing.
use Prim.Native.Nat.{ℕ}
use native.Mathlib.Omega.{arith}
use mathlib.Core.Path.{◌≡◌, refl, sym, ◌∙◌, ap}
use mathlib.Core.Bool.{Bool, true, false, cond, not, ◌&&◌, ◌||◌, beq}
use mathlib.Core.List.{List}
use Rattle.locmaf_read_index.specs.declared.index.Indexed.{Indexed}
use Rattle.locmaf_read_index.specs.declared.index.Indexed.TheVariants.{Cut, Stray, Clean}
use Rattle.locmaf_read_head.specs.Ids.{ids_ok, stands_in, block_number, index_number}

-- the tests as code joins them, by those of the kind of object
abbrev pub id_tests : (ℕ → Bool) → Bool → Bool
id_tests at here = beq (at 18) (at 20) && ((at 18 || not (at 22 || at 24)) && here)

module _ (delta kept : Bool) (index : List ℕ) (here : Bool) where
  pub ids-delta : delta ≡ true → here ≡ (not (stands_in index 23) && (not (stands_in index 18) || kept))
      → id_tests (stands_in index) here ≡ ids_ok delta kept (stands_in index)
  unfolding ids_ok
  ids-delta d e = rw (d, e)

  pub ids-full : delta ≡ false → here ≡ (not (stands_in index 27) && (stands_in index 10 && stands_in index 14))
      → id_tests (stands_in index) here ≡ ids_ok delta kept (stands_in index)
  unfolding ids_ok
  ids-full d e = rw (d, e)

-- the test of ids rests on eight of them
pub ids-says : (delta kept : Bool) (at at' : ℕ → Bool)
    → at 10 ≡ at' 10 → at 14 ≡ at' 14 → at 18 ≡ at' 18 → at 20 ≡ at' 20 → at 22 ≡ at' 22 → at 23 ≡ at' 23 → at 24 ≡ at' 24 → at 27 ≡ at' 27
    → ids_ok delta kept at ≡ ids_ok delta kept at'
unfolding ids_ok
ids-says delta kept at at' a b c d e f g h = rw (a, b, c, d, e, f, g, h)

-- the index's number, by what it came to
pub number_is : (v : Indexed) {i : Indexed} → i ≡ v → index_number v ≡ index_number i
number_is v e = rw e

-- the number of a block: where the index gives one, that, and else by whether the ids may stand together
pub number-given : (i : Indexed) (ok : Bool) (k : ℕ) → k ≡ index_number i → (k ≡ 0 → ⊥) → k ≡ block_number i ok
number-given Cut ok k e n = e
number-given Stray ok k e n = e
number-given Clean ok k e n = absurd (n e)

module _ (i : Indexed) (ok r : Bool) (k : ℕ) (given : k ≡ index_number i) (none : k ≡ 0) (same : r ≡ ok) where
  number-late : (j : Indexed) → k ≡ index_number j → cond ok 0 13 ≡ block_number j ok
  number-late Cut e = absurd (omega (arith, none, e))
  number-late Stray e = absurd (omega (arith, none, e))
  number-late Clean e = refl

  pub number-right : r ≡ true → 0 ≡ block_number i ok
  number-right e = let q : ok ≡ true = sym same ∙ e in sym (ap (λ (b : Bool). cond b 0 13) q) ∙ number-late i given

  pub number-wrong : r ≡ false → 13 ≡ block_number i ok
  number-wrong e = let q : ok ≡ false = sym same ∙ e in sym (ap (λ (b : Bool). cond b 0 13) q) ∙ number-late i given

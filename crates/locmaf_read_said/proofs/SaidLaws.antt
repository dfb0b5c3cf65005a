-- What the three words of an id say. Assumes nothing.
use Prim.Native.Nat.{ℕ, ◌-◌}
use mathlib.Core.Path.{◌≡◌}
use mathlib.Core.List.{List}
use borrow.Author.Tests.{eq-eqb, ne_eqb}
use lib.ListN.{get_or}
use Rattle.locmaf_read_index.specs.Places.{stands_at, number_at, many_at}
use Rattle.locmaf_read_said.specs.declared.said.Word.TheVariants.{Omitted, Deleted, Sent}
use Rattle.locmaf_read_said.specs.Said.{span, word_in}

module _ (index gone : List ℕ) (id : ℕ) where
  pub word-sent : (get_or index (stands_at id) 0 ≡ 0 → ⊥)
      → Sent (span (get_or index (stands_at id) 0 - 1) (get_or index (number_at id) 0) (get_or index (many_at id) 0)) ≡ word_in index gone id
  unfolding word_in
  word-sent n = rw (ne_eqb (get_or index (stands_at id) 0) 0 n)

  pub word-deleted : get_or index (stands_at id) 0 ≡ 0 → (get_or gone id 0 ≡ 0 → ⊥) → Deleted ≡ word_in index gone id
  unfolding word_in
  word-deleted e n = rw (eq-eqb (get_or index (stands_at id) 0) 0 e, ne_eqb (get_or gone id 0) 0 n)

  pub word-omitted : get_or index (stands_at id) 0 ≡ 0 → get_or gone id 0 ≡ 0 → Omitted ≡ word_in index gone id
  unfolding word_in
  word-omitted e n = rw (eq-eqb (get_or index (stands_at id) 0) 0 e, eq-eqb (get_or gone id 0) 0 n)

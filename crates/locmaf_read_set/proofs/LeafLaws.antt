-- What an object is read against, its sample count, and the test that a line's field stands. Assumes nothing.
use Prim.Native.Nat.{ℕ, ◌-◌, ◌<◌}
use native.Mathlib.Omega.{arith}
use mathlib.Core.Path.{◌≡◌, refl}
use mathlib.Core.Bool.{Bool, true, false, cond, not, ◌&&◌, ◌||◌}
use mathlib.Core.List.{List}
use borrow.Author.Tests.{eq-eqb, ne_eqb}
use lib.Dec.{eqb}
use lib.ListN.{get_or}
use Rattle.constants.specs.Maxima.{samples_most}
use Rattle.constants.specs.Ids.{id_count}
use Rattle.locmaf_read_index.specs.Places.{stands_at, number_at, many_at}
use Rattle.wire.specs.declared.zigzag.Coding.{Coding}
use Rattle.std.specs.Prelude.{Option, Some}
use Rattle.wire.specs.Zigzag.{reached}
use Rattle.field_table.specs.Lines.{lines, spare, set_len, place_of, line_count}
use Rattle.field_table.proofs.LineLaws.{place-of, shaped}
use Rattle.locmaf_read_said.specs.declared.said.Span.{Span}
use Rattle.locmaf_read_said.specs.declared.said.Word.TheVariants.{Omitted, Deleted, Sent}
use Rattle.locmaf_read_said.specs.Said.{span, word_in, scalar_in}
use Rattle.field_rules.specs.Fields.{stood}
use Rattle.locmaf_read_field.proofs.MarkedLaws.{kinded}
use Rattle.locmaf_read_set.specs.Read.{count_from, word_stands, stays_in}

-- the count stays where id 14 is absent
pub count_kept : (coding : Coding) (index : List ℕ) (old : ℕ) → get_or index (stands_at 14) 0 ≡ 0 → Some old ≡ count_from coding (scalar_in index 14) old
unfolding count_from scalar_in
count_kept coding index old e = rw (eq-eqb (get_or index (stands_at 14) 0) 0 e)

-- and goes by its number where it stands
pub count-sent : (coding : Coding) (index : List ℕ) (old : ℕ) (g : Option ℕ) → (get_or index (stands_at 14) 0 ≡ 0 → ⊥) → g ≡ reached coding old samples_most (get_or index (number_at 14) 0)
    → g ≡ count_from coding (scalar_in index 14) old
unfolding count_from scalar_in
count-sent coding index old g n e = rw (ne_eqb (get_or index (stands_at 14) 0) 0 n) e

-- a line's id is one of the index
pub line-id : (i : ℕ) → i < line_count → (id : ℕ) → id ≡ (get_or lines i spare).id → id < id_count
line-id i lt id e = rw e (kinded i lt).small

-- and its mark one of the set's words
pub line-place : (i : ℕ) → i < line_count → (place : ℕ) → place ≡ place_of i → place < set_len
line-place i lt place e = rw (e, place-of i lt) (omega (arith, (shaped i lt).inside))

-- a word that isn't 0 says that an id is sent; else a mark says that it is deleted, and what stood stays where there is none
by_tests : (a b c : Bool) (s : Span) → (not a || (b && c)) ≡ word_stands (cond a (cond b Omitted Deleted) (Sent s)) c
by_tests true true c s = refl
by_tests true false c s = refl
by_tests false b c s = refl

word-stays : (index gone : List ℕ) (id : ℕ) (c : Bool)
    → (not (eqb (get_or index (stands_at id) 0) 0) || (eqb (get_or gone id 0) 0 && c)) ≡ word_stands (word_in index gone id) c
unfolding word_in
word-stays index gone id c =
    by_tests (eqb (get_or index (stands_at id) 0) 0) (eqb (get_or gone id 0) 0) c
    (span (get_or index (stands_at id) 0 - 1) (get_or index (number_at id) 0) (get_or index (many_at id) 0))

-- the test of the words that a line's field stands
pub stays_by : (index gone : List ℕ) (held : Bool) (r : List ℕ) (i : ℕ) → i < line_count → (id place : ℕ) → id ≡ (get_or lines i spare).id → place ≡ place_of i
    → (not (eqb (get_or index (stands_at id) 0) 0) || (eqb (get_or gone id 0) 0 && (held && not (eqb (get_or r place 0) 0))))
    ≡ stays_in index gone held r (get_or lines i spare)
unfolding stays_in
stays_by index gone held r i lt id place ed ep =
    rw (ed, ep, place-of i lt) (word-stays index gone (get_or lines i spare).id (stood held r (get_or lines i spare)))

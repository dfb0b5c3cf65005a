-- Fields that don't stand in the set that is written have no tuple, so the place of their mark is enough to pass over them. Assumes nothing.
use Prim.Native.Nat.{ℕ, ◌+◌, ◌≤◌, ◌<◌}
use native.Mathlib.Omega.{arith}
use mathlib.Core.Path.{◌≡◌, refl, sym, ◌∙◌, ap}
use mathlib.Core.Bool.{Bool, true, false, cond, ◌&&◌}
use mathlib.Core.List.{List}
use borrow.Author.Tests.{eqb-true, eq-eqb}
use lib.Dec.{eqb}
use lib.ListN.{length, get_or}
use Rattle.laws.proofs.TestLaws.{and_left, and_right}
use Rattle.wire.specs.declared.form.Row.{Row}
use Rattle.track.specs.declared.Track.{Track}
use Rattle.field_table.specs.declared.lines.Line.{Line}
use Rattle.field_table.specs.Lines.{lines, spare, line_count, set_len, place_of, subsamples_at, first_flags_at, clear_at, protected_at}
use Rattle.field_table.proofs.LineLaws.{place-of, shaped}
use Rattle.field_rules.specs.Fields.{stood}
use Rattle.locmaf_write_block.specs.declared.cells.Change.TheVariants.{Omitted, Deleted}
use Rattle.locmaf_write_tuples.specs.Items.{Items, nothing, ◌before◌}
use Rattle.locmaf_write_block.specs.Changes.{chunk_lines, on_change, change_of, sent_items, line_items}
use Rattle.locmaf_write_block.specs.Fields.{before_bmdt, before_count, between, field_at}
use Rattle.locmaf_write_tuples.proofs.ItemLaws.{nothing-before}
use Rattle.locmaf_write_block.proofs.LinesLaws.{lines_none, lines_cons}

-- the mark of a line lies in a set's words
pub mark-in : (i : ℕ) → i < line_count → (p : ℕ) → p ≡ place_of i → (x : List ℕ) → length x ≡ set_len → p < length x
mark-in i lt p e x h = omega (arith, e, place-of i lt, (shaped i lt).inside, h)

-- so does that of a line that a chunk has
pub chunk-mark : (i : ℕ) → i < chunk_lines → (p : ℕ) → p ≡ place_of i → (x : List ℕ) → length x ≡ set_len → p < length x
chunk-mark i lt = mark-in i (omega arith)

module _ (F : List Row) (t : Track) (delta follow : Bool) (r x : List ℕ) where
  -- a field without its mark, deleted or not
  pub line-absent : (l : Line) → get_or x l.place 0 ≡ 0 → nothing ≡ line_items t delta follow r x l F
  unfolding line_items change_of
  line-absent l z = rw (eq-eqb (get_or x l.place 0) 0 z) (go (stood delta r l))
    where
      go : (old : Bool) → nothing ≡ on_change (cond old Deleted Omitted) (sent_items t delta r x l F) nothing
      go true = refl
      go false = refl

  -- by its place, of the lines that a chunk has
  pub absent-at : (i : ℕ) → i < chunk_lines → (p : ℕ) → p ≡ place_of i → get_or x p 0 ≡ 0 → nothing ≡ field_at F t delta follow r x i
  absent-at i lt p e z = line-absent (get_or lines i spare) (ap (λ (n : ℕ). get_or x n 0) (sym (e ∙ place-of i (omega arith))) ∙ z)

  -- a field without its mark before others that have none
  passed : (i to : ℕ) → i < to → to ≤ line_count → nothing ≡ field_at F t delta follow r x i → nothing ≡ between F t delta follow r x (i + 1) to
      → nothing ≡ between F t delta follow r x i to
  passed i to h k e f =
      f
      ∙ sym (nothing-before (between F t delta follow r x (i + 1) to))
      ∙ ap (λ (is : Items). is before between F t delta follow r x (i + 1) to) e
      ∙ sym (lines_cons F t delta follow r x i to h k)

  -- the line after the sample count
  pub high-absent : get_or x protected_at 0 ≡ 0 → nothing ≡ between F t delta follow r x before_count chunk_lines
  unfolding place_of lines
  high-absent e = passed before_count chunk_lines (omega arith) (omega arith) (absent-at 12 (omega arith) protected_at refl e) (sym (lines_none F t delta follow r x chunk_lines))

  -- those between BMDT and the sample count
  pub middle-absent : ((eqb (get_or x subsamples_at 0) 0 && eqb (get_or x first_flags_at 0) 0) && eqb (get_or x clear_at 0) 0) ≡ true → nothing ≡ between F t delta follow r x before_bmdt before_count
  unfolding place_of lines
  middle-absent e =
      let f = and_left (eqb (get_or x subsamples_at 0) 0 && eqb (get_or x first_flags_at 0) 0) (eqb (get_or x clear_at 0) 0) e in
      let p = and_left (eqb (get_or x subsamples_at 0) 0) (eqb (get_or x first_flags_at 0) 0) f in
      let q = and_right (eqb (get_or x subsamples_at 0) 0) (eqb (get_or x first_flags_at 0) 0) f in
      let s = and_right (eqb (get_or x subsamples_at 0) 0 && eqb (get_or x first_flags_at 0) 0) (eqb (get_or x clear_at 0) 0) e in
      passed before_bmdt before_count (omega arith) (omega arith) (absent-at 9 (omega arith) subsamples_at refl (eqb-true _ _ p))
      (passed 10 12 (omega arith) (omega arith) (absent-at 10 (omega arith) first_flags_at refl (eqb-true _ _ q))
      (passed 11 12 (omega arith) (omega arith) (absent-at 11 (omega arith) clear_at refl (eqb-true _ _ s)) (sym (lines_none F t delta follow r x 12))))

-- Which ids are deleted: those of the fields that are. Assumes nothing.
use Prim.Native.Nat.{ℕ, zero, suc, ◌≤◌, ◌<◌}
use native.Mathlib.Nat.{not-suc-le-zero}
use native.Mathlib.Omega.{arith}
use mathlib.Core.Path.{◌≡◌, refl, ◌∙◌}
use mathlib.Core.Bool.{Bool, true, false, and-true, and-false, or-false, ◌||◌, ◌&&◌, cond}
use mathlib.Core.List.{List, [], ◌∷◌}
use borrow.Author.Tests.{leb-true, eq-eqb, ne_eqb}
use lib.Dec.{eqb}
use lib.ListN.{length, get_or}
use Rattle.laws.proofs.TestLaws.{left, right}
use Rattle.track.specs.declared.Track.{Track}
use Rattle.field_table.specs.declared.lines.Line.{Line}
use Rattle.field_table.specs.Lines.{lines, spare, line_count}
use Rattle.field_table.proofs.LineLaws.{line-count, ascends, lines-ascend, ascends-at}
use Rattle.laws.specs.Tests.{among}
use Rattle.locmaf_write_block.specs.Changes.{change_of}
use Rattle.locmaf_write_block.specs.Fields.{is_deleted, gone_of}

module _ (t : Track) (delta follow : Bool) (r x : List ℕ) where
  -- an id is deleted with one line, or with one of the others
  gone-next : (id : ℕ) (l : Line) (ls : List Line)
      → among id (gone_of t delta follow r x (l ∷ ls)) ≡ ((is_deleted (change_of t delta follow r x l) && eqb l.id id) || among id (gone_of t delta follow r x ls))
  unfolding gone_of among
  gone-next id l ls = by (is_deleted (change_of t delta follow r x l))
    where
      by : (b : Bool) → among id (cond b (l.id ∷ gone_of t delta follow r x ls) (gone_of t delta follow r x ls)) ≡ ((b && eqb l.id id) || among id (gone_of t delta follow r x ls))
      by true = refl
      by false = refl

  gone-other : (id : ℕ) (l : Line) (ls : List Line) → (l.id ≡ id → ⊥) → among id (gone_of t delta follow r x (l ∷ ls)) ≡ among id (gone_of t delta follow r x ls)
  gone-other id l ls n = rw (gone-next id l ls, ne_eqb l.id id n, and-false)

  -- no id below those of the lines is
  gone-above : (lo id : ℕ) (ls : List Line) → ascends lo ls ≡ true → id < lo → among id (gone_of t delta follow r x ls) ≡ false
  unfolding ascends gone_of among
  gone-above lo id [] a lt = refl
  gone-above lo id (l ∷ ls) a lt =
      let low : lo ≤ l.id = leb-true _ _ (left _ _ a) in
      gone-other id l ls (λ q. omega arith) ∙ gone-above (suc l.id) id ls (right _ _ a) (omega arith)

  -- an id of the lines is where its field is deleted
  gone-from : (lo : ℕ) (ls : List Line) → ascends lo ls ≡ true → (i : ℕ) → i < length ls
      → among (get_or ls i spare).id (gone_of t delta follow r x ls) ≡ is_deleted (change_of t delta follow r x (get_or ls i spare))
  unfolding ascends
  gone-from lo [] a i lt = absurd (not-suc-le-zero lt)
  gone-from lo (l ∷ ls) a zero lt =
      rw (gone-next l.id l ls, gone-above (suc l.id) l.id ls (right _ _ a) (omega arith), eq-eqb l.id l.id refl, and-true, or-false)
  gone-from lo (l ∷ ls) a (suc i) lt =
      let above = ascends-at (suc l.id) ls (right _ _ a) i (omega arith) in
      gone-other (get_or ls i spare).id l ls (λ q. omega arith) ∙ gone-from (suc l.id) ls (right _ _ a) i (omega arith)

  -- so it is with the table
  pub gone-is : (i : ℕ) → i < line_count → among (get_or lines i spare).id (gone_of t delta follow r x lines) ≡ is_deleted (change_of t delta follow r x (get_or lines i spare))
  gone-is i lt = gone-from 0 lines lines-ascend i (omega (arith, line-count))

-- The case for id 16, taken out: it would add nothing, and what is left of it is the deletion. Assumes nothing.
use Prim.Native.Nat.{ℕ}
use native.Mathlib.Omega.{arith}
use mathlib.Core.Path.{◌≡◌, refl, sym, ◌∙◌, ap}
use mathlib.Core.Bool.{Bool, true, false, ◌&&◌, and-true}
use mathlib.Core.List.{List}
use borrow.Author.Tests.{eqb-true, not-false}
use lib.Dec.{eqb}
use lib.ListN.{get_or}
use Rattle.wire.specs.declared.form.Row.{Row}
use Rattle.track.specs.declared.Track.{Track}
use Rattle.field_table.specs.Lines.{lines, line_for}
use Rattle.field_set.specs.Lawful.{has}
use Rattle.laws.specs.Tests.{among}
use Rattle.locmaf_write_tuples.specs.Items.{Items, ◌before◌}
use Rattle.locmaf_write_block.specs.Changes.{line_items}
use Rattle.locmaf_write_block.specs.Fields.{gone_of, field_items}
use Rattle.locmaf_write_tuples.proofs.ItemLaws.{before-nothing}
use Rattle.locmaf_write_block.proofs.AbsentLaws.{line-absent}
use Rattle.locmaf_write_block.proofs.GoneLaws.{deleted-by}
use Rattle.locmaf_write_block.proofs.GoneIds.{gone-is}
use Rattle.cmaf_read_chunk.specs.Accepted.{fields}
use Rattle.cmaf_read_chunk.proofs.NoIvSize.{no-iv-size}
use Rattle.encoder.specs.Laws.{CaseTakenOut}

-- ---- a set without an id 16
module _ (t : Track) (delta follow : Bool) (r x : List ℕ) (no : has 16 x ≡ false) where
  -- its mark
  unmarked : eqb (get_or x (line_for 16 lines).place 0) 0 ≡ true
  unfolding has
  unmarked = not-false _ no

  adds-nothing : (F : List Row) → field_items F t delta follow r x before line_items t delta follow r x (line_for 16 lines) F ≡ field_items F t delta follow r x
  adds-nothing F =
      ap (λ (is : Items). field_items F t delta follow r x before is) (sym (line-absent F t delta follow r x (line_for 16 lines) (eqb-true _ _ unmarked)))
      ∙ before-nothing (field_items F t delta follow r x)

  is-listed : among 16 (gone_of t delta follow r x lines) ≡ (delta && has 16 r)
  unfolding has lines line_for
  is-listed = gone-is t delta follow r x 13 (omega arith) ∙ sym (deleted-by t delta follow r x (line_for 16 lines)) ∙ rw (unmarked, and-true) refl

pub case-taken-out : CaseTakenOut
case-taken-out F t c iv h =
    let no : has 16 (fields t c) ≡ false = no-iv-size.absent F t c iv h in
    record { same = λ delta follow r. adds-nothing t delta follow r (fields t c) no F; deleted = λ delta follow r. is-listed t delta follow r (fields t c) no }

-- `slots::calls::place_in` meets its contract: each return is a rung of the ladder, or its top.
use Rattle.slots.proofs.TableLaws.{place-wrong, place_over, place-right}
use Rattle.slots.proofs.calls.place_in.Goals as goal

pub returns-then-table-ne-TABLE-clause-place : goal.returns-then-table-ne-TABLE-clause-place
returns-then-table-ne-TABLE-clause-place c = place-wrong _ _ c.if-table-ne-TABLE.true

pub returns-then-slot-gt7-clause-place : goal.returns-then-slot-gt7-clause-place
returns-then-slot-gt7-clause-place c = place_over _ _ c.if-table-ne-TABLE.false c.if-slot-gt7.true

pub returns-clause-place : goal.returns-clause-place
returns-clause-place c = place-right _ _ c.if-table-ne-TABLE.false c.if-slot-gt7.false c.start_of.ensures

-- `receiver::receive::take_block` meets its contract.
use mathlib.Core.Path.{refl, sym}
use borrow.Author.Rules.{part_to_end}
use Rattle.wire.specs.Form.{rows}
use Rattle.field_table.specs.Lines.{set_len}
use Rattle.event_value.specs.Events.{events_len}
use Rattle.laws.proofs.HalvesLaws.{front_long}
use Rattle.receiver.proofs.receive.take_block.Goals as goal

pub judge-j-requires : goal.judge-j-requires
judge-j-requires c = record { judgeable = c.requires; words_value = refl }

pub slice_bounds-take_judged-end : goal.slice_bounds-take_judged-end
slice_bounds-take_judged-end c = sym (front_long events_len set_len c.judge-j.new.words c.judge-j.auto.words)

-- the object is decided on, by the words as `take_judged` is lent them
pub take_judged-requires : goal.take_judged-requires
take_judged-requires c = (rows c.args.form, rw part_to_end (record { head = c.requires; judged = c.judge-j.ensures }))

pub returns : goal.returns
returns c = c.take_judged.ensures (rows c.args.form) (rw part_to_end (record { head = c.requires; judged = c.judge-j.ensures }))

-- `receiver::judge::judge` meets its contract: the block with its set, and the values where neither refuses.
use mathlib.Core.Path.{refl, ◌∙◌}
use Rattle.std.proofs.lemmas.Result.{err_from_is_err_and}
use Rattle.wire.specs.Form.{rows}
use Rattle.field_table.specs.Lines.{set_len}
use Rattle.event_value.specs.Events.{events_len}
use Rattle.laws.proofs.HalvesLaws.{zeros-long}
use Rattle.receiver.proofs.ClimbLaws.{refuses-read, judged-on}
use Rattle.receiver.proofs.judge.judge.Goals as goal

pub read_block-requires : goal.read_block-requires
read_block-requires c = let p = c.requires in record { judgeable = p.judgeable; index_value = (refl, p.words_value) }

pub returns-in_err-read_block : goal.returns-in_err-read_block
returns-in_err-read_block c =
    let p = err_from_is_err_and c.from_residual.result c.from_residual.ensures.1 in
    rw (p.1, p.2) (refuses-read c.in_err-read_block.ensures _ _ _ refl)

pub judge_values-requires : goal.judge_values-requires
judge_values-requires c = record { set_read = (rows c.args.form, c.in_ok-read_block.ensures.read refl); words_len = c.read_block.auto.words ∙ zeros-long events_len set_len c.requires.words_value }

pub returns : goal.returns
returns c =
    let e = c.in_ok-read_block.ensures in
    judged-on e refl _ _ _ (c.judge_values.ensures (rows c.args.form) (e.read refl))

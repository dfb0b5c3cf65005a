-- `locmaf_write_block::cells::old_value` meets its contract.
use mathlib.Core.Path.{sym, ◌∙◌}
use Rattle.locmaf_write_block.proofs.FieldLaws.{first_some, first-none}
use Rattle.locmaf_write_block.proofs.cells.old_value.Goals as goal

pub returns-then-has_old : goal.returns-then-has_old
returns-then-has_old c =
    let a = c.args in
    first_some a.b.delta a.r.now a.b.was a.l a.base c.requires.want_value c.requires.place_in_bounds (sym c.has_old.ensures ∙ c.if-has_old.true)

pub returns : goal.returns
returns c =
    let a = c.args in
    first-none a.b.delta a.r.now a.b.was a.l a.base c.requires.want_value (sym c.has_old.ensures ∙ c.if-has_old.false)

-- `locmaf_write_block::cells::old_length` meets its contract.
use native.Mathlib.Omega.{arith}
use mathlib.Core.Path.{sym, ◌∙◌}
use Rattle.locmaf_write_block.proofs.FieldLaws.{within, olds-some, olds-none}
use Rattle.locmaf_write_block.proofs.cells.old_length.Goals as goal

pub has_old-requires : goal.has_old-requires
has_old-requires c = omega (arith, (within c.requires.chunk_line c.requires.measured).region)

pub length_of-requires : goal.length_of-requires
length_of-requires c = c.requires.measured.small

pub returns-then-has_old : goal.returns-then-has_old
returns-then-has_old c = olds-some (within c.requires.chunk_line c.requires.measured) c.args.b.delta _ c.length_of.ensures (sym c.has_old.ensures ∙ c.if-has_old.true)

pub returns : goal.returns
returns c = olds-none (within c.requires.chunk_line c.requires.measured) c.args.b.delta (sym c.has_old.ensures ∙ c.if-has_old.false)

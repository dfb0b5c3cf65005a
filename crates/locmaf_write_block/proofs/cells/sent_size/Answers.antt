-- `locmaf_write_block::cells::sent_size` meets its contract.
use native.Mathlib.Omega.{arith}
use mathlib.Core.Path.{sym, ◌∙◌}
use Rattle.wire.specs.Form.{rows}
use Rattle.locmaf_write_block.proofs.FieldLaws.{measured-old, chunk-field}
use Rattle.locmaf_write_tuples.proofs.ItemLaws.{weighed-as}
use Rattle.locmaf_write_block.proofs.SentLaws.{new-room, new-few, weighed-ivs, coded-is}
use Rattle.locmaf_write_block.proofs.cells.sent_size.Goals as goal

pub length_of-k-requires : goal.length_of-k-requires
length_of-k-requires c = let f = chunk-field _ _ _ _ _ c.requires.based c.requires.chunk_line in f.new

pub overflow_mul-k : goal.overflow_mul-k
overflow_mul-k c = let f = chunk-field _ _ _ _ _ c.requires.based c.requires.chunk_line in omega (arith, new-few f _ c.length_of-k.ensures)

pub body_size-requires : goal.body_size-requires
body_size-requires c = let f = chunk-field _ _ _ _ _ c.requires.based c.requires.chunk_line in omega (arith, new-few f _ c.length_of-k.ensures)

pub returns-then-is_ivs : goal.returns-then-is_ivs
returns-then-is_ivs c =
    let f = chunk-field _ _ _ _ _ c.requires.based c.requires.chunk_line in
    let a = c.args in
    weighed-ivs f _ c.length_of-k.ensures (sym c.is_ivs.ensures ∙ c.if-is_ivs.true)
    a.form _ c.body_size.ensures

pub coded_size-requires : goal.coded_size-requires
coded_size-requires c =
    let f = chunk-field _ _ _ _ _ c.requires.based c.requires.chunk_line in
    let k = c.length_of-k.ensures in
    record { chunk_line = c.requires.chunk_line; measured = measured-old c.requires.based; k_in_bounds = (new-room f _ k, c.requires.based.0.new-words); k_le_subsamples_most = new-few f _ k }

pub returns : goal.returns
returns c =
    let f = chunk-field _ _ _ _ _ c.requires.based c.requires.chunk_line in
    weighed-as
    (coded-is f (rows c.args.form) _ c.is_ivs.ensures c.if-is_ivs.false
    _ c.field_coding-c.ensures _ c.absent_value-base.ensures _ c.length_of-k.ensures)
    c.coded_size.ensures

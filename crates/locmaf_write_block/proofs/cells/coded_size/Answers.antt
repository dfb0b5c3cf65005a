-- `locmaf_write_block::cells::coded_size` meets its contract: one number, or those that are lent.
use native.Mathlib.Omega.{arith}
use mathlib.Core.Path.{◌∙◌}
use Rattle.wire.specs.Form.{rows}
use Rattle.locmaf_write_tuples.proofs.ItemLaws.{made-is, weighed-as, weighed-within}
use Rattle.locmaf_write_block.proofs.FieldLaws.{line_low, line-single}
use Rattle.locmaf_write_block.proofs.SentLaws.{lent_length, one-coded, list-coded, lent-list}
use Rattle.locmaf_write_block.proofs.cells.coded_size.Goals as goal

pub number_of-z-requires : goal.number_of-z-requires
number_of-z-requires c =
    let h = line-single c.args.x.now c.requires.chunk_line c.requires.measured c.requires.k_in_bounds.1 c.if-l-eq1.true in
    record { place_in_bounds = h.0; place_in_bounds_2 = h.1.0; want_value = h.1.1 }

pub number_size-requires : goal.number_size-requires
number_size-requires c = (line_low c.requires.chunk_line, made-is (rows c.args.form) _ _ _ _ c.number_of-z.ensures)

pub returns-then-l-eq1 : goal.returns-then-l-eq1
returns-then-l-eq1 c =
    let a = c.args in
    weighed-as (one-coded (rows a.form) a.c a.b a.r.now a.x.now a.l a.k a.base c.if-l-eq1.true _ c.number_of-z.ensures)
    (weighed-within (omega arith) c.number_size.ensures)

pub run_size-requires : goal.run_size-requires
run_size-requires c = (line_low c.requires.chunk_line, omega (arith, lent_length c.args.l c.args.x.now _ c.requires.k_in_bounds.0, c.requires.k_le_subsamples_most))

pub returns : goal.returns
returns c =
    let a = c.args in
    let F = rows a.form in
    let e = lent-list F a.c a.b a.r.now a.x.now a.l a.k a.base _ c.requires.k_in_bounds.0 c.old_length-u.ensures
    ∙ list-coded F a.c a.b a.r.now a.x.now a.l a.k a.base c.if-l-eq1.false in
    weighed-as e
    (weighed-within (omega (arith, lent_length a.l a.x.now _ c.requires.k_in_bounds.0, c.requires.k_le_subsamples_most)) c.run_size.ensures)

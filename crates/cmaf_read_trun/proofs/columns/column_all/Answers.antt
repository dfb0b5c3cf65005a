use mathlib.Core.Path.{refl, sym, ◌∙◌, ap}
use Rattle.laws.proofs.RowLaws.{tests-start, tests-next, tests-end}
use Rattle.cmaf_read_trun.specs.Rows.{cell}
use Rattle.cmaf_read_trun.proofs.SampleLaws.{test-row, tests-none, tests-some}
use Rattle.cmaf_read_trun.proofs.columns.column_all.Goals as goal

pub returns-then-not-has : goal.returns-then-not-has
returns-then-not-has g c =
    let a = c.args in
    λ holds means. tests-none a.c.now a.r a.column holds (sym c.has.ensures ∙ c.if-not-has.true)

pub loop-i-init : goal.loop-i-init
loop-i-init g c = record {
  all_rows = refl;
  stands = sym c.has.ensures ∙ c.if-not-has.false;
  tested = λ holds means. tests-start (test-row holds (cell c.args.c.now c.args.r c.args.column)) _;
}

pub loop-i-preserved : goal.loop-i-preserved
loop-i-preserved g c =
    let i = c.loop-i.invariant in
    let a = c.args in
    record {
      all_rows = i.all_rows;
      stands = i.stands;
      tested = λ holds means.
          tests-next (test-row holds (cell a.c.now a.r a.column)) (i.tested holds means) c.loop-i-test.true _
          (means _ _ c.cell.ensures.1 c.test-ok.ensures ∙ ap holds c.cell.ensures.0);
    }

pub returns : goal.returns
returns g c =
    let i = c.loop-i.invariant in
    let a = c.args in
    λ holds means.
    tests-some a.c.now a.r a.column holds i.all_rows i.stands
    (tests-end (test-row holds (cell a.c.now a.r a.column)) (i.tested holds means) c.loop-i-test.false)

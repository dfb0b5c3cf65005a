-- `locmaf_write_tuples::tuples::run_size` meets its contract.
use native.Mathlib.Omega.{arith}
use mathlib.Core.Path.{sym, ◌∙◌}
use Rattle.locmaf_write_tuples.proofs.TupleLaws.{measured-most, weighed-no-run, weighed-run}
use Rattle.locmaf_write_tuples.proofs.tuples.run_size.Goals as goal

pub returns-in_default : goal.returns-in_default
returns-in_default c = weighed-no-run _ _ _ _ _ _ (sym c.measure.ensures ∙ c.in_default.is) _

pub body_size-requires : goal.body_size-requires
body_size-requires c =
    let a = c.args in
    omega (
      arith,
      measured-most a.form a.coding a.base a.old.now a.new.now _ (sym c.measure.ensures ∙ c.in-Some.is),
      c.requires.1,
    )

pub returns : goal.returns
returns c =
    let a = c.args in
    weighed-run a.form a.coding a.id a.base a.old.now a.new.now c.requires.0 c.requires.1 _ _
    (sym c.measure.ensures ∙ c.in-Some.is) c.body_size.ensures

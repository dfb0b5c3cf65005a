use Prim.Native.Nat.{◌+◌}
use native.Mathlib.Omega.{arith}
use mathlib.Core.Path.{refl, sym, ◌∙◌}
use lib.ListN.{length-set}
use Rattle.std.proofs.lemmas.Result.{err_from_is_err_and}
use Rattle.runs.proofs.FillLoop.{long, done, halt, next}
use Rattle.runs.proofs.fill_rest.Goals as goal

pub loop-k-init : goal.loop-k-init
loop-k-init c = (refl, λ at before h. h)

pub returns-in_err-v : goal.returns-in_err-v
returns-in_err-v c =
    let p = err_from_is_err_and c.from_residual.result c.from_residual.ensures.1 in
    rw (p.1, p.2)
    (λ at before h. halt _ _ _ _ _ at _ _ before _ _ _ _ _ (c.loop-k.invariant.1 at before h) c.loop-k-test.true _ (sym c.in_err-v.was ∙ c.value_at.ensures))

pub overflow_add-out : goal.overflow_add-out
overflow_add-out c = omega (arith, c.loop-k.invariant.0, c.requires, c.loop-k-test.true)

pub offset_bounds-out-to : goal.offset_bounds-out-to
offset_bounds-out-to c = omega (arith, c.loop-k.invariant.0, c.requires, c.loop-k-test.true)

pub bounds-out-to : goal.bounds-out-to
bounds-out-to c = omega (arith, c.loop-k.invariant.0, c.requires, c.loop-k-test.true)

pub loop-k-preserved : goal.loop-k-preserved
loop-k-preserved c = (
  length-set c.loop-k.out (c.args.to + c.loop-k.k) _ ∙ c.loop-k.invariant.0,
  λ at before h.
      next _ _ _ _ _ at _ _ before _ _ _ _ _ (c.loop-k.invariant.1 at before h) c.loop-k-test.true _ _ c.in_ok-v.ensures,
)

pub shape_of-out-then-at-end : goal.shape_of-out-then-at-end
shape_of-out-then-at-end c = c.loop-k.invariant.0

pub returns-then-at-end : goal.returns-then-at-end
returns-then-at-end c = λ at before h. long _ _ _ _ _ at _ _ before _ _ _ _ _ (c.loop-k.invariant.1 at before h) c.loop-k-test.false c.if-at-end.true

pub shape_of-out : goal.shape_of-out
shape_of-out c = c.loop-k.invariant.0

pub returns : goal.returns
returns c = λ at before h. done _ _ _ _ _ at _ _ before _ _ _ _ _ (c.loop-k.invariant.1 at before h) c.loop-k-test.false c.if-at-end.false

-- `wire::zigzag::fit` meets its contract: the largest number is one below the form's limit.
use native.Mathlib.Omega.{arith}
use mathlib.Core.Path.{sym}
use Rattle.wire.proofs.ZigzagLaws.{fit-number, fit_wide}
use Rattle.wire.proofs.zigzag.fit.Goals as goal

pub returns-then-z-largest : goal.returns-then-z-largest
returns-then-z-largest c = sym (fit-number _ _ (omega (arith, c.largest.ensures)))

pub returns : goal.returns
returns c = sym (fit_wide _ _ (omega (arith, c.largest.ensures)))

-- `runs::one_at` meets its contract, by the laws of `proofs/NextLaws.antt`.
use native.Mathlib.Omega.{arith}
use mathlib.Core.Path.{refl}
use Rattle.wire.specs.Form.{rows}
use Rattle.wire.proofs.FormLaws.{lawful}
use Rattle.runs.proofs.NextLaws.{next_one}
use Rattle.runs.proofs.one_at.Goals as goal

pub returns-then-ones-z : goal.returns-then-ones-z
returns-then-ones-z c = λ base end here bytes. tt

pub returns : goal.returns
returns c =
    λ base end here bytes.
    next_one (rows c.args.form) _ base _ _ _ _ end _ (lawful c.args.form) (record { before = here; inside = bytes; first = refl }) c.requires.1
    c.wide-z.ensures (omega (arith, c.ones.ensures, c.if-ones-z.false)) c.reach.ensures

-- `effective::expected::expected_by` meets its contract: the sum is kept, or a mark where it passes 64 bits.
use Prim.Native.Nat.{ℕ}
use native.Mathlib.Omega.{arith}
use mathlib.Core.Path.{sym, ◌∙◌, ap}
use Rattle.effective.specs.declared.expected.Expected.{Expected}
use Rattle.effective.proofs.ExpectedLaws.{kept-sum, kept-mark}
use Rattle.effective.proofs.expected.expected_by.Goals as goal

pub returns-in-Some : goal.returns-in-Some
returns-in-Some c =
    let e = c.in-Some.ensures in
    rw e.1 (kept-sum _ (omega (arith, e)))

pub returns-in-None : goal.returns-in-None
returns-in-None c = kept-mark _ (omega (arith, c.in-None.ensures))

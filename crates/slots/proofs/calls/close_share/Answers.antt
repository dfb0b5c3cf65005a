-- `slots::calls::close_share` meets its contract: the slot is open, or a number is given.
use mathlib.Core.Path.{◌∙◌, ap}
use mathlib.Core.List.{List}
use Prim.Native.Nat.{ℕ}
use Rattle.std.proofs.lemmas.Result.{err_from_is_err_and}
use Rattle.slots.specs.Table.{out}
use Rattle.slots.proofs.CallLaws.{close-refused, close-done}
use Rattle.slots.proofs.calls.close_share.Goals as goal

pub returns-in_err-open_in : goal.returns-in_err-open_in
returns-in_err-open_in c = let p = err_from_is_err_and c.from_residual.result c.from_residual.ensures.1 in rw (p.1, p.2) (close-refused _ _ c.in_err-open_in.ensures)

pub returns : goal.returns
returns c = ap (λ (w : List ℕ). out 0 w) c.wipe.ensures ∙ close-done _ _ c.in_ok-open_in.ensures

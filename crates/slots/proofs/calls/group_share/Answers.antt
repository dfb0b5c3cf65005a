-- `slots::calls::group_share` meets its contract: the slot is open, or a number is given.
use mathlib.Core.Path.{◌∙◌, ap}
use mathlib.Core.List.{List}
use Prim.Native.Nat.{ℕ}
use Rattle.std.proofs.lemmas.Result.{err_from_is_err_and}
use Rattle.slots.specs.Table.{out}
use Rattle.slots.proofs.CallLaws.{group-refused, group-done}
use Rattle.slots.proofs.calls.group_share.Goals as goal

pub returns-in_err-open_in : goal.returns-in_err-open_in
returns-in_err-open_in c = let p = err_from_is_err_and c.from_residual.result c.from_residual.ensures.1 in rw (p.1, p.2) (group-refused _ _ c.in_err-open_in.ensures)

pub returns : goal.returns
returns c = ap (λ (w : List ℕ). out 0 w) c.drop_reference.ensures ∙ group-done _ _ c.in_ok-open_in.ensures

-- `commands::command::command_at` meets its contract: the two tests are the definition's one, and what was read is what the list spells.
use native.Mathlib.Omega.{arith}
use borrow.Author.Rules.{rules}
use Rattle.commands.proofs.CommandLaws.{cut-is, whole_is}
use Rattle.commands.proofs.command.command_at.Goals as goal

pub returns-then-end-p-lt-HEAD : goal.returns-then-end-p-lt-HEAD
returns-then-end-p-lt-HEAD c =
    let a = c.args in
    cut-is a.input.now a.p (search rules) (omega arith) c.cut.ensures

pub returns-then-end-at : goal.returns-then-end-at
returns-then-end-at c =
    let a = c.args in
    cut-is a.input.now a.p (search rules) (omega arith) c.cut-then-end-at.ensures

pub returns : goal.returns
returns c =
    let a = c.args in
    whole_is a.input.now a.p _ _ _ c.u64_at.ensures c.u64_at-2.ensures c.u64_at-n.ensures (omega arith)

-- `cmaf_read_tree::heads::head_at` meets its contract: each way out is one of the head's tests.
use native.Mathlib.Omega.{arith}
use Rattle.cmaf_read_tree.proofs.HeadLaws.{head-short, head_small, head-cut, head-stands}
use Rattle.cmaf_read_tree.proofs.heads.head_at.Goals as goal

pub returns-then-left-lt8-clause-head : goal.returns-then-left-lt8-clause-head
returns-then-left-lt8-clause-head c = let a = c.args in head-short a.b.now a.at c.if-left-lt8.true

pub returns-then-size-lt8-clause-head : goal.returns-then-size-lt8-clause-head
returns-then-size-lt8-clause-head c =
    let a = c.args in
    head_small a.b.now a.at c.requires _ c.u32_at-size.ensures.0 (omega arith)

pub returns-then-left-size-clause-head : goal.returns-then-left-size-clause-head
returns-then-left-size-clause-head c =
    let a = c.args in
    head-cut a.b.now a.at c.requires _ c.u32_at-size.ensures.0 (omega arith)

pub returns-clause-head : goal.returns-clause-head
returns-clause-head c =
    head-stands c.args.b.now c.args.at c.requires _ _ c.u32_at-size.ensures.0 c.u32_at.ensures.0
    (omega arith) (omega arith) (omega arith)

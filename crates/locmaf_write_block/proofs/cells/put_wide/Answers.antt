use borrow.Author.Rules.{rules}
use native.Mathlib.Omega.{arith}
use mathlib.Core.Path.{◌≡◌}
use lib.ListN.{take}
use lib.Seq.{take_all}
use Rattle.laws.specs.Bytes.{be}
use Rattle.laws.proofs.WriteLaws.{wrote_none}
use Rattle.locmaf_write_tuples.specs.Items.{wide_bytes}
use Rattle.locmaf_write_block.proofs.WideLaws.{then-wide}
use Rattle.locmaf_write_block.proofs.cells.put_wide.Goals as goal

pub loop-w-init : goal.loop-w-init
unfolding wide_bytes
loop-w-init c = (search rules, search rules, search rules, wrote_none _ _ (omega arith))

pub loop-w-preserved : goal.loop-w-preserved
unfolding be
loop-w-preserved c =
    let ws = c.args.ws.now in
    (omega arith, omega arith, omega arith, then-wide ws c.loop-w.w-index (omega arith) c.loop-w.invariant.3 c.put_u64-p.ensures)

pub returns : goal.returns
returns c =
    let a = c.args in
    let all : take c.loop-w.w-index a.ws.now ≡ a.ws.now = take_all c.loop-w.w-index a.ws.now (omega arith) in
    rw all at c.loop-w.invariant.3

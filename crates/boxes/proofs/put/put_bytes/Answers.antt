use borrow.Author.Rules.{rules}
use native.Mathlib.Omega.{arith}
use mathlib.Core.Path.{◌≡◌}
use lib.ListN.{take, length-set}
use lib.Seq.{take_all}
use Rattle.laws.proofs.WriteLaws.{wrote_none, then_one}
use Rattle.boxes.proofs.put.put_bytes.Goals as goal

pub loop-i-init : goal.loop-i-init
loop-i-init c = (search rules, search rules, search rules, wrote_none c.args.out.now c.args.at (omega arith))

pub loop-i-preserved : goal.loop-i-preserved
loop-i-preserved c = (omega arith, omega arith, simp length-set (omega arith), then_one c.args.src.now c.loop-i.i (omega arith) (omega arith) c.loop-i.invariant.3)

pub returns : goal.returns
returns c =
    let all : take c.loop-i.i c.args.src.now ≡ c.args.src.now = take_all c.loop-i.i c.args.src.now (omega arith) in
    rw all at c.loop-i.invariant.3

use native.Mathlib.Omega.{arith}
use mathlib.Core.Path.{◌≡◌}
use borrow.Author.Rules.{rules}
use lib.ListN.{take}
use lib.Seq.{take_all}
use Rattle.laws.specs.Bytes.{be}
use Rattle.laws.proofs.WriteLaws.{wrote_none}
use Rattle.boxes.specs.Box.{words}
use Rattle.boxes.proofs.BoxLaws.{then-word}
use Rattle.boxes.proofs.put.put_words.Goals as goal

pub loop-i-init : goal.loop-i-init
unfolding words
loop-i-init c = (search rules, search rules, search rules, wrote_none _ _ (omega arith))

pub loop-i-preserved : goal.loop-i-preserved
unfolding be
loop-i-preserved c = (omega arith, omega arith, omega arith, then-word c.args.ws.now c.loop-i.i (omega arith) c.loop-i.invariant.3 c.put_u32-p.ensures)

pub returns : goal.returns
returns c =
    let all : take c.loop-i.i c.args.ws.now ≡ c.args.ws.now = take_all c.loop-i.i c.args.ws.now (omega arith) in
    rw all at c.loop-i.invariant.3

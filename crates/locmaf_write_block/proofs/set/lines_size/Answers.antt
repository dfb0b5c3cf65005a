use native.Mathlib.Omega.{arith}
use Rattle.locmaf_write_block.proofs.LinesLaws.{weigh-start, weigh-end, weigh-room, weigh-next}
use Rattle.locmaf_write_block.proofs.set.lines_size.Goals as goal

pub loop-i-init : goal.loop-i-init
loop-i-init c = weigh-start _ _ _ _ _ _ _ c.requires.kept_len

pub bounds-kept-i : goal.bounds-kept-i
bounds-kept-i c = omega (arith, c.loop-i.invariant.long)

pub both-sum-requires : goal.both-sum-requires
both-sum-requires c = weigh-room _ _ _ _ _ _ _ _ _ c.loop-i.invariant _ c.line_size-w.ensures

pub loop-i-preserved : goal.loop-i-preserved
loop-i-preserved c = weigh-next _ _ _ _ _ _ _ _ _ c.loop-i.invariant c.loop-i-test.true _ c.line_size-w.ensures _ c.unwrap_or.ensures _ c.both-sum.ensures

pub returns : goal.returns
returns c = weigh-end _ _ _ _ _ _ _ _ _ c.loop-i.invariant c.loop-i-test.false

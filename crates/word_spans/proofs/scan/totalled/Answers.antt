use Rattle.word_spans.proofs.TotalLaws.{total-start, total-more, total-end}
use Rattle.word_spans.proofs.scan.totalled.Goals as goal

pub loop-i-init : goal.loop-i-init
loop-i-init c = total-start _ _ _ c.requires.0 c.requires.1

pub loop-i-preserved : goal.loop-i-preserved
loop-i-preserved c = total-more _ _ _ _ _ _ c.loop-i.invariant c.loop-i-test.true

pub returns : goal.returns
returns c = total-end _ _ _ _ _ _ c.loop-i.invariant c.loop-i-test.false

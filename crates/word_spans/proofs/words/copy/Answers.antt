use Rattle.word_spans.proofs.CopyLoop.{start, next, end}
use Rattle.word_spans.proofs.words.copy.Goals as goal

pub loop-i-init : goal.loop-i-init
loop-i-init c = start _ _ _ _ _ c.requires

pub loop-i-preserved : goal.loop-i-preserved
loop-i-preserved c = next _ _ _ _ _ _ _ c.loop-i.invariant c.loop-i-test.true

pub returns : goal.returns
returns c = end _ _ _ _ _ _ _ c.loop-i.invariant c.loop-i-test.false

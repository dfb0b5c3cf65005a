-- `cmaf_read_boxes::right::unordered` meets its contract: by whether the tree is whole.
use mathlib.Core.Path.{refl, sym, ◌∙◌}
use Rattle.laws.proofs.GateLaws.{stop, pass}
use Rattle.cmaf_read_boxes.proofs.right.unordered.Goals as goal

pub returns-then-whole : goal.returns-then-whole
returns-then-whole c = pass 5 (sym c.whole.ensures ∙ c.if-whole.true) refl

pub returns : goal.returns
returns c = stop 6 (sym c.whole.ensures ∙ c.if-whole.false)

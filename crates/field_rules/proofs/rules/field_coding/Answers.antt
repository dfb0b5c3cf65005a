-- `field_rules::rules::field_coding` meets its contract.
use mathlib.Core.Path.{◌∙◌, ap}
use Rattle.wire.specs.declared.zigzag.Coding.{Coding}
use Rattle.field_rules.specs.Fields.{coding_of}
use Rattle.field_rules.proofs.rules.field_coding.Goals as goal

pub returns : goal.returns
returns c = c.coding_of.ensures ∙ ap (λ (x : Coding). coding_of x c.args.absent) c.coding_for.ensures

-- `locmaf_write_prft::prft::unless_size` meets its contract: an id that stands in a `prft` unless it is what its absence means.
use mathlib.Core.Path.{sym, ap}
use mathlib.Core.Bool.{not}
use Rattle.locmaf_write_tuples.proofs.ItemLaws.{made-is, weighed-nothing, weighed-as}
use Rattle.locmaf_write_prft.proofs.TimeLaws.{no-unless, unless-is}
use Rattle.locmaf_write_prft.proofs.prft.unless_size.Goals as goal

pub returns-then-not-stands : goal.returns-then-not-stands
returns-then-not-stands c = weighed-as (sym (no-unless _ _ _ _ _ _ (ap not c.if-not-stands.true))) weighed-nothing

pub number_size-requires : goal.number_size-requires
number_size-requires c = (c.requires, made-is _ _ _ _ _ c.code-c.ensures)

pub returns : goal.returns
returns c = weighed-as (unless-is _ _ _ _ _ _ (ap not c.if-not-stands.false) c.coding_for.ensures c.code-c.ensures) c.number_size.ensures

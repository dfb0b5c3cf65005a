-- `locmaf_read_head::ids::readable` meets its contract, by cases on what the index came to.
use Rattle.locmaf_read_index.specs.declared.index.Indexed.TheVariants.{Cut, Stray, Clean}
use Rattle.locmaf_read_head.proofs.IdLaws.{number_is}
use Rattle.locmaf_read_head.proofs.ids.readable.Goals as goal

pub returns-in-Cut : goal.returns-in-Cut
returns-in-Cut c = number_is Cut c.in-Cut.is

pub returns-in-Stray : goal.returns-in-Stray
returns-in-Stray c = number_is Stray c.in-Stray.is

pub returns-in-Clean : goal.returns-in-Clean
returns-in-Clean c = number_is Clean c.in-Clean.is

-- `media::flags::SampleFlags::is_plain` meets its contract, by those of `five` and `of_five`.
use mathlib.Core.Path.{ap, ◌∙◌}
use lib.Dec.{eqb}
use Rattle.media.specs.Flags.{wide_of, only}
use Rattle.media.proofs.flags.SampleFlags.is_plain.Goals as goal

pub returns : goal.returns
unfolding only
returns c = ap (eqb c.args.self.0) (c.of_five-y.ensures ∙ ap wide_of c.five-f.ensures)

-- `locmaf_read_times::prft::none` meets its contract: what `Prft::none` gives.
use mathlib.Core.Path.{ap}
use Rattle.prft_value.specs.declared.Prft.{Prft}
use Rattle.locmaf_read_times.proofs.prft.none.Goals as goal

pub returns : goal.returns
returns c = ap (λ (p : Prft). record { ok = c.args.ok; prft = p }) c.none.ensures

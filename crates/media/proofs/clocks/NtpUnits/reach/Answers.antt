-- `media::clocks::NtpUnits::reach` meets its contract, by what the wire's `reach` gives.
use mathlib.Core.Path.{sym, ◌∙◌}
use Rattle.media.specs.Clocks.{ntp_at}
use Rattle.media.proofs.clocks.NtpUnits.reach.Goals as goal

pub returns-in_err-v : goal.returns-in_err-v
unfolding ntp_at
returns-in_err-v c = rw (c.from_residual.ensures, sym c.reach.ensures ∙ c.in_err-v.was)

pub returns : goal.returns
unfolding ntp_at
returns c = rw (sym c.reach.ensures ∙ c.in_ok-v.was)

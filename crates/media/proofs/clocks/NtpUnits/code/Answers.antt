-- `media::clocks::NtpUnits::code` meets its contract, by what the wire's `code` gives.
use Rattle.media.proofs.clocks.NtpUnits.code.Goals as goal

pub returns : goal.returns
returns c = c.code.ensures

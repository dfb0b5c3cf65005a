-- `locmaf_read_times::prft::sent` meets its contract, by the laws of `proofs/PrftLaws.antt`.
use Rattle.locmaf_read_said.specs.Said.{scalar_in}
use Rattle.locmaf_read_times.proofs.PrftLaws.{version-outside, flags-outside, ntp-outside, media-outside, prft-is}
use Rattle.locmaf_read_times.proofs.prft.sent.Goals as goal

pub returns-in_err-version : goal.returns-in_err-version
returns-in_err-version c = λ zs on.
    version-outside _ (scalar_in c.args.index.now) _ zs on _ c.number_for.ensures _ c.in_err-version.was c.from_residual.ensures

pub returns-in_err-flags : goal.returns-in_err-flags
returns-in_err-flags c = λ zs on.
    flags-outside _ (scalar_in c.args.index.now) _ zs on _ c.number_for.ensures _ c.in_ok-version.was _ c.number_for-2.ensures
    _ c.in_err-flags.was c.from_residual-in_err-flags.ensures

pub returns-in_err-ntp : goal.returns-in_err-ntp
returns-in_err-ntp c = λ zs on.
    ntp-outside _ (scalar_in c.args.index.now) _ zs on _ c.number_for.ensures _ c.in_ok-version.was _ c.number_for-2.ensures _
    c.in_ok-flags.was _ c.ntp_for.ensures _ c.in_err-ntp.was c.from_residual-in_err-ntp.ensures

pub returns-in_err-media : goal.returns-in_err-media
returns-in_err-media c = λ zs on.
    media-outside _ (scalar_in c.args.index.now) _ zs on _ c.number_for.ensures _ c.in_ok-version.was _ c.number_for-2.ensures _
    c.in_ok-flags.was _ c.ntp_for.ensures _ c.in_ok-ntp.was _ c.media_most-most.ensures _ c.media_for.ensures
    _ c.in_err-media.was c.from_residual-in_err-media.ensures

pub returns : goal.returns
returns c = λ zs on.
    prft-is _ (scalar_in c.args.index.now) _ zs on _ c.number_for.ensures _ c.in_ok-version.was _ c.number_for-2.ensures _
    c.in_ok-flags.was _ c.ntp_for.ensures _ c.in_ok-ntp.was _ c.media_most-most.ensures _ c.media_for.ensures _
    c.in_ok-media.was

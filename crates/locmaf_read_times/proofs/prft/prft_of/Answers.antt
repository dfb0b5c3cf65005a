-- `locmaf_read_times::prft::prft_of` meets its contract, by the laws of `proofs/PrftLaws.antt`.
use mathlib.Core.Path.{◌∙◌}
use Rattle.locmaf_read_times.proofs.PrftLaws.{prft-without, scalar-some}
use Rattle.locmaf_read_times.proofs.prft.prft_of.Goals as goal

pub returns-then-index-eq0 : goal.returns-then-index-eq0
returns-then-index-eq0 c = prft-without _ c.args.index.now _ c.if-index-eq0.true _ c.none.ensures

pub returns-in-Some : goal.returns-in-Some
returns-in-Some c = c.in-Some.ensures _ (scalar-some _ _ c.if-index-eq0.false)

pub returns-in-None : goal.returns-in-None
returns-in-None c = c.none-in-None.ensures ∙ c.in-None.ensures _ (scalar-some _ _ c.if-index-eq0.false)

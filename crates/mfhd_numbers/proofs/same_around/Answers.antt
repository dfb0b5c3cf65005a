-- `mfhd_numbers::same_around` meets its contract: the two parts lie in their chunks, and what is compared is what is before and behind them.
use Rattle.std.proofs.lemmas.Bool.Decides.{Decides-eqb}
use Rattle.std.proofs.lemmas.Slice.Eq.{slice_eq-Decides}
use Rattle.mfhd_numbers.proofs.SequenceLaws.{around-same, same-around}
use Rattle.mfhd_numbers.proofs.same_around.Goals as goal

pub returns : goal.returns
returns c =
    let x = c.args in
    let g = slice_eq-Decides Decides-eqb _ _ _ c.eq-before.ensures in
    let h = slice_eq-Decides Decides-eqb _ _ _ c.eq-behind.ensures in (
      around-same x.a.now x.p x.b.now x.q _ _ g.0 h.0,
      same-around x.a.now x.p x.b.now x.q _ _ g.1 h.1,
    )

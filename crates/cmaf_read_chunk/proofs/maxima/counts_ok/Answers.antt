-- `cmaf_read_chunk::maxima::counts_ok` meets its contract: the boxes lie in the chunk, and its tests are the definition's.
use native.Mathlib.Omega.{arith}
use Rattle.cmaf_read_trun.proofs.RowLaws.{trun-long}
use Rattle.cmaf_read_chunk.proofs.MaximaLaws.{counts-by}
use Rattle.cmaf_read_boxes.proofs.BoxLaws.{found_in}
use Rattle.cmaf_read_chunk.proofs.maxima.counts_ok.Goals as goal

pub body-payload-requires : goal.body-payload-requires
body-payload-requires c =
    let i = found_in c.args.c.now c.args.top c.args.f c.requires.top_value.0 c.requires.top_value.1 in
    omega (arith, i.mdat-in.within)

pub samples_ok-requires : goal.samples_ok-requires
samples_ok-requires c =
    let i = found_in c.args.c.now c.args.top c.args.f c.requires.top_value.0 c.requires.top_value.1 in
    let l = trun-long c.args.c.now c.args.f.trun c.requires.trun_value in
    record { inside = (i.trun-in, omega arith); inside_2 = (i.senc-in, i.saiz-in) }

pub returns : goal.returns
returns c =
    λ t q.
    counts-by t c.args.c.now c.args.top c.args.f _ _ _ _ c.requires.top_value.0 c.requires.top_value.1
    c.samples_ok.ensures q c.brands_in.ensures c.body-payload.ensures

-- `cmaf_read_shape::top::top_of` meets its contract: each box where the one before it ends.
use Rattle.cmaf_read_shape.proofs.TopLaws.{top-of-is}
use Rattle.cmaf_read_shape.proofs.top.top_of.Goals as goal

pub returns : goal.returns
returns c =
    let run = c.emsgs_from-row.ensures in
    top-of-is _ c.after-styp.ensures.0 c.after-prft.ensures.0 c.end_of-at.ensures run.0 run.1
    c.after-moof.ensures.0 c.after-mdat.ensures.0

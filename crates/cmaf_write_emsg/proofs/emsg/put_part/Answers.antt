-- `cmaf_write_emsg::emsg::put_part` meets its contract.
use Rattle.laws.proofs.WriteLaws.{wrote_as}
use Rattle.event_value.proofs.PartLaws.{part-is}
use Rattle.cmaf_write_emsg.proofs.emsg.put_part.Goals as goal

pub put_bytes-requires : goal.put_bytes-requires
put_bytes-requires c =
    let a = c.args in
    rw (part-is a.o.now a.place a.size) c.requires.size_in_bounds

pub returns : goal.returns
returns c =
    let a = c.args in
    wrote_as (part-is a.o.now a.place a.size) c.put_bytes.ensures

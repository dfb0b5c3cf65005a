-- `cmaf_read_chunk::read::taken` meets its contract: the boxes lie in the chunk, and each part is the definition's.
use native.Mathlib.Omega.{arith}
use mathlib.Core.Path.{refl}
use Rattle.cmaf_read_boxes.proofs.BoxLaws.{found_in}
use Rattle.cmaf_read_chunk.proofs.TakenLaws.{taken-by}
use Rattle.cmaf_read_chunk.proofs.read.taken.Goals as goal

pub prft_of-requires : goal.prft_of-requires
prft_of-requires c =
    let a = c.args in
    let i = found_in a.c.now a.top _ c.requires.0 refl in
    record { inside = i.prft-in; b_value = c.requires.1 }

pub body-requires : goal.body-requires
body-requires c =
    let a = c.args in
    let i = found_in a.c.now a.top _ c.requires.0 refl in
    omega (arith, i.styp-in.within)

pub body-requires-2 : goal.body-requires-2
body-requires-2 c =
    let a = c.args in
    let i = found_in a.c.now a.top _ c.requires.0 refl in
    omega (arith, i.mdat-in.within)

pub returns : goal.returns
returns c =
    let a = c.args in
    taken-by a.c.now a.top a.list c.requires.0 c.prft_of.ensures c.body.ensures c.body-2.ensures

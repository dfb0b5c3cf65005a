-- `cmaf_read_boxes::right::order_ok` meets its contract: the boxes lie in the chunk, and by what each test ensures.
use native.Mathlib.Omega.{arith}
use mathlib.Core.Bool.{◌&&◌}
use Rattle.cmaf_read_boxes.proofs.BoxLaws.{found_in}
use Rattle.cmaf_read_boxes.proofs.right.order_ok.Goals as goal

pub top_ok-requires : goal.top_ok-requires
top_ok-requires c =
    let i = found_in c.args.c.now c.args.top c.args.f c.requires.0 c.requires.1 in
    i.mdat-in

pub inner_ok-requires : goal.inner_ok-requires
inner_ok-requires c =
    let i = found_in c.args.c.now c.args.top c.args.f c.requires.0 c.requires.1 in
    (omega (arith, i.moof-in.within), omega (arith, i.trun-in.within), omega (arith, i.traf-in.within))

pub returns : goal.returns
returns c = λ j. c.top_ok.ensures j && c.inner_ok.ensures j

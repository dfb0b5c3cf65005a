-- `cmaf_read_boxes::right::pairs_in` meets its contract: the boxes lie in the chunk, and its tests are the definition's.
use mathlib.Core.Bool.{◌&&◌, not}
use Rattle.cmaf_read_boxes.proofs.BoxLaws.{found_in, pairs-wrong, pairs-read}
use mathlib.Core.Path.{ap}
use Rattle.cmaf_read_boxes.proofs.right.pairs_in.Goals as goal

pub outer_ok-requires : goal.outer_ok-requires
outer_ok-requires c = let i = found_in c.args.c.now c.args.top c.args.f c.requires.top_value.0 c.requires.top_value.1 in (i.prft-in, i.emsgs-in)

pub samples_ok-requires : goal.samples_ok-requires
samples_ok-requires c = let i = found_in c.args.c.now c.args.top c.args.f c.requires.top_value.0 c.requires.top_value.1 in record { inside = (i.mfhd-in, i.tfhd-in); inside_2 = (i.tfdt-in, i.trun-in) }

pub sizes_ok-requires : goal.sizes_ok-requires
sizes_ok-requires c = let i = found_in c.args.c.now c.args.top c.args.f c.requires.top_value.0 c.requires.top_value.1 in (i.saiz-in, i.saio-in)

pub returns-then-not-outer_ok-samples_ok : goal.returns-then-not-outer_ok-samples_ok
returns-then-not-outer_ok-samples_ok c =
    pairs-wrong c.args.t c.args.c.now c.requires.top_value.0 c.requires.top_value.1
    (λ j. c.outer_ok.ensures j && (c.samples_ok.ensures j && c.sizes_ok.ensures j)) (ap not c.if-not-outer_ok-samples_ok.true)

pub senc_read-requires : goal.senc_read-requires
senc_read-requires c = (found_in c.args.c.now c.args.top c.args.f c.requires.top_value.0 c.requires.top_value.1).senc-in

pub returns : goal.returns
returns c =
    pairs-read c.args.t c.args.c.now c.requires.top_value.0 c.requires.top_value.1 c.requires.f_value
    (λ j. c.outer_ok.ensures j && (c.samples_ok.ensures j && c.sizes_ok.ensures j)) (ap not c.if-not-outer_ok-samples_ok.false)
    c.senc_read.ensures

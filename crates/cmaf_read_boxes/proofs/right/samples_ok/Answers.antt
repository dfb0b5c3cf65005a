-- `cmaf_read_boxes::right::samples_ok` meets its contract: by what each test ensures.
use mathlib.Core.Bool.{◌&&◌}
use Rattle.cmaf_read_boxes.proofs.right.samples_ok.Goals as goal

pub returns : goal.returns
returns c =
    λ j.
    (c.mfhd_ok.ensures j && c.tfhd_ok.ensures j)
    && (c.tfdt_ok.ensures j && c.trun_ok.ensures j)

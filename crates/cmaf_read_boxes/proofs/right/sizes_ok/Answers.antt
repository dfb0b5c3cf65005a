-- `cmaf_read_boxes::right::sizes_ok` meets its contract: by what each test ensures.
use mathlib.Core.Bool.{◌&&◌}
use Rattle.cmaf_read_boxes.proofs.right.sizes_ok.Goals as goal

pub returns : goal.returns
returns c = λ j. c.saiz_ok.ensures j && c.saio_ok.ensures j

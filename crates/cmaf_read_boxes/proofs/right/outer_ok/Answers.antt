-- `cmaf_read_boxes::right::outer_ok` meets its contract: by what each test ensures.
use mathlib.Core.Bool.{◌&&◌}
use Rattle.cmaf_read_boxes.proofs.right.outer_ok.Goals as goal

pub returns : goal.returns
returns c = λ j. c.styp_ok.ensures j && (c.prft_ok.ensures j && c.emsgs_ok.ensures j)

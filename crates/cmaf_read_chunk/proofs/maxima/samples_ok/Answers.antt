-- `cmaf_read_chunk::maxima::samples_ok` meets its contract: by what each count is.
use mathlib.Core.Bool.{◌&&◌}
use lib.Dec.{leb}
use Rattle.constants.specs.Maxima.{samples_most}
use Rattle.cmaf_read_chunk.proofs.maxima.samples_ok.Goals as goal

pub returns : goal.returns
returns c =
    λ j.
    leb (c.u32_at.ensures.0 j) samples_most
    && (leb (c.senc_count.ensures.0 j) samples_most && leb (c.saiz_count.ensures.0 j) samples_most)

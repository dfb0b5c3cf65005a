-- Every line of the table gives what the document states: the checker computes it. Assumes nothing.
use mathlib.Core.Path.{◌≡◌, refl}
use mathlib.Core.List.{map}
use Rattle.laws.specs.Bytes.{be, de}
use Rattle.wire.specs.Form.{by_first, by_value}
use Rattle.wire.specs.Varint.{encode, read_f}
use Rattle.wire.specs.Zigzag.{zigzag}
use Rattle.media.specs.Flags.{wide_of}
use Rattle.worked_sums.specs.Sums.{Sum, sums}

pub sums-hold : map (λ (s : Sum). s.computed) sums ≡ map (λ (s : Sum). s.stated) sums
unfolding be de by_first by_value encode read_f zigzag wide_of sums
sums-hold = refl

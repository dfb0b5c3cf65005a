-- How many values a field can have, and that the table has room for them. Assumes nothing.
use Prim.Native.Nat.{ℕ, ◌≤◌, ◌<◌, ◌-◌, ◌*◌}
use native.Mathlib.Nat.{mul-le-mul, le_trans}
use native.Mathlib.Omega.{arith}
use mathlib.Core.Path.{◌≡◌, refl}
use mathlib.Core.Bool.{Bool, true}
use borrow.Author.Tests.{leb-true}
use lib.Dec.{leb}
use lib.ListN.{get_or}
use Rattle.constants.specs.Maxima.{samples_most, subsamples_most}
use Rattle.laws.specs.Tests.{◌and◌}
use Rattle.field_table.specs.declared.lines.Want.{Want}
use Rattle.field_table.specs.declared.lines.Want.TheVariants.{One, LessOne, Count, Ivs, Sum}
use Rattle.field_table.specs.declared.lines.Line.{Line}
use Rattle.field_table.specs.declared.lines.Measure.{Measure}
use Rattle.field_table.specs.Lines.{every, lines, spare, wanted, Small, line_count}
use Rattle.field_table.proofs.LineLaws.{every-at, line-count}

-- the most values that a field can have. 01: "Maxima: 64 samples and 256 subsamples a chunk"
unfoldable most : Want → ℕ
most One = 1
most LessOne = samples_most - 1
most Count = samples_most
most Ivs = 2 * samples_most
most Sum = subsamples_most

wanted-most : (w : Want) (m : Measure) → Small m → m.sum ≤ subsamples_most → wanted w m ≤ most w
unfolding wanted most
wanted-most One m h s = omega arith
wanted-most LessOne m h s = omega (arith, h.count)
wanted-most Count m h s = h.count
wanted-most Ivs m h s = mul-le-mul h.count h.ivs
wanted-most Sum m h s = s

-- the table has room for them
unfoldable roomy : Line → Bool
roomy l = leb (most l.want) l.room

all-roomy : every roomy lines ≡ true
unfolding every roomy most lines ◌and◌
all-roomy = refl

pub wanted_room : (i : ℕ) → i < line_count → (m : Measure) → Small m → m.sum ≤ subsamples_most → wanted (get_or lines i spare).want m ≤ (get_or lines i spare).room
unfolding roomy
wanted_room i h m small s =
    le_trans (wanted-most (get_or lines i spare).want m small s)
    (leb-true _ _ (every-at roomy lines i spare all-roomy (omega (arith, line-count))))

-- What is known of a field by its line: that it is no IV, that its coding is the object's. Assumes nothing.
use mathlib.Core.Path.{◌≡◌, refl}
use mathlib.Core.Bool.{false}
use Rattle.wire.specs.declared.zigzag.Coding.{Coding}
use Rattle.track.specs.declared.Track.{Track}
use Rattle.field_table.specs.declared.lines.Want.{Want}
use Rattle.field_table.specs.declared.lines.Want.TheVariants.{One, LessOne, Count, Ivs, Sum}
use Rattle.field_table.specs.declared.lines.Absent.{Absent}
use Rattle.field_table.specs.declared.lines.Absent.TheVariants.{Zero, Middle, Description, Duration, Size, Flags, IvSize}
use Rattle.field_table.specs.Lines.{absent_value}
use Rattle.field_rules.specs.Fields.{coding_of, is_ivs}

-- what is known under another name
pub absent-is : (a : Absent) {b : Absent} (t : Track) → b ≡ a → absent_value t a ≡ absent_value t b
absent-is a t e = rw e

pub ivs-is : (v : Want) {w : Want} → w ≡ v → is_ivs v ≡ is_ivs w
ivs-is v e = rw e

pub coding-is : (coding : Coding) (v : Absent) {a : Absent} → a ≡ v → coding_of coding v ≡ coding_of coding a
coding-is coding v e = rw e

-- ---- what is none of some variants
pub ivs-not : (w : Want) → (w ≡ Ivs → ⊥) → false ≡ is_ivs w
ivs-not One n = refl
ivs-not LessOne n = refl
ivs-not Count n = refl
ivs-not Ivs n = absurd (n refl)
ivs-not Sum n = refl

pub coding-same : (coding : Coding) (a : Absent) → (a ≡ Middle → ⊥) → coding ≡ coding_of coding a
coding-same coding Zero n = refl
coding-same coding Middle n = absurd (n refl)
coding-same coding Description n = refl
coding-same coding Duration n = refl
coding-same coding Size n = refl
coding-same coding Flags n = refl
coding-same coding IvSize n = refl

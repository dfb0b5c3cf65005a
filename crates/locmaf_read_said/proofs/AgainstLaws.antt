-- What an object is read against, a delta and a full one. Assumes nothing.
use Prim.Native.Nat.{ℕ}
use mathlib.Core.Path.{◌≡◌}
use mathlib.Core.Bool.{Bool, true, false}
use mathlib.Core.List.{List}
use Rattle.wire.specs.declared.zigzag.Coding.TheVariants.{Plain, Delta}
use Rattle.track.specs.declared.Track.{Track}
use Rattle.field_table.specs.declared.lines.Measure.{Measure}
use Rattle.field_set.specs.Lawful.{measure_of}
use Rattle.locmaf_read_said.specs.declared.against.Against.{Against}
use Rattle.locmaf_read_said.specs.Against.{against_of}

-- a delta is read against the reference's lengths
pub against-delta : (t : Track) (held : Bool) (r : List ℕ) (w : Measure) → held ≡ true → w ≡ measure_of t r
    → ◌≡◌ {A = Against} (record { coding = Delta; held = true; was = w }) (against_of t held r)
against-delta t held r w e ew = rw (e, ew)

-- a full object against none
pub against-plain : (t : Track) (held : Bool) (r : List ℕ) → held ≡ false
    → ◌≡◌ {A = Against} (record { coding = Plain; held = false; was = record { count = 0; ivs = 0; sum = 0 } }) (against_of t held r)
against-plain t held r e = rw e

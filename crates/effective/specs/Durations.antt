-- The effective durations of samples.
use Rattle.std.specs.Prelude.{ℕ, ◌*◌, ◌≤◌, ◌≡◌, cond, List, length}
use Rattle.laws.specs.Tests.{sum}
use Rattle.constants.specs.Maxima.{samples_most}
use Rattle.track.specs.declared.Track.{Track}
use Rattle.field_table.specs.Lines.{set_len}
use Rattle.field_set.specs.Lawful.{has, values_of, value_at, count_in}
use Rattle.told_sizes.specs.Sums.{Bounded}

-- ==== The rules

-- the sum of the effective durations of a set: each sample's own, or one for all, or trex's (D68)
unfoldable pub durations_of : Track → List ℕ → ℕ
durations_of t w =
    cond (has 3 w) (sum (values_of 3 (count_in w) w))
    (cond (has 4 w) (count_in w * value_at 4 0 w) (count_in w * t.duration))

-- ==== What only mirrors the code

-- what keeps the sum of durations within 64 bits
pub record Timed (w : List ℕ) : Type 0 where
  pub words : length w ≡ set_len
  pub few : count_in w ≤ samples_most
  pub durations : Bounded 3 w
  pub duration : Bounded 4 w

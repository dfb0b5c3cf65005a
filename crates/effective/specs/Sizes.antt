-- The effective sizes of samples.
use Rattle.std.specs.Prelude.{ℕ, ◌-◌, ◌≤◌, cond, List, leb, ltb}
use Rattle.laws.specs.Tests.{sum}
use Rattle.constants.specs.Maxima.{payload_most}
use Rattle.track.specs.declared.Track.{Track}
use Rattle.field_set.specs.Lawful.{has, values_of, value_at, count_in}

-- ==== The rules

-- 01: "Samples above 1: sizes unequal, id 1 with all but the last; equal, id 6 .. One sample: neither, and its size is the payload length
-- whatever trex says."
unfoldable pub size_of : Track → List ℕ → ℕ → ℕ → ℕ
size_of t w payload i =
    let n = count_in w in
    cond (leb n 1) payload
    (cond (has 1 w) (cond (ltb i (n - 1)) (value_at 1 i w) (payload - sum (values_of 1 (n - 1) w)))
    (cond (has 6 w) (value_at 6 0 w) t.size))

-- ==== What only mirrors the code

unfoldable pub last_size : Track → List ℕ → ℕ → ℕ
last_size t w payload = size_of t w payload (count_in w - 1)

-- how many samples id 1 has a size of
unfoldable pub listed_sizes : List ℕ → ℕ
listed_sizes w = cond (has 1 w) (count_in w - 1) 0

unfoldable pub size_by : List ℕ → ℕ → ℕ → ℕ
size_by w last i = cond (ltb i (listed_sizes w)) (value_at 1 i w) last

-- the sizes that id 1 has don't pass the payload, which keeps its maximum
pub record Sized (w : List ℕ) (payload : ℕ) : Type 0 where
  pub sizes : sum (values_of 1 (count_in w - 1) w) ≤ payload
  pub few : payload ≤ payload_most

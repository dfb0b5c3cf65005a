-- The BMDT that is expected behind a chunk.
use Rattle.std.specs.Prelude.{ℕ, ◌+◌, ◌-◌, ◌^◌, ◌<◌, ◌≡◌, ◌⊎◌, Bool, cond, ◌&&◌, List, eqb, leb, get_or}
use Rattle.track.specs.declared.Track.{Track}
use Rattle.field_table.specs.Lines.{bmdt_at}
use Rattle.effective.specs.declared.expected.Expected.{Expected}
use Rattle.effective.specs.Durations.{durations_of}

-- ==== The rules

-- 01: "the previous BMDT plus the previous effective durations" (D67)
abbrev pub next_time : Track → List ℕ → ℕ
next_time t w = get_or w bmdt_at 0 + durations_of t w

-- the largest number of a word
abbrev pub u64 : ℕ
u64 = 2 ^ 64 - 1

-- what is kept of a sum. 02, order 7: "Store the expected BMDT ..; a sum past 2^64-1 is kept as a mark from which no BMDT is derived." (D147)
unfoldable pub expected_by : ℕ → Expected
expected_by n = cond (leb n u64) (record { past = 0; time = n }) (record { past = 1; time = 0 })

-- what is kept is what is to be kept
abbrev pub same : Expected → Expected → Bool
same e f = eqb e.past f.past && eqb e.time f.time

-- ==== What is shown of the rules

-- two words are enough: sums of which the same is kept are the same, or both pass, and nothing is derived from either
abbrev pub Enough : Type 0
Enough = (n m : ℕ) → expected_by n ≡ expected_by m → (n ≡ m) ⊎ ((u64 < n) × (u64 < m))

-- The base media decode time. 01: "Id 10 is absolute, written only if BMDT differs from the previous BMDT plus the previous effective durations."
use Rattle.std.specs.Prelude.{ℕ, ◌<◌, ◌≡◌, List, [], ◌∷◌, Option, Some, None}
use Rattle.track.specs.declared.Track.{Track}
use Rattle.media.specs.declared.clocks.TrackTicks.{TrackTicks}
use Rattle.effective.specs.Expected.{next_time, u64}

-- ==== The rules

-- what id 10 says, or what is expected behind the reference r
unfoldable pub bmdt_of : Track → Option (List ℕ) → List ℕ → ℕ
bmdt_of t None r = next_time t r
bmdt_of t (Some []) r = next_time t r
bmdt_of t (Some (z ∷ zs)) r = z

-- ==== What only mirrors the code

-- a BMDT as code has it: its ticks, or none where it is past 64 bits
abbrev pub BmdtAs : Option TrackTicks → ℕ → Type 0
BmdtAs (Some ticks) n = ticks.0 ≡ n
BmdtAs None n = u64 < n

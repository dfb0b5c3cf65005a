-- Times by their numbers on the wire, each on its own clock.
use Rattle.std.specs.Prelude.{ℕ, ◌-◌, ◌^◌}
use Rattle.wire.specs.declared.zigzag.Coding.{Coding}
use Rattle.std.specs.Prelude.{Option, option_map}
use Rattle.wire.specs.Zigzag.{reached}
use Rattle.media.specs.declared.clocks.TrackTicks.{TrackTicks}
use Rattle.media.specs.declared.clocks.NtpUnits.{NtpUnits}

-- ==== The rules

-- ---- the track's clock

-- a count that was reached, as a time
abbrev pub as_track : Option ℕ → Option TrackTicks
as_track = option_map (λ v. record { 0 = v })

-- 01: "the time is a zigzag distance from BMDT in track ticks", "A rebuilt time below 0: 15."
unfoldable pub track_at : Coding → ℕ → ℕ → ℕ → Option TrackTicks
track_at coding from bound z = as_track (reached coding from bound z)

-- ---- NTP's clock

abbrev pub as_ntp : Option ℕ → Option NtpUnits
as_ntp = option_map (λ v. record { 0 = v })

-- ==== What only mirrors the code

-- 01: "`prft` in a delta: both 18 and 20, zigzag, against the group's current full object"; the box field has 64 bits
unfoldable pub ntp_at : Coding → ℕ → ℕ → Option NtpUnits
ntp_at coding from z = as_ntp (reached coding from (2 ^ 64 - 1) z)

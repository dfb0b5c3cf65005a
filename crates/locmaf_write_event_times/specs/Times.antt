-- The timescale and the time of an event, as they stand on the wire.
use Rattle.std.specs.Prelude.{ℕ, cond, eqb}
use Rattle.wire.specs.declared.zigzag.Coding.TheVariants.{Delta}
use Rattle.wire.specs.Zigzag.{wire_of}
use Rattle.media.specs.declared.clocks.EventTime.{EventTime}
use Rattle.track.specs.declared.Track.{Track}

-- ==== The rules

-- 01: "Timescale 0 means the track's; the encoder writes 0 exactly for that one." (D43, D59)
unfoldable pub scale_for : Track → ℕ → ℕ
scale_for t scale = cond (eqb scale t.timescale) 0 scale

-- 01: "Then the time is a zigzag distance from BMDT in track ticks; otherwise an absolute count on the event's own clock." (D75)
unfoldable pub clock_of : Track → ℕ → ℕ → EventTime
clock_of t scale time = cond (eqb scale t.timescale) (EventTime.Track (record { 0 = time })) (EventTime.Own (record { 0 = time }))

unfoldable pub wire_time : ℕ → EventTime → ℕ
wire_time bmdt (EventTime.Track ticks) = wire_of Delta bmdt ticks.0
wire_time bmdt (EventTime.Own ticks) = ticks.0

unfoldable pub time_for : Track → ℕ → ℕ → ℕ → ℕ
time_for t bmdt scale time = wire_time bmdt (clock_of t scale time)

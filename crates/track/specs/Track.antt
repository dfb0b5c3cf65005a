-- The parameters of a track.
-- ==== The rules
use Rattle.std.specs.Prelude.{ℕ, Bool, ◌&&◌, ◌||◌, eqb, leb}
use Rattle.laws.specs.Tests.{◌and◌}
use Rattle.track.specs.declared.Asked.{Asked}
use Rattle.track.specs.declared.Track.{Track}

abbrev pub u32 : ℕ
u32 = 0xffff_ffff

-- flags in their five-bit form
abbrev pub u5 : ℕ
u5 = 31

-- 01: "protection none, cenc or cbcs" are 0, 1 and 2
abbrev pub none : ℕ
none = 0

abbrev pub cenc : ℕ
cenc = 1

abbrev pub cbcs : ℕ
cbcs = 2

-- 01: "IV size 8 or 16 for cenc, else 0"
abbrev pub iv_ok : ℕ → ℕ → Bool
iv_ok protection size = (eqb protection cenc && (eqb size 8 || eqb size 16)) || ((eqb protection none || eqb protection cbcs) && eqb size 0)

-- 01: "Parameters: track_ID and timescale (1 to 2^32-1), trex description index (from 1), duration, size, flags (five-bit form)". The
-- fields of trex have 32 bits (D2).
unfoldable pub lawful : Asked → Bool
lawful a =
    (leb 1 a.track and leb a.track u32)
    and (leb 1 a.timescale and leb a.timescale u32)
    and (leb 1 a.description and leb a.description u32)
    and leb a.duration u32
    and leb a.size u32
    and leb a.flags u5
    and iv_ok a.protection a.iv_size

-- the same numbers, cast down
abbrev pub narrow : Asked → Track
narrow a =
    record {
      id = a.track;
      timescale = a.timescale;
      description = a.description;
      duration = a.duration;
      size = a.size;
      flags = a.flags;
      protection = a.protection;
      iv_size = a.iv_size;
    }

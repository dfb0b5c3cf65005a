-- `tfhd`: what the samples have where the `trun` has no column for it.
use Rattle.std.specs.Prelude.{ℕ, ◌+◌, ◌*◌, ◌%◌, ◌^◌, ◌<◌, Bool, cond, ◌||◌, List, eqb}
use Rattle.laws.specs.Tests.{◌and◌}
use Rattle.media.specs.Flags.{wide_of}
use Rattle.track.specs.declared.Track.{Track}
use Rattle.byte_parts.specs.declared.Part.{Part}
use Rattle.cmaf_read_shape.specs.Words.{word_of, bit_of}
use Rattle.cmaf_read_tree.specs.Numbers.{u32}
use Rattle.cmaf_read_moof.specs.declared.defaults.Defaults.{Defaults}

-- ==== The rules

-- how many fields a word's flags bring, one each: 0x2 the description index, 0x8 the duration, 0x10 the size, 0x20 the sample flags
unfoldable pub fields_in : ℕ → ℕ
fields_in word = bit_of word 0x2 + (bit_of word 0x8 + (bit_of word 0x10 + bit_of word 0x20))

-- 01: "flag 0x020000 set, otherwise only 0x2, 0x8, 0x10, 0x20"; "Versions and flags not named are 0." (D41)
unfoldable pub tfhd_flags_ok : ℕ → Bool
tfhd_flags_ok word =
    eqb word (0x2_0000 + (0x2 * bit_of word 0x2 + (0x8 * bit_of word 0x8 + (0x10 * bit_of word 0x10 + 0x20 * bit_of word 0x20))))

-- head, word and track_ID are 16 bytes, and each field is four
unfoldable pub tfhd_ok : List ℕ → Part → Bool
tfhd_ok c b = tfhd_flags_ok (word_of c b) and eqb b.len (16 + 4 * fields_in (word_of c b))

-- the field of a flag, or another value where the flag isn't set. The fields stand in the order of their flags: before it are those of the
-- flags below.
unfoldable pub field_of : List ℕ → Part → ℕ → ℕ → ℕ
field_of c b flag other =
    let word = word_of c b in
    cond (eqb (bit_of word flag) 0) other (u32 c (b.at + 16 + 4 * fields_in (word % flag)))

-- the fields of the `tfhd`, and the track's where it has none
abbrev pub defaults_of : Track → List ℕ → Part → Defaults
defaults_of t c b =
    record {
      track = u32 c (b.at + 12);
      description = field_of c b 0x2 t.description;
      duration = field_of c b 0x8 t.duration;
      size = field_of c b 0x10 t.size;
      flags = field_of c b 0x20 (wide_of t.flags);
    }

-- ==== What only mirrors the code

-- one of the four flags
unfoldable pub is_field : ℕ → Bool
is_field flag = eqb flag 0x2 || (eqb flag 0x8 || (eqb flag 0x10 || eqb flag 0x20))

-- each has 32 bits
pub record Narrow (d : Defaults) : Type 0 where
  pub track-lt : d.track < 2 ^ 32
  pub description-lt : d.description < 2 ^ 32
  pub duration-lt : d.duration < 2 ^ 32
  pub size-lt : d.size < 2 ^ 32
  pub flags-lt : d.flags < 2 ^ 32

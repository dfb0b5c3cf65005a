-- The set of moof fields as one run of words: BMDT, the sample count, and a region for each other field. A region is a mark, 1 where the
-- field stands and else 0, its values, and zeros up to its room. Composition offsets (id 5) are kept with 2^31 added. An IV is kept as
-- words of eight bytes, the highest byte first.
use Rattle.std.specs.Prelude.{ℕ, suc, ◌-◌, ◌*◌, ◌≤◌, Bool, true, cond, List, [], ◌∷◌, map, eqb, get_or}
use Rattle.laws.specs.Tests.{◌and◌}
use Rattle.constants.specs.Maxima.{samples_most, subsamples_most}
use Rattle.track.specs.declared.Track.{Track}
use Rattle.track.specs.Track.{u5, u32}
use Rattle.field_table.specs.declared.lines.Want.{Want}
use Rattle.field_table.specs.declared.lines.Want.TheVariants.{One, LessOne, Count, Ivs, Sum}
use Rattle.field_table.specs.declared.lines.Absent.{Absent}
use Rattle.field_table.specs.declared.lines.Absent.TheVariants.{Zero, Middle, Description, Duration, Size, Flags, IvSize}
use Rattle.field_table.specs.declared.lines.Line.{Line}
use Rattle.field_table.specs.declared.lines.Measure.{Measure}

-- ==== The rules

abbrev pub line_of : ℕ → ℕ → ℕ → Want → ℕ → Absent → Line
line_of id place room want bound absent =
    record { id = id; place = place; room = room; want = want; bound = bound; absent = absent }

abbrev pub u8 : ℕ
u8 = 0xff

abbrev pub u16 : ℕ
u16 = 0xffff

abbrev pub u64 : ℕ
u64 = 0xffff_ffff_ffff_ffff

-- where BMDT and the sample count stand, and the mark of each field; its values follow it
abbrev pub bmdt_at : ℕ
bmdt_at = 0

abbrev pub count_at : ℕ
count_at = 1

abbrev pub sizes_at : ℕ
sizes_at = 2

abbrev pub description_at : ℕ
description_at = 66

abbrev pub durations_at : ℕ
durations_at = 68

abbrev pub duration_at : ℕ
duration_at = 133

abbrev pub offsets_at : ℕ
offsets_at = 135

abbrev pub size_at : ℕ
size_at = 200

abbrev pub flags_at : ℕ
flags_at = 202

abbrev pub default_flags_at : ℕ
default_flags_at = 267

abbrev pub ivs_at : ℕ
ivs_at = 269

abbrev pub subsamples_at : ℕ
subsamples_at = 398

abbrev pub first_flags_at : ℕ
first_flags_at = 463

abbrev pub clear_at : ℕ
clear_at = 465

abbrev pub protected_at : ℕ
protected_at = 722

abbrev pub iv_size_at : ℕ
iv_size_at = 979

-- the words of a set
abbrev pub set_len : ℕ
set_len = 981

-- the lines of the table
abbrev pub line_count : ℕ
line_count = 14

-- Place, room, length, bound and absent value of each id. 01: "64 samples and 256 subsamples a chunk"; "Required: id 1, count less one; 3, 5,
-- 7, 11, the count; 13, 15, the sum of 11."; "A value's range is that of its box field, after deltas; flags end at 31"; "if absent then, ids
-- 2, 4, 6, 8 count as trex, 12 as 0 and 16 as the parameter. List elements count as 0 where the reference has none." (D49, D110)
unfoldable pub lines : List Line
lines =
    line_of 1 sizes_at (samples_most - 1) LessOne u32 Zero
    ∷ line_of 2 description_at 1 One u32 Description
    ∷ line_of 3 durations_at samples_most Count u32 Zero
    ∷ line_of 4 duration_at 1 One u32 Duration
    ∷ line_of 5 offsets_at samples_most Count u32 Middle
    ∷ line_of 6 size_at 1 One u32 Size
    ∷ line_of 7 flags_at samples_most Count u5 Zero
    ∷ line_of 8 default_flags_at 1 One u5 Flags
    ∷ line_of 9 ivs_at (2 * samples_most) Ivs u64 Zero
    ∷ line_of 11 subsamples_at samples_most Count u16 Zero
    ∷ line_of 12 first_flags_at 1 One u5 Zero
    ∷ line_of 13 clear_at subsamples_most Sum u16 Zero
    ∷ line_of 15 protected_at subsamples_most Sum u32 Zero
    ∷ line_of 16 iv_size_at 1 One u8 IvSize
    ∷ []

-- past the table's end
abbrev pub spare : Line
spare = line_of 0 0 0 One 0 Zero

-- the line of an id
unfoldable pub line_for : ℕ → List Line → Line
line_for id [] = spare
line_for id (l ∷ ls) = cond (eqb l.id id) l (line_for id ls)

-- and its number in the table
unfoldable pub line_number : ℕ → List Line → ℕ
line_number id [] = 0
line_number id (l ∷ ls) = cond (eqb l.id id) 0 (suc (line_number id ls))

-- the numbers of the lines that definitions and laws name, as `order` of the code has them
abbrev pub durations_line : ℕ
durations_line = 2

abbrev pub offsets_line : ℕ
offsets_line = 4

abbrev pub ivs_line : ℕ
ivs_line = 8

-- id 11's, by whose values ids 13 and 15 go
abbrev pub subsamples_line : ℕ
subsamples_line = 9

abbrev pub first_flags_line : ℕ
first_flags_line = 10

abbrev pub clear_line : ℕ
clear_line = 11

abbrev pub protected_line : ℕ
protected_line = 12

abbrev pub iv_size_line : ℕ
iv_size_line = 13

-- the marks of the fields in the words of a set, in the order of the table
unfoldable pub marks_of : List ℕ → List ℕ
marks_of w = map (λ l. get_or w l.place 0) lines

-- a test that every line of a run of the table passes
unfoldable pub every : (Line → Bool) → List Line → Bool
every p [] = true
every p (l ∷ ls) = p l and every p ls

-- 01: "Required: id 1, count less one; 3, 5, 7, 11, the count; 13, 15, the sum of 11."
unfoldable pub wanted : Want → Measure → ℕ
wanted One m = 1
wanted LessOne m = m.count - 1
wanted Count m = m.count
wanted Ivs m = m.count * m.ivs
wanted Sum m = m.sum

-- what an absent value counts as: 01: "if absent then, ids 2, 4, 6, 8 count as trex, 12 as 0 and 16 as the parameter"
unfoldable pub absent_value : Track → Absent → ℕ
absent_value t Zero = 0
absent_value t Middle = 0x8000_0000
absent_value t Description = t.description
absent_value t Duration = t.duration
absent_value t Size = t.size
absent_value t Flags = t.flags
absent_value t IvSize = t.iv_size

-- ==== What only mirrors the code

-- where the region of the line with the number i begins, and past the last line where the words end
unfoldable pub place_of : ℕ → ℕ
place_of i = get_or (map (λ l. l.place) lines) i set_len

-- numbers that no product or sum of them passes 64 bits
pub record Small (m : Measure) : Type 0 where
  pub count : m.count ≤ samples_most
  pub ivs : m.ivs ≤ 2
  pub sum : m.sum ≤ 65536

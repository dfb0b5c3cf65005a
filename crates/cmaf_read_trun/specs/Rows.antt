-- `trun`: the samples, a row for each.
use Rattle.std.specs.Prelude.{ℕ, ◌+◌, ◌*◌, ◌/◌, ◌%◌, ◌≤◌, ◌≡◌, Bool, cond, ◌&&◌, ◌||◌, List, eqb, leb, ltb, length}
use Rattle.laws.specs.Tests.{◌and◌}
use Rattle.byte_parts.specs.declared.Part.{Part}
use Rattle.cmaf_read_shape.specs.Words.{word_of, bit_of}
use Rattle.cmaf_read_tree.specs.Numbers.{u32}
use Rattle.cmaf_read_trun.specs.declared.rows.Run.{Run}

-- ==== The rules

-- the flags of the columns, and of the first sample's own flags
abbrev pub durations : ℕ
durations = 0x100

abbrev pub sizes : ℕ
sizes = 0x200

abbrev pub sample_flags : ℕ
sample_flags = 0x400

abbrev pub offsets : ℕ
offsets = 0x800

abbrev pub first : ℕ
first = 0x4

-- how many columns a word's flags bring
unfoldable pub columns_in : ℕ → ℕ
columns_in word = bit_of word durations + (bit_of word sizes + (bit_of word sample_flags + bit_of word offsets))

-- 01: "`trun` (flags within 0xF05): data offset present ..; not both first-sample and per-sample flags." The data offset's flag is 0x1.
-- The version: "`trun` (0 or 1)" (D26, D28)
unfoldable pub run_flags_ok : ℕ → Bool
run_flags_ok word =
    leb (word / 0x100_0000) 1
    and (eqb (word % 0x100_0000)
    (0x1
    + (first * bit_of word first
    + (durations * bit_of word durations + (sizes * bit_of word sizes + (sample_flags * bit_of word sample_flags + offsets * bit_of word offsets)))))
    and leb (bit_of word first + bit_of word sample_flags) 1)

-- the bytes before the first row: head, word, count, data offset, and the first sample's flags where they stand
unfoldable pub run_head : ℕ → ℕ
run_head word = 20 + 4 * bit_of word first

-- the bytes of a row: four for each column
unfoldable pub run_width : ℕ → ℕ
run_width word = 4 * columns_in word

abbrev pub count_of : List ℕ → Part → ℕ
count_of c b = u32 c (b.at + 12)

-- the length is what flags and count say (D22)
unfoldable pub trun_ok : List ℕ → Part → Bool
trun_ok c b = run_flags_ok (word_of c b) and eqb b.len (run_head (word_of c b) + run_width (word_of c b) * count_of c b)

abbrev pub run_of : List ℕ → Part → Run
run_of c b =
    record {
      word = word_of c b;
      count = count_of c b;
      rows = b.at + run_head (word_of c b);
      width = run_width (word_of c b);
    }

-- the offset of the payload from the start of the `moof`, as 32 bits
abbrev pub data_offset : List ℕ → Part → ℕ
data_offset c b = u32 c (b.at + 16)

-- 01: "data offset present and equal to the `moof` size plus 8". The offset is signed in its box, so it is below 2^31.
abbrev pub offset_leads : List ℕ → Part → Part → Bool
offset_leads c b moof = ltb (data_offset c b) 0x8000_0000 && eqb (data_offset c b) (moof.len + 8)

-- the first sample's flags; none set where they don't stand
unfoldable pub first_flags : List ℕ → Part → ℕ
first_flags c b = cond (eqb (bit_of (word_of c b) first) 0) 0 (u32 c (b.at + 20))

unfoldable pub has_column : Run → ℕ → Bool
has_column r column = eqb (bit_of r.word column) 1

-- what stands in a column for the sample with the number i. The columns stand in the order of their flags: before it are those of the flags
-- below.
unfoldable pub cell : List ℕ → Run → ℕ → ℕ → ℕ
cell c r column i = u32 c (r.rows + r.width * i + 4 * columns_in (r.word % column))

-- the size of a sample: of the column, or the default where there is none (D50)
unfoldable pub size_at : List ℕ → Run → ℕ → ℕ → ℕ
size_at c r default i = cond (has_column r sizes) (cell c r sizes i) default

-- ==== What only mirrors the code

-- the rows of a run lie in the chunk
pub record RowsIn (c : List ℕ) (r : Run) : Type 0 where
  pub wide : r.width ≡ run_width r.word
  pub within : r.rows + r.width * r.count ≤ length c

-- one of the four columns
unfoldable pub is_column : ℕ → Bool
is_column column = eqb column durations || (eqb column sizes || (eqb column sample_flags || eqb column offsets))

-- The set of moof fields in an object. 01: "The encoder writes them ascending".
use Rattle.std.specs.Prelude.{ℕ, ◌+◌, ◌*◌, ◌≤◌, ◌<◌, ◌≡◌, Bool, true, false, cond, not, ◌||◌, List, [], ◌∷◌, eqb, length, get_or, take}
use Rattle.std.proofs.Math.Seq.{slice}
use Rattle.laws.specs.Options.{is_some}
use Rattle.wire.specs.declared.form.Row.{Row}
use Rattle.wire.specs.declared.zigzag.Coding.TheVariants.{Plain}
use Rattle.wire.specs.Zigzag.{code_of}
use Rattle.track.specs.declared.Track.{Track}
use Rattle.field_table.specs.declared.lines.Line.{Line}
use Rattle.field_table.specs.Lines.{lines, spare, line_count, bmdt_at, count_at, subsamples_line, protected_line}
use Rattle.field_rules.specs.Fields.{coding_for}
use Rattle.effective.specs.Expected.{next_time}
use Rattle.locmaf_write_block.specs.declared.cells.Change.{Change}
use Rattle.locmaf_write_block.specs.declared.cells.Change.TheVariants.{Omitted, Deleted, Sent}
use Rattle.locmaf_write_tuples.specs.Items.{Items, nothing, ◌before◌, items_if, number_item, run_item, bytes_of, pair_most}
use Rattle.locmaf_write_block.specs.Changes.{chunk_lines, change_of, line_items, line_most}

-- ==== The rules

abbrev pub is_deleted : Change → Bool
is_deleted Deleted = true
is_deleted Omitted = false
is_deleted Sent = false

module _ (t : Track) (delta follow : Bool) (r x : List ℕ) where
  -- 01: "a vanished one is listed in id 27, ascending"; id 16 too, if a reference came with one (D143)
  unfoldable pub gone_of : List Line → List ℕ
  gone_of [] = []
  gone_of (l ∷ ls) = cond (is_deleted (change_of t delta follow r x l)) (l.id ∷ gone_of ls) (gone_of ls)

module _ (t : Track) (delta : Bool) (r x : List ℕ) where
  -- 01: "Ids 10 and 14 always", in a full object; in a delta "Id 10 is absolute, written only if BMDT differs from the previous BMDT plus the previous effective
  -- durations", and "Id 14 absent means same count." (D67)
  unfoldable pub bmdt_stands : Bool
  bmdt_stands = not delta || not (eqb (get_or x bmdt_at 0) (next_time t r))

unfoldable pub count_stands : Bool → List ℕ → List ℕ → Bool
count_stands delta r x = not delta || not (eqb (get_or x count_at 0) (get_or r count_at 0))

-- how many lines stand before BMDT, which comes before id 11, and before the sample count, which comes before id 15
abbrev pub before_bmdt : ℕ
before_bmdt = subsamples_line

abbrev pub before_count : ℕ
before_count = protected_line

unfoldable pub bmdt_if : List Row → Bool → List ℕ → Items
bmdt_if F stands x = items_if stands (number_item 10 (code_of F Plain 0 (get_or x bmdt_at 0)))

unfoldable pub bmdt_items : List Row → Track → Bool → List ℕ → List ℕ → Items
bmdt_items F t delta r x = bmdt_if F (bmdt_stands t delta r x) x

unfoldable pub count_items : List Row → Bool → List ℕ → List ℕ → Items
count_items F delta r x = items_if (count_stands delta r x) (number_item 14 (code_of F (coding_for delta) (get_or r count_at 0) (get_or x count_at 0)))

module _ (F : List Row) (t : Track) (delta follow : Bool) (r x : List ℕ) where
  unfoldable pub lines_items : List Line → Items
  lines_items [] = nothing
  lines_items (l ∷ ls) = line_items t delta follow r x l F before lines_items ls

  -- the fields of the lines from one number up to another
  abbrev pub between : ℕ → ℕ → Items
  between from to = lines_items (slice from to lines)

  -- ids 1 to 15: the lines that a chunk can have, and ids 10 and 14 between them
  unfoldable pub field_items : Items
  field_items =
      between 0 before_bmdt
      before bmdt_items F t delta r x
      before between before_bmdt before_count
      before count_items F delta r x
      before between before_count chunk_lines

  unfoldable pub deletion_items : Items
  deletion_items = items_if (not (eqb (length (gone_of t delta follow r x lines)) 0)) (run_item F Plain 27 0 [] (gone_of t delta follow r x lines))

-- ==== What only mirrors the code

-- the field of the line at a number
abbrev pub field_at : List Row → Track → Bool → Bool → List ℕ → List ℕ → ℕ → Items
field_at F t delta follow r x i = line_items t delta follow r x (get_or lines i spare) F

-- what is kept of weighing for writing: the bytes of each line, those of all lines together, and those of the deletions
abbrev pub all_at : ℕ
all_at = chunk_lines

abbrev pub gone_at : ℕ
gone_at = chunk_lines + 1

abbrev pub kept_len : ℕ
kept_len = chunk_lines + 2

-- the bytes of each field's tuple that fits are kept; of one that isn't sent they are 0
pub record KeptEach (F : List Row) (t : Track) (delta follow : Bool) (r x kept : List ℕ) : Type 0 where
  pub long : length kept ≡ kept_len
  pub each : (i : ℕ) → i < chunk_lines → is_some (field_at F t delta follow r x i) ≡ true → get_or kept i 0 ≡ length (bytes_of F (field_at F t delta follow r x i))

-- and those of all of them, where all fit
pub record KeptFields (F : List Row) (t : Track) (delta follow : Bool) (r x kept : List ℕ) : Type 0 where
  pub lines : KeptEach F t delta follow r x kept
  pub all : is_some (between F t delta follow r x 0 chunk_lines) ≡ true → get_or kept all_at 0 ≡ length (bytes_of F (between F t delta follow r x 0 chunk_lines))

-- and those of the deletions
pub record Kept (F : List Row) (t : Track) (delta follow : Bool) (r x kept : List ℕ) : Type 0 where
  pub fields : KeptFields F t delta follow r x kept
  pub gone : is_some (deletion_items F t delta follow r x) ≡ true → get_or kept gone_at 0 ≡ length (bytes_of F (deletion_items F t delta follow r x))

-- the ids that were collected, whatever the track is: so many, and the first so many words
pub record Collected (gone : Track → List ℕ) (ids : List ℕ) (n : ℕ) : Type 0 where
  pub few : n ≤ line_count
  pub long : length ids ≡ line_count
  pub all : (t : Track) → (n ≡ length (gone t)) × (take n ids ≡ gone t)

-- the most bytes of ids 1 to 15, and of id 27
abbrev pub set_most : ℕ
set_most = line_most * chunk_lines + (pair_most + pair_most)

abbrev pub gone_most : ℕ
gone_most = pair_most + 8 * line_count

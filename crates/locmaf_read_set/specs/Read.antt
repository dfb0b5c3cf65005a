-- The set of moof fields that an object gives, and what is asked of it, step by step in the order of 01.
use Rattle.std.specs.Prelude.{ℕ, ◌+◌, ◌-◌, ◌/◌, ◌%◌, ◌≤◌, ◌<◌, ◌≡◌, Bool, true, false, cond, not, ◌&&◌, ◌||◌, List, [], ◌∷◌, map, eqb, leb, length, get_or, replicate, Option, Some, None}
use Rattle.std.proofs.Math.Seq.{slice}
use Rattle.laws.specs.Tests.{◌and◌, sum}
use Rattle.laws.specs.Ladder.{Rung, ◌else◌, ladder}
use Rattle.constants.specs.Ids.{id_count}
use Rattle.constants.specs.Maxima.{samples_most, subsamples_most, entry_most}
use Rattle.wire.specs.declared.form.Row.{Row}
use Rattle.locmaf_read_index.specs.Places.{index_len, stands_at, number_at}
use Rattle.wire.specs.declared.zigzag.Coding.{Coding}
use Rattle.std.specs.Prelude.{Option, Some}
use Rattle.wire.specs.Zigzag.{reached}
use Rattle.track.specs.declared.Track.{Track}
use Rattle.field_table.specs.declared.lines.Line.{Line}
use Rattle.field_table.specs.declared.lines.Measure.{Measure}
use Rattle.field_table.specs.Lines.{lines, line_for, every, set_len, Small, line_count, ivs_at, subsamples_at, ivs_line, subsamples_line}
use Rattle.field_set.specs.declared.lawful.Tally.{Tally}
use Rattle.field_set.specs.Lawful.{TallyOf, values_of, saiz_ok, set_rules, same_iv_size, lawful}
use Rattle.locmaf_read_said.specs.declared.said.Word.{Word}
use Rattle.locmaf_read_said.specs.declared.said.Word.TheVariants.{Omitted, Deleted, Sent}
use Rattle.locmaf_read_field.specs.declared.cells.Cell.{Cell}
use Rattle.locmaf_read_said.specs.declared.against.Against.{Against}
use Rattle.locmaf_read_said.specs.Said.{Says, Saying, omitted, deleted, sent, saying_of, word_in, says_in, AllMarked}
use Rattle.field_rules.specs.Fields.{numbers, Held, coding_for, stood}
use Rattle.locmaf_read_said.specs.Deletions.{deletions_ok}
use Rattle.locmaf_read_said.specs.Against.{against_of}
use Rattle.locmaf_read_field.specs.Cells.{Came, cell_of}
use Rattle.field_rules.specs.Words.{no_fields, set_words, measure, was_of, store_all}
use Rattle.laws.specs.Options.{on_option}

-- ==== The rules

-- 01: "Id 14 absent means same count." (D104)
unfoldable pub count_from : Coding → Option (List ℕ) → ℕ → Option ℕ
count_from coding None old = Some old
count_from coding (Some []) old = Some old
count_from coding (Some (z ∷ zs)) old = reached coding old samples_most z

-- 01: "list length (ids 9 and 23 too)": brands have four bytes each, and there is one at least (D98)
unfoldable pub brands_fit : Option (List ℕ) → Bool
brands_fit None = true
brands_fit (Some bs) = not (eqb (length bs) 0) && eqb (length bs % 4) 0

abbrev pub stands_by : Saying → Bool → Bool
stands_by omitted b = b
stands_by deleted b = false
stands_by (sent zs) b = true

-- r is the reference's set, which a full object has no use for
module _ (t : Track) (delta : Bool) (r : List ℕ) (says : Says) where
  unfoldable pub count_reached : Option ℕ
  count_reached = count_from (coding_for delta) (says 14) (was_of t delta r).count

  -- the sample count of the new set; 0 where it is outside its range
  unfoldable pub count_of : ℕ
  count_of = on_option count_reached (λ n. n) 0

  -- the field of a line, by lengths that go by m
  unfoldable pub came_of : Measure → Line → Came
  came_of m l = cell_of t (coding_for delta) delta r (was_of t delta r) l m (saying_of says l.id)

  -- the subsample counts, on whose sum the lengths of ids 13 and 15 go
  unfoldable pub subsamples : List ℕ
  subsamples = numbers (came_of (measure t count_of 0) (line_for 11 lines)).field

  -- the field of a line, by the sum of the subsample counts as they come out, sent or carried (D103)
  unfoldable pub came : Line → Came
  came l = came_of (measure t count_of (sum subsamples)) l

  abbrev pub field_of : Line → Held
  field_of l = (came l).field

  -- the field stands in the new set, whatever its values are
  unfoldable pub stands : Line → Bool
  stands l = stands_by (saying_of says l.id) (stood delta r l)

  abbrev pub marks : List ℕ
  marks = map (λ l. cond (stands l) 1 0) lines

  -- the words of the new set, but for BMDT
  abbrev pub new_words : ℕ → List ℕ
  new_words bmdt = set_words bmdt count_of field_of

  -- 01: "14 (lengths but 13 and 15), 15 (id 11's values and sum), 14 (lengths of 13 and 15, set), 15 (all other values, ..)" (D95, D96)
  unfoldable pub field_rungs : List Rung
  field_rungs =
      ((every (λ l. (came l).cell.first) lines and brands_fit (says 23)) else 14)
      ∷ (((came (line_for 11 lines)).cell.within and saiz_ok t.iv_size subsamples and leb (sum subsamples) subsamples_most) else 15)
      ∷ ((every (λ l. (came l).cell.second) lines and set_rules t count_of marks) else 14)
      ∷ ((every (λ l. (came l).cell.within) lines and same_iv_size t (new_words 0)) else 15)
      ∷ []

  -- 01: "14 (deletions), 15 (sample count)", then the fields
  unfoldable pub set_rungs : List Rung
  set_rungs = (deletions_ok r says [] (numbers (says 27)) else 14) ∷ (on_option count_reached (λ _. true) false else 15) ∷ field_rungs

-- ==== What only mirrors the code

abbrev pub brands_in : List ℕ → Bool
brands_in index = eqb (get_or index (stands_at 23) 0) 0 || (not (eqb (get_or index (number_at 23) 0) 0) && eqb (get_or index (number_at 23) 0 % 4) 0)

abbrev pub word_stands : Word → Bool → Bool
word_stands Omitted stood = stood
word_stands Deleted stood = false
word_stands (Sent s) stood = true

-- the field of a line stands, by the words of its id and the reference's mark
unfoldable pub stays_in : List ℕ → List ℕ → Bool → List ℕ → Line → Bool
stays_in index gone held r l = word_stands (word_in index gone l.id) (stood held r l)

abbrev pub marks_in : List ℕ → List ℕ → Bool → List ℕ → List ℕ
marks_in index gone held r = map (λ l. cond (stays_in index gone held r l) 1 0) lines

-- the object sends no field of the table
unfoldable pub none_sent : List ℕ → Bool
none_sent index = every (λ l. eqb (get_or index (stands_at l.id) 0) 0) lines

-- what is asked of a set of n samples in which no field stands
unfoldable pub bare_rungs : Track → ℕ → List ℕ → List Rung
bare_rungs t n index = (brands_in index else 14) ∷ (set_rules t n (replicate line_count 0) else 14) ∷ []

-- the words that are lent for an object: its index, the marks of what it deletes, and the reference's set
abbrev pub Lent : List ℕ → List ℕ → List ℕ → Type 0
Lent index gone r = (length index ≡ index_len) × (length gone ≡ id_count) × (length r ≡ set_len)

-- what the fields are read from: the index with its marks, and the reference's set where it is a delta
pub record Readable (F : List Row) (o index gone : List ℕ) (t : Track) (a : Against) (r : List ℕ) : Type 0 where
  pub marked : AllMarked F o index gone (says_in F o index)
  pub against : a ≡ against_of t a.held r
  pub words : length r ≡ set_len
  pub lawful : a.held ≡ true → lawful t r ≡ true
  pub iv : t.iv_size ≤ 16

-- lengths that keep the maxima
pub record Measured (m : Measure) : Type 0 where
  pub small : Small m
  pub few : m.sum ≤ subsamples_most

-- the room of the IVs is 0 in the words x, where it is still to be read: i is the number of the next line
abbrev pub ClearFrom : ℕ → List ℕ → Type 0
ClearFrom i x = i ≤ ivs_line → (j : ℕ) → ivs_at < j → j < subsamples_at → get_or x j 0 ≡ 0

-- a run of lines was taken: what was answered, and where all is right what is stored, if the room of the IVs was clear
pub record TakenAll (clear : Type 0) (f : Line → Came) (ls : List Line) (before : List ℕ) (c : Cell) (after : List ℕ) : Type 0 where
  pub first : c.first ≡ every (λ l. (f l).cell.first) ls
  pub second : c.second ≡ every (λ l. (f l).cell.second) ls
  pub within : c.within ≡ every (λ l. (f l).cell.within) ls
  pub stored : clear → (c.first ≡ true) → (c.second ≡ true) → (c.within ≡ true) → after ≡ store_all (λ l. (f l).field) ls before
  pub long : length after ≡ length before

-- the fields up to id 11's were taken into the words `after`, with lengths that go by m: id 11 came to b, its counts to c, and those before it to e
pub record FrontTaken (t : Track) (delta : Bool) (r : List ℕ) (says : Says) (m : Measure) (e b : Cell) (c : Tally) (after : List ℕ) : Type 0 where
  pub start : List ℕ
  pub eleven : List ℕ
  pub few : m.count ≤ samples_most
  pub lengths : m ≡ measure t m.count 0
  pub reached : count_reached t delta r says ≡ Some m.count
  pub empty : start ≡ set_words 0 m.count no_fields
  pub pairs : TakenAll (ClearFrom subsamples_line start) (came_of t delta r says (measure t m.count 0)) (slice subsamples_line (subsamples_line + 1) lines) start b eleven
  pub tally : TallyOf c ((entry_most - 2 - t.iv_size) / 6) (values_of 11 m.count eleven)
  pub others : TakenAll (ClearFrom 0 eleven) (came_of t delta r says (measure t m.count 0)) (slice 0 subsamples_line lines) eleven e after

-- a row of rules was asked: the number, and where it is 0 the words
pub record ReadAs (rungs : List Rung) (words : List ℕ) (number : ℕ) (after : List ℕ) : Type 0 where
  pub answered : number ≡ ladder rungs (λ k. k) 0
  pub stored : number ≡ 0 → after ≡ words
  pub long : length after ≡ set_len

-- the set of the object o was read by its index, and from the sample count on
abbrev pub SetReadAs : List Row → Track → Bool → List ℕ → List ℕ → List ℕ → ℕ → List ℕ → Type 0
SetReadAs F t delta r o index number after =
    ReadAs (set_rungs t delta r (says_in F o index)) (new_words t delta r (says_in F o index) 0) number after

abbrev pub FieldsReadAs : List Row → Track → Bool → List ℕ → List ℕ → List ℕ → ℕ → List ℕ → Type 0
FieldsReadAs F t delta r o index number after =
    ReadAs (field_rungs t delta r (says_in F o index)) (new_words t delta r (says_in F o index) 0) number after

-- the first two rules: the fields before id 11 came to e, id 11 to b, and its counts to c
unfoldable pub first_rungs : List ℕ → Cell → Cell → Tally → List Rung
first_rungs index e b c =
    ((e.first && (b.first && brands_in index)) else 14) ∷ ((b.within && (c.ok && leb c.sum subsamples_most)) else 15) ∷ []

-- ---- the fields behind id 11, by lengths that go by m, into the words `before`

abbrev pub last_lines : List Line
last_lines = slice (subsamples_line + 1) line_count lines

module _ (t : Track) (delta : Bool) (r : List ℕ) (says : Says) (m : Measure) where
  abbrev pub last_words : List ℕ → List ℕ
  last_words before = store_all (λ l. (came_of t delta r says m l).field) last_lines before

  -- the last two rules: `second` and `within` say what the fields before these came to
  unfoldable pub last_rungs : Bool → Bool → List ℕ → List Rung
  last_rungs second within before =
      ((second and every (λ l. (came_of t delta r says m l).cell.second) last_lines and set_rules t m.count (marks t delta r says)) else 14)
      ∷ ((within and every (λ l. (came_of t delta r says m l).cell.within) last_lines and same_iv_size t (last_words before)) else 15)
      ∷ []

  abbrev pub LastReadAs : Bool → Bool → List ℕ → ℕ → List ℕ → Type 0
  LastReadAs second within before number after = ReadAs (last_rungs second within before) (last_words before) number after

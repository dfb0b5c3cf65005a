-- One field of the new set: what the object says of it, against the reference.
use Rattle.std.specs.Prelude.{ℕ, ◌+◌, ◌*◌, ◌≤◌, ◌<◌, ◌≡◌, Bool, true, false, cond, List, [], ◌∷◌, eqb, length, get_or, replicate, Some, None}
use Rattle.std.proofs.Math.Seq.{slice}
use Rattle.std.proofs.lemmas.List.Edits.{sets}
use Rattle.wire.specs.declared.form.Row.{Row}
use Rattle.wire.specs.declared.zigzag.Coding.{Coding}
use Rattle.wire.specs.Zigzag.{reached}
use Rattle.runs.specs.declared.Misread.{Misread}
use Rattle.runs.specs.declared.Misread.TheVariants.{Misfit, Outside}
use Rattle.std.specs.Prelude.{Result, Ok, Err}
use Rattle.runs.specs.Run.{first}
use Rattle.locmaf_read_block.specs.Numbers.{numbers_f, steps_f}
use Rattle.track.specs.declared.Track.{Track}
use Rattle.field_table.specs.declared.lines.Want.{Want}
use Rattle.field_table.specs.declared.lines.Want.TheVariants.{One, LessOne, Count, Ivs, Sum}
use Rattle.field_table.specs.declared.lines.Line.{Line}
use Rattle.field_table.specs.declared.lines.Measure.{Measure}
use Rattle.field_table.specs.Lines.{wanted, absent_value, Small}
use Rattle.locmaf_read_said.specs.declared.said.Span.{Span}
use Rattle.locmaf_read_said.specs.declared.said.Word.{Word}
use Rattle.locmaf_read_said.specs.declared.said.Word.TheVariants.{Omitted, Deleted, Sent}
use Rattle.locmaf_read_field.specs.declared.cells.Cell.{Cell}
use Rattle.locmaf_read_said.specs.Said.{Saying, omitted, deleted, sent}
use Rattle.field_rules.specs.Carried.{carried_by}
use Rattle.field_rules.specs.Fields.{Held, numbers, coding_of, is_ivs, packed, stood, old_values, words_of}
use Rattle.laws.specs.Options.{on_option}

-- ==== The rules

-- how a field came out, and the field
pub record Came : Type 0 where
  pub cell : Cell
  pub field : Held

abbrev pub told : Bool → Bool → Bool → Cell
told a b c = record { first = a; second = b; within = c }

abbrev pub came : Cell → Held → Came
came c f = record { cell = c; field = f }

-- the field is right
abbrev pub right : Cell
right = told true true true

abbrev pub well : Held → Came
well f = came right f

-- its length is not the required one. 01: "14 (lengths but 13 and 15)", "14 (lengths of 13 and 15, set)"
abbrev pub misfit_of : Want → Cell
misfit_of One = told false true true
misfit_of LessOne = told false true true
misfit_of Count = told false true true
misfit_of Ivs = told false true true
misfit_of Sum = told true false true

abbrev pub misfit : Want → Came
misfit want = came (misfit_of want) None

-- a value is outside its range
abbrev pub out_of_range : Cell
out_of_range = told true true false

abbrev pub beyond : Came
beyond = came out_of_range None

abbrev pub filled_as : Result (Unit {0}) Misread → List ℕ → Came
filled_as (Ok tt) vs = well (Some vs)
filled_as (Err Misfit) vs = beyond
filled_as (Err Outside) vs = beyond

-- 01: "An omitted list is carried only if its required length is unchanged, else 14." (D92, D102) 01's "Id 9, where the track is cenc and there are samples, always
-- stands in the object; else 14" is amended by 02, order 6: "if each IV follows, .. id 9 is omitted". The old IVs are never carried: zeros keep the room for those that
-- are derived when the whole set is known (D150).
unfoldable pub carried : Want → ℕ → ℕ → List ℕ → Came
carried want j k olds = cond (is_ivs want) (well (Some (replicate k 0))) (cond (carried_by j k) (well (Some olds)) (misfit want))

-- a single value against the old one
unfoldable pub sent_one : Coding → ℕ → ℕ → ℕ → Came
sent_one coding old bound z = on_option (reached coding old bound z) (λ v. well (Some (v ∷ []))) beyond

-- the IVs: each is kept as words of eight bytes
abbrev pub sent_ivs : Want → ℕ → List ℕ → Came
sent_ivs want k zs = cond (eqb (length zs) (8 * k)) (well (Some (packed k zs))) (misfit want)

-- 01: "Required: id 1, count less one; 3, 5, 7, 11, the count; 13, 15, the sum of 11."
unfoldable pub sent_list : Coding → ℕ → ℕ → Want → ℕ → List ℕ → List ℕ → Came
sent_list coding base bound want k olds zs =
    cond (is_ivs want)
    (sent_ivs want k zs)
    (cond (eqb (length zs) k) (let f = steps_f coding base bound olds zs in filled_as f.answer f.values) (misfit want))

-- a field that is omitted: b says that it stood
abbrev pub kept_field : Bool → Want → ℕ → ℕ → List ℕ → Came
kept_field b want j k olds = cond b (carried want j k olds) (well None)

-- a field that is sent, against its old values
abbrev pub sent_field : Track → Coding → Line → Measure → List ℕ → List ℕ → Came
sent_field t coding l m olds zs =
    let base = absent_value t l.absent in
    let coded = coding_of coding l.absent in
    cond (eqb l.room 1)
    (sent_one coded (first base olds) l.bound (first 0 zs))
    (sent_list coded base l.bound l.want (wanted l.want m) olds zs)

-- the field of a line: `held` says that there is a reference r, whose lengths go by `was`, and the new ones by `m`
module _ (t : Track) (coding : Coding) (held : Bool) (r : List ℕ) (was : Measure) (l : Line) (m : Measure) where
  unfoldable pub cell_of : Saying → Came
  cell_of omitted = kept_field (stood held r l) l.want (wanted l.want was) (wanted l.want m) (old_values held r was l)
  cell_of deleted = well None
  cell_of (sent zs) = sent_field t coding l m (old_values held r was l) zs

-- ==== What only mirrors the code

-- a call took a field: what it answered, and where all is right what it stored at the field's place
pub record TakenAs (f : Came) (place : ℕ) (before : List ℕ) (c : Cell) (after : List ℕ) : Type 0 where
  pub answered : c ≡ f.cell
  pub stored : (c.first ≡ true) → (c.second ≡ true) → (c.within ≡ true) → after ≡ sets before place (words_of f.field)
  pub long : length after ≡ length before

-- k words behind the mark of a line are 0, where the line is that of the IVs
abbrev pub Clear : Line → ℕ → List ℕ → Type 0
Clear l k x = is_ivs l.want ≡ true → (j : ℕ) → l.place < j → j ≤ l.place + k → get_or x j 0 ≡ 0

-- a call took a field, and where that is IVs that are left out it stored their mark alone: what stands behind it is known if it was clear before
pub record TakenIf (clear : Type 0) (f : Came) (place : ℕ) (before : List ℕ) (c : Cell) (after : List ℕ) : Type 0 where
  pub answered : c ≡ f.cell
  pub taken : clear → TakenAs f place before c after
  pub long : length after ≡ length before

-- the first n values at the place of a line
abbrev pub values_at : List ℕ → Line → ℕ → List ℕ
values_at r l n = slice (l.place + 1) (l.place + 1 + n) r

-- the old values: b says that the field stood
abbrev pub values_if : Bool → List ℕ → Measure → Line → List ℕ
values_if b r was l = cond b (values_at r l (wanted l.want was)) []

-- ---- what a word of the index says, by the bytes o of the object

abbrev pub span_bytes : List ℕ → Span → List ℕ
span_bytes o s = slice s.at (s.at + s.number) o

-- the numbers of a list: raw bytes, or varints
unfoldable pub list_in : List Row → List ℕ → Want → Span → List ℕ
list_in F o want s = cond (is_ivs want) (span_bytes o s) (numbers (numbers_f F (span_bytes o s)))

-- a list that stands in o, by its line and against its old values
abbrev pub list_sent : List Row → List ℕ → Coding → ℕ → Line → Span → ℕ → List ℕ → Came
list_sent F o coding base l s k olds = sent_list coding base l.bound l.want k olds (list_in F o l.want s)

-- what is sent of a line: one number, or a list
abbrev pub sent_in : List Row → List ℕ → Line → Span → List ℕ
sent_in F o l s = cond (eqb l.room 1) (s.number ∷ []) (list_in F o l.want s)

unfoldable pub said : List Row → List ℕ → Line → Word → Saying
said F o l Omitted = omitted
said F o l Deleted = deleted
said F o l (Sent s) = sent (sent_in F o l s)

-- the bytes of a list are in o, and varints fill them, as many as the span says
pub record Listed (F : List Row) (o : List ℕ) (want : Want) (s : Span) : Type 0 where
  pub inside : s.at + s.number ≤ length o
  pub whole : is_ivs want ≡ false → numbers_f F (span_bytes o s) ≡ Some (list_in F o want s)
  pub many : is_ivs want ≡ false → s.count ≡ length (list_in F o want s)

-- what a call of `send_list` is lent: u old values stand in r, and there is room for k in x
pub record Listable (F : List Row) (o : List ℕ) (want : Want) (s : Span) (place : ℕ) (r : List ℕ) (u k : ℕ) (x : List ℕ) : Type 0 where
  pub listed : Listed F o want s
  pub olds : place + 1 + u ≤ length r
  pub room : place + 1 + k ≤ length x

-- of a word that sends a list
abbrev pub Spans : List Row → List ℕ → Line → Word → Type 0
Spans F o l Omitted = Unit {0}
Spans F o l Deleted = Unit {0}
Spans F o l (Sent s) = (l.room ≡ 1 → ⊥) → Listed F o l.want s

-- the line's region lies in both runs of words, and the lengths are within its room: b says that the field stood
pub record RegionFits (l : Line) (b : Bool) (r x : List ℕ) (was m : Measure) : Type 0 where
  pub there : l.place + 1 + l.room ≤ length r
  pub here : l.place + 1 + l.room ≤ length x
  pub single : l.room ≡ 1 → l.want ≡ One
  pub old : Small was
  pub new : Small m
  pub room : wanted l.want m ≤ l.room
  pub kept : b ≡ true → wanted l.want was ≤ l.room

-- what a call of `take` is lent
abbrev pub Takeable : Line → Bool → List ℕ → List ℕ → Measure → Measure → Type 0
Takeable l held r x was m = RegionFits l (stood held r l) r x was m

-- The words of a set of moof fields, by its fields.
use Rattle.std.specs.Prelude.{ℕ, ◌+◌, ◌-◌, ◌/◌, Bool, cond, List, [], ◌∷◌, ◌++◌, length, replicate, Some, None}
use Rattle.std.proofs.lemmas.List.Edits.{sets}
use Rattle.track.specs.declared.Track.{Track}
use Rattle.field_table.specs.declared.lines.Line.{Line}
use Rattle.field_table.specs.declared.lines.Measure.{Measure}
use Rattle.field_table.specs.Lines.{lines}
use Rattle.field_set.specs.Lawful.{measure_of}
use Rattle.field_rules.specs.Fields.{Held, words_of}

-- ==== The rules

-- a field's region: its mark, its values, and zeros up to its room
unfoldable pub region_of : Line → Held → List ℕ
region_of l None = replicate (1 + l.room) 0
region_of l (Some vs) = 1 ∷ (vs ++ replicate (l.room - length vs) 0)

unfoldable pub regions_of : (Line → Held) → List Line → List ℕ
regions_of f [] = []
regions_of f (l ∷ ls) = region_of l (f l) ++ regions_of f ls

-- BMDT, the sample count, and the fields in the order of the table
unfoldable pub set_words : ℕ → ℕ → (Line → Held) → List ℕ
set_words bmdt n f = bmdt ∷ n ∷ regions_of f lines

-- ---- the lengths that the fields go by

-- IVs go by the parameter's size, whatever id 16 says (D93)
abbrev pub measure : Track → ℕ → ℕ → Measure
measure t n k = record { count = n; ivs = t.iv_size / 8; sum = k }

-- what an object is read and written against: a delta against the reference, a full object against nothing
abbrev pub was_of : Track → Bool → List ℕ → Measure
was_of t delta r = cond delta (measure_of t r) (record { count = 0; ivs = 0; sum = 0 })

-- ==== What only mirrors the code

-- no field stands
abbrev pub no_fields : Line → Held
no_fields l = None

-- the words x with each field of a run of lines stored at its place
unfoldable pub store_all : (Line → Held) → List Line → List ℕ → List ℕ
store_all f [] x = x
store_all f (l ∷ ls) x = store_all f ls (sets x l.place (words_of (f l)))

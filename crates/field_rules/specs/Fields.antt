-- A field of the set by its values: what its numbers go by, and what an old one was.
use Rattle.std.specs.Prelude.{ℕ, zero, suc, ◌+◌, Bool, true, false, cond, not, ◌&&◌, List, [], ◌∷◌, eqb, get_or, take, drop, Option, Some, None}
use Rattle.std.proofs.Math.Seq.{slice}
use Rattle.laws.specs.Bytes.{de}
use Rattle.wire.specs.declared.zigzag.Coding.{Coding}
use Rattle.wire.specs.declared.zigzag.Coding.TheVariants.{Plain, Delta}
use Rattle.field_table.specs.declared.lines.Want.{Want}
use Rattle.field_table.specs.declared.lines.Want.TheVariants.{One, LessOne, Count, Ivs, Sum}
use Rattle.field_table.specs.declared.lines.Absent.{Absent}
use Rattle.field_table.specs.declared.lines.Absent.TheVariants.{Zero, Middle, Description, Duration, Size, Flags, IvSize}
use Rattle.field_table.specs.declared.lines.Line.{Line}
use Rattle.field_table.specs.declared.lines.Measure.{Measure}
use Rattle.field_table.specs.Lines.{wanted}

-- ==== The rules

abbrev pub Held : Type 0
Held = Option (List ℕ)

abbrev pub numbers : Option (List ℕ) → List ℕ
numbers (Some zs) = zs
numbers None = []

-- the values of a full object stand as they are, those of a delta as distances
abbrev pub coding_for : Bool → Coding
coding_for true = Delta
coding_for false = Plain

-- 01: "Id 5 is zigzag, other values plain"; in a delta all are distances
abbrev pub coding_of : Coding → Absent → Coding
coding_of coding Middle = Delta
coding_of coding Zero = coding
coding_of coding Description = coding
coding_of coding Duration = coding
coding_of coding Size = coding
coding_of coding Flags = coding
coding_of coding IvSize = coding

abbrev pub is_ivs : Want → Bool
is_ivs Ivs = true
is_ivs One = false
is_ivs LessOne = false
is_ivs Count = false
is_ivs Sum = false

-- bytes as words of eight, k of them
unfoldable pub packed : ℕ → List ℕ → List ℕ
packed zero bs = []
packed (suc k) bs = de (take 8 bs) ∷ packed k (drop 8 bs)

-- the reference has the field
abbrev pub stood : Bool → List ℕ → Line → Bool
stood held r l = held && not (eqb (get_or r l.place 0) 0)

-- its values there, by the length that they had (D90)
unfoldable pub old_values : Bool → List ℕ → Measure → Line → List ℕ
old_values held r was l = cond (stood held r l) (slice (l.place + 1) (l.place + 1 + wanted l.want was) r) []

-- ==== What only mirrors the code

-- the words of a field: its mark and its values
abbrev pub words_of : Held → List ℕ
words_of None = []
words_of (Some vs) = 1 ∷ vs

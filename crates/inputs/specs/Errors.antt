-- Why a track isn't gone through to its end.
use Rattle.std.specs.Prelude.{ℕ, ◌≡◌, List, ⊤}
use Rattle.inputs.specs.declared.errors.Error.{Error}
use Rattle.inputs.specs.declared.errors.Error.TheVariants.{Bad, Failed}
use Rattle.inputs.specs.declared.errors.Wrong.{Wrong}
use Rattle.inputs.specs.declared.errors.Wrong.TheVariants.{NoLength, NoBytes, LongChunk, CutChunk, GoesOn, Closed, Empty, TooLong, NotParams, NotOpened}

-- no file is to blame
abbrev pub IsFailed : Error → Type 0
IsFailed (Failed e) = ⊤
IsFailed (Bad name wrong) = ⊥

-- no other file than the one with this name is to blame
abbrev pub BlamesAtMost : List ℕ → Error → Type 0
BlamesAtMost file (Failed e) = ⊤
BlamesAtMost file (Bad name wrong) = name.now ≡ file

-- it is wrong with the line i
abbrev pub IsOfLine : ℕ → Wrong → Type 0
IsOfLine i (NoLength line) = line ≡ i
IsOfLine i (NoBytes line) = line ≡ i
IsOfLine i (LongChunk line) = line ≡ i
IsOfLine i (CutChunk line) = line ≡ i
IsOfLine i (Closed why) = ⊥
IsOfLine i Empty = ⊥
IsOfLine i TooLong = ⊥
IsOfLine i NotParams = ⊥
IsOfLine i (NotOpened number meaning) = ⊥
IsOfLine i GoesOn = ⊥

-- if a file is to blame, then the one with this name at its line i
abbrev pub BlamesAtMostLine : List ℕ → ℕ → Error → Type 0
BlamesAtMostLine file i (Failed e) = ⊤
BlamesAtMostLine file i (Bad name wrong) = (name.now ≡ file) × IsOfLine i wrong

-- the file with this name goes on where it has to end
abbrev pub SaysGoesOn : List ℕ → Error → Type 0
SaysGoesOn file (Failed e) = ⊥
SaysGoesOn file (Bad name wrong) = (name.now ≡ file) × (wrong ≡ GoesOn)

-- The rules on a column from the first sample to the last, and how many samples there may be.
use Rattle.std.specs.Prelude.{ℕ, ◌≤◌, Bool, true, List, [], ◌∷◌}
use Rattle.laws.specs.Tests.{◌and◌}
use Rattle.media.specs.Flags.{only}
use Rattle.constants.specs.Maxima.{samples_most}
use Rattle.cmaf_read_trun.specs.declared.rows.Run.{Run}
use Rattle.cmaf_read_trun.specs.Rows.{RowsIn}

-- ==== The rules

-- 01: "Sample flags: only non_sync, depends_on, is_depended_on. is_leading is refused, 7": of flags, each as 32 bits
unfoldable pub all_only : List ℕ → Bool
all_only [] = true
all_only (x ∷ xs) = only x and all_only xs

-- 01: "Composition offsets: -2^31 to 2^31-1": the largest
abbrev pub offset_most : ℕ
offset_most = 0x7fff_ffff

-- ==== What only mirrors the code

-- a test holds of every number
unfoldable pub all_by : (ℕ → Bool) → List ℕ → Bool
all_by holds [] = true
all_by holds (x ∷ xs) = holds x and all_by holds xs

-- the rows of a run lie in the chunk, and keep their maximum
abbrev pub FewRows : List ℕ → Run → Type 0
FewRows c r = RowsIn c r × (r.count ≤ samples_most)

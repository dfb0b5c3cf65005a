-- Where the `mfhd` number stands in a front, by its boxes; and a front without it.
-- ==== What is shown of the rules
use Rattle.std.specs.Prelude.{ℕ, ◌+◌, List, ◌++◌, take, drop}
use Rattle.std.proofs.Math.Seq.{slice}
use Rattle.laws.specs.Bytes.{be, de}
use Rattle.cmaf_read_shape.specs.Top.{top_of}

-- 01: "Order: `styp`? `prft`? `emsg`* `moof` `mdat`"; "`moof` has `mfhd`, then one `traf`": the boxes before the `moof` are passed by their sizes, as a chunk's are
-- when it is encoded. The number stands behind the size and type of the `moof` (8 bytes), and the size, type, version and flags of the `mfhd` (12 bytes) (D140)
unfoldable pub number_at : List ℕ → ℕ
number_at c = (top_of c).moof.at + 20

-- the number that stands there
unfoldable pub number_in : List ℕ → ℕ
number_in c = de (slice (number_at c) (number_at c + 4) c)

-- the four bytes from a place on put to 0
unfoldable pub zeroed : ℕ → List ℕ → List ℕ
zeroed at c = take at c ++ (be 4 0 ++ drop (at + 4) c)

-- the front with its sequence number put to 0
abbrev pub unnumbered : List ℕ → List ℕ
unnumbered c = zeroed (number_at c) c

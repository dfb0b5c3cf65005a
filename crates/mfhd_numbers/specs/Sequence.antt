-- The number in the `mfhd` of a chunk, which counts the objects that a receiver accepted; and two chunks that are the same but for it.
-- ==== The rules
use Rattle.std.specs.Prelude.{ℕ, ◌+◌, ◌-◌, ◌%◌, ◌^◌, ◌≤◌, ◌≡◌, List, leb, take, drop}
use Rattle.laws.specs.Gate.{gate}
use Rattle.cmaf_read_tree.specs.Numbers.{u32}
use Rattle.byte_parts.specs.declared.Part.{Part}
use Rattle.cmaf_read_shape.specs.Parts.{part}
use Rattle.cmaf_read_shape.specs.Top.{top_of}
use Rattle.cmaf_read_shape.specs.Inner.{inner_of}

-- by the sizes and types of the boxes; a part of no bytes where none stands
abbrev pub mfhd_of : List ℕ → Part
mfhd_of c = (inner_of c (top_of c).moof).mfhd

-- the four bytes of the number, behind size, type, version and flags; no bytes where there is none
unfoldable pub number_of : List ℕ → Part
number_of c = gate (leb 16 (mfhd_of c).len) (part 0 0) (part ((mfhd_of c).at + 12) 4)

unfoldable pub value_of : List ℕ → ℕ
value_of c = gate (leb 4 (number_of c).len) 0 (u32 c (number_of c).at)

-- by how much the second one's is less, modulo 2^32
abbrev pub less_by : List ℕ → List ℕ → ℕ
less_by a b = (value_of a + 2 ^ 32 - value_of b) % 2 ^ 32

-- the numbers stand at the same place of fronts of that length, and all before them and all behind them is the same
pub record SameBut (front : ℕ) (a b : List ℕ) : Type 0 where
  pub one : (number_of a).len ≡ 4
  pub other : (number_of b).len ≡ 4
  pub there : (number_of a).at ≡ (number_of b).at
  pub inside : (number_of a).at + 4 ≤ front
  pub before : take (number_of a).at a ≡ take (number_of b).at b
  pub behind : drop ((number_of a).at + 4) a ≡ drop ((number_of b).at + 4) b

-- ==== What only mirrors the code

-- all before two parts and all behind them is the same
pub record SameAround (a : List ℕ) (p : Part) (b : List ℕ) (q : Part) : Type 0 where
  pub before : take p.at a ≡ take q.at b
  pub behind : drop (p.at + p.len) a ≡ drop (q.at + q.len) b

-- A box where it is looked for.
use Rattle.std.specs.Prelude.{ℕ, ◌+◌, ◌-◌, ◌≤◌, cond, List, eqb, ltb, length, take, drop}
use Rattle.laws.specs.Tests.{◌and◌}
use Rattle.cmaf_read_tree.specs.Whole.{size_of, kind_of, sized}
use Rattle.byte_parts.specs.declared.Part.{Part}
use Rattle.cmaf_read_shape.specs.declared.parts.Any.{Any}

-- ==== The rules

abbrev pub part : ℕ → ℕ → Part
part at len = record { at = at; len = len }

abbrev pub end_of : Part → ℕ
end_of p = p.at + p.len

-- what stands in a box after its head
unfoldable pub body_of : Part → Part
body_of p = cond (ltb p.len 8) (part p.at 0) (part (p.at + 8) (p.len - 8))

-- the boxes from the place at on, in the list that ends at the place end
abbrev pub list_at : List ℕ → ℕ → ℕ → List ℕ
list_at c at end = drop at (take end c)

-- the first of them, whatever its type
unfoldable pub any_at : List ℕ → ℕ → ℕ → Any
any_at c at end =
    let l = list_at c at end in
    record { kind = cond (sized l) (kind_of l) 0; at = at; len = cond (sized l) (size_of l) 0 }

-- and if it has the type; of no bytes where it doesn't
unfoldable pub box_at : List ℕ → ℕ → ℕ → ℕ → Part
box_at c at end kind = let l = list_at c at end in part at (cond (sized l and eqb (kind_of l) kind) (size_of l) 0)

-- the first box inside another one, if it has the type
abbrev pub first_in : List ℕ → Part → ℕ → Part
first_in c p kind = box_at c (body_of p).at (end_of (body_of p)) kind

-- ==== What only mirrors the code

-- a part lies in the chunk
pub record Inside (c : List ℕ) (p : Part) : Type 0 where
  pub within : end_of p ≤ length c

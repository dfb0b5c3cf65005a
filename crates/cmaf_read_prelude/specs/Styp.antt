-- The `styp` of a chunk, or its absence: a box of no bytes.
-- ==== The rules
use Rattle.std.specs.Prelude.{ℕ, ◌+◌, ◌-◌, ◌/◌, ◌%◌, Bool, cond, ◌&&◌, ◌||◌, List, eqb, leb, ltb}
use Rattle.byte_parts.specs.declared.Part.{Part}
use Rattle.cmaf_read_tree.specs.Numbers.{u32}

-- 01: "box lengths .. are 6". A major brand, a minor version and whole compatible brands, none at all among them (D37).
unfoldable pub styp_ok : Part → Bool
styp_ok b = eqb b.len 0 || (leb 16 b.len && eqb (b.len % 4) 0)

-- how many there are. The major brand is one of them (D38).
unfoldable pub brands_in : Part → ℕ
brands_in b = cond (ltb b.len 16) 0 ((b.len - 12) / 4)

-- 01: "`styp`: minor_version 0." Without a box it is 0 (D37).
unfoldable pub minor_version : List ℕ → Part → ℕ
minor_version c b = cond (ltb b.len 16) 0 (u32 c (b.at + 12))

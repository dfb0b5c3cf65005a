-- `saiz` and `saio` as they are read.
-- ==== The rules
use Rattle.std.specs.Prelude.{ℕ, ◌+◌, ◌*◌, Bool, cond, ◌&&◌, List, eqb, ltb}
use Rattle.cmaf_read_tree.specs.Numbers.{u8, u32}
use Rattle.cmaf_read_shape.specs.Words.{word_of}
use Rattle.byte_parts.specs.declared.Part.{Part}

-- 01: "`saiz` (version 0, flags 0)"; "box lengths .. are 6". A default that isn't 0: 17 bytes. A default of 0: a byte more for each sample (D34).
unfoldable pub saiz_ok : List ℕ → Part → Bool
saiz_ok c b =
    cond (ltb b.len 17) (eqb b.len 0)
    (eqb (word_of c b) 0 && eqb b.len (17 + cond (eqb (u8 c (b.at + 12)) 0) (u32 c (b.at + 13)) 0))

-- how many samples it counts: none where it doesn't stand
unfoldable pub saiz_count : List ℕ → Part → ℕ
saiz_count c b = cond (ltb b.len 17) 0 (u32 c (b.at + 13))

-- what it says of the sample with the number i
unfoldable pub info_size : List ℕ → Part → ℕ → ℕ
info_size c b i = cond (eqb (u8 c (b.at + 12)) 0) (u8 c (b.at + 17 + i)) (u8 c (b.at + 12))

-- 01: "`saio` (same)", with as many offsets as it counts (D33)
unfoldable pub saio_ok : List ℕ → Part → Bool
saio_ok c b = cond (ltb b.len 16) (eqb b.len 0) (eqb (word_of c b) 0 && eqb b.len (16 + 4 * u32 c (b.at + 12)))

-- 01: "`saio` (same) has one offset, from the `moof` start to the first sample entry in `senc`"; the place is that of the entry (D33, D52)
unfoldable pub leads_to : List ℕ → Part → Part → ℕ → Bool
leads_to c b moof at = eqb b.len 20 && eqb (moof.at + u32 c (b.at + 16)) at

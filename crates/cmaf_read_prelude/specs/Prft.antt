-- The `prft` of a chunk, or its absence: a box of no bytes. 01: "`prft`: version 0 or 1, any flags, its track ours."
-- ==== The rules
use Rattle.std.specs.Prelude.{ℕ, ◌+◌, Bool, true, cond, ◌&&◌, ◌||◌, List, eqb}
use Rattle.byte_parts.specs.declared.Part.{Part}
use Rattle.prft_value.specs.declared.Prft.{Prft}
use Rattle.prft_value.specs.Prft.{absent_prft}
use Rattle.cmaf_read_prelude.specs.Fields.{version_at, flags_at}
use Rattle.cmaf_read_tree.specs.Numbers.{u32, u64}

-- "version 0 or 1, any flags", and "box lengths .. are 6": 28 bytes with version 0, 32 with version 1 (D39)
unfoldable pub prft_ok : List ℕ → Part → Bool
prft_ok c b = eqb b.len 0 || ((eqb (version_at c b) 0 && eqb b.len 28) || (eqb (version_at c b) 1 && eqb b.len 32))

-- the media time has 32 bits in version 0, 64 in version 1
unfoldable pub media_time : List ℕ → Part → ℕ
media_time c b = cond (eqb (version_at c b) 0) (u32 c (b.at + 24)) (u64 c (b.at + 24))

-- what the box says
unfoldable pub prft_of : List ℕ → Part → Prft
prft_of c b =
    cond (eqb b.len 0) absent_prft
    (record { stands = true; ntp = record { 0 = u64 c (b.at + 16) }; media = record { 0 = media_time c b }; version = version_at c b; flags = flags_at c b })

-- the track that it names; ours where there is no box (D39)
unfoldable pub prft_track : List ℕ → Part → ℕ → ℕ
prft_track c b ours = cond (eqb b.len 0) ours (u32 c (b.at + 12))

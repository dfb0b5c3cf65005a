-- `senc` as it is read.
use Rattle.std.specs.Prelude.{ℕ, zero, suc, ◌+◌, ◌*◌, ◌≤◌, ◌≡◌, Bool, true, false, cond, ◌||◌, List, eqb, leb, ltb, length, drop}
use Rattle.std.proofs.Math.Seq.{slice}
use Rattle.laws.specs.Gate.{gate}
use Rattle.cmaf_read_tree.specs.Numbers.{u16, u32}
use Rattle.cmaf_read_shape.specs.Words.{word_of}
use Rattle.byte_parts.specs.declared.Part.{Part}
use Rattle.cmaf_read_shape.specs.Parts.{end_of}
use Rattle.track.specs.declared.Track.{Track}
use Rattle.cmaf_read_senc.specs.declared.entries.Entries.{Entries}
use Rattle.std.specs.Prelude.{Option, Some, None, is_some}
use Rattle.std.specs.Option.{unwrap_or}

-- ==== The rules

-- the bytes of the box before its first entry: its head, version and flags, and the count
abbrev pub senc_head : ℕ
senc_head = 16

-- ---- an entry

-- 01: "IV size plus, with subsamples, 2 + 6 x count". "With subsamples" is flag 2. The parameter's IV size cuts the entries, whatever the track (D25, D30, D52).
unfoldable pub entries_of : Track → List ℕ → Part → Entries
entries_of t c b = record { map = eqb (word_of c b) 2; count = u32 c (b.at + 12); iv = t.iv_size; at = b.at + senc_head }

-- the bytes of an entry after its IV
unfoldable pub map_length : Entries → ℕ → ℕ
map_length e pairs = cond e.map (2 + 6 * pairs) 0

-- how many subsamples the entry at the front of the list has; and the one at a place in the chunk
unfoldable pub pairs_of : Entries → List ℕ → ℕ
pairs_of e l = cond e.map (u16 l e.iv) 0

unfoldable pub pairs_at : List ℕ → Entries → ℕ → ℕ
pairs_at c e at = cond e.map (u16 c (at + e.iv)) 0

-- the bytes of the entry at the front of the list; and of the one at a place in the chunk
abbrev pub length_of : Entries → List ℕ → ℕ
length_of e l = e.iv + map_length e (pairs_of e l)

abbrev pub length_at : List ℕ → Entries → ℕ → ℕ
length_at c e at = e.iv + map_length e (pairs_at c e at)

-- ---- all entries

-- some subsamples before those of other entries
unfoldable pub more : ℕ → Option ℕ → Option ℕ
more k (Some n) = Some (k + n)
more k None = None

-- so many entries, one after another from the front of the list, which they must use up: how many subsamples they have
unfoldable pub entries_in : Entries → ℕ → List ℕ → Option ℕ
entries_in e zero l = gate (eqb (length l) 0) None (Some 0)
entries_in e (suc n) l = gate (leb (length_of e l) (length l)) None (more (pairs_of e l) (entries_in e n (drop (length_of e l) l)))

-- ---- senc

-- 01: "`senc` (flags 0 or 2)"; "Versions and flags not named are 0". Its entries stand after the version, the flags and their count, up to its end.
unfoldable pub senc_filled : Track → List ℕ → Part → Option ℕ
senc_filled t c b =
    let e = entries_of t c b in
    gate (eqb (word_of c b) 0 || eqb (word_of c b) 2) None (entries_in e e.count (slice e.at (end_of b) c))

-- 01: "own version and flags .., box lengths .. are 6"; a box of no bytes doesn't stand (D25)
unfoldable pub senc_ok : Track → List ℕ → Part → Bool
senc_ok t c b = cond (ltb b.len senc_head) (eqb b.len 0) (is_some (senc_filled t c b))

-- how many samples it counts: none where it doesn't stand
unfoldable pub senc_count : List ℕ → Part → ℕ
senc_count c b = cond (ltb b.len senc_head) 0 (u32 c (b.at + 12))

-- and how many subsamples it has
unfoldable pub subsamples : Track → List ℕ → Part → ℕ
subsamples t c b = cond (ltb b.len senc_head) 0 (unwrap_or (senc_filled t c b) 0)

-- ==== What only mirrors the code

-- n entries, from the first on, fill the chunk up to a place in it, and have at most so many subsamples
pub record FewPairs (c : List ℕ) (e : Entries) (n most : ℕ) : Type 0 where
  pub end : ℕ
  pub pairs : ℕ
  pub here : e.at ≤ end
  pub within : end ≤ length c
  pub filled : entries_in e n (slice e.at end c) ≡ Some pairs
  pub few : pairs ≤ most

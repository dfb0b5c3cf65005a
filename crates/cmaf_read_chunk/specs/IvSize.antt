-- 02, order 9: "`senc` carries no size of its own; the track's parameter cuts its IVs, so no accepted chunk reaches the encoder's case for id 16."
-- ==== What is shown of the rules
use Rattle.std.specs.Prelude.{ℕ, ◌≡◌, Bool, true, false, not, ◌&&◌, List, [], ◌∷◌, eqb}
use Rattle.laws.specs.Ladder.{Hold}
use Rattle.wire.specs.declared.form.Row.{Row}
use Rattle.track.specs.declared.Track.{Track}
use Rattle.track.specs.Track.{iv_ok}
use Rattle.field_set.specs.Lawful.{has}
use Rattle.cmaf_read_senc.specs.Entries.{entries_of}
use Rattle.cmaf_read_samples.specs.Held.{held_if}
use Rattle.cmaf_read_set.specs.Set.{held_for}
use Rattle.cmaf_read_chunk.specs.Accepted.{inner, fields, accept_rungs}

-- the size of a chunk's IVs: the one that cuts the entries of its `senc` (D25, D142)
unfoldable pub iv_size : Track → List ℕ → ℕ
iv_size t c = (entries_of t c (inner c).senc).iv

-- the case. 01: "Id 16 if the IV size differs from the parameter"
unfoldable pub iv_size_differs : Track → List ℕ → Bool
iv_size_differs t c = not (eqb (inner c).senc.len 0) && not (eqb (iv_size t c) t.iv_size)

pub record NoIvSize : Type 0 where
  -- no chunk reaches it, whatever its bytes and whatever the track
  pub unreached : (t : Track) (c : List ℕ) → iv_size_differs t c ≡ false
  -- so a set that is said without it is the one that is said with it
  pub as-ruled : (t : Track) (c : List ℕ) → held_for t c (inner c) 16 ≡ held_if (iv_size_differs t c) (iv_size t c ∷ [])
  -- and the set of an accepted chunk has no id 16, on every track that can be opened
  pub absent : (F : List Row) (t : Track) (c : List ℕ) → iv_ok t.protection t.iv_size ≡ true → Hold (accept_rungs F t c)
      → has 16 (fields t c) ≡ false

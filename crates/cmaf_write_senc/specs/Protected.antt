-- The `senc` of protected samples, written from the words of a lawful set.
-- ==== The rules
use Rattle.std.specs.Prelude.{ℕ, zero, suc, ◌+◌, ◌*◌, ◌/◌, List, [], ◌++◌}
use Rattle.laws.specs.Bytes.{be}
use Rattle.track.specs.declared.Track.{Track}
use Rattle.field_set.specs.Lawful.{has, value_at, count_in}
use Rattle.boxes.specs.Box.{full_box, when, flag_when}
use Rattle.boxes.specs.Box as B

-- k words of an IV, eight bytes each, from the word number i of id 9 on
unfoldable pub iv_bytes : List ℕ → ℕ → ℕ → List ℕ
iv_bytes w zero i = []
iv_bytes w (suc k) i = be 8 (value_at 9 i w) ++ iv_bytes w k (suc i)

-- k subsamples from the number j on: clear bytes and protected bytes
unfoldable pub subsamples : List ℕ → ℕ → ℕ → List ℕ
subsamples w zero j = []
subsamples w (suc k) j = be 2 (value_at 13 j w) ++ (be 4 (value_at 15 j w) ++ subsamples w k (suc j))

-- the entries of k samples from the number i on, the first of whose subsamples has the number j
unfoldable pub senc_entries : Track → List ℕ → ℕ → ℕ → ℕ → List ℕ
senc_entries t w zero i j = []
senc_entries t w (suc k) i j =
    when (has 9 w) (iv_bytes w (t.iv_size / 8) (i * (t.iv_size / 8)))
    ++ (when (has 11 w) (be 2 (value_at 11 i w) ++ subsamples w (value_at 11 i w) j)
    ++ senc_entries t w k (suc i) (j + flag_when (has 11 w) (value_at 11 i w)))

unfoldable pub senc_box : Track → List ℕ → List ℕ
senc_box t w = full_box B.senc 0 (flag_when (has 11 w) 2) (be 4 (count_in w) ++ senc_entries t w (count_in w) 0 0)

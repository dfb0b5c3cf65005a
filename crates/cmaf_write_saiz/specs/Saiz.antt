-- The `saiz` and the `saio` of protected samples, written from the words of a lawful set.
use Rattle.std.specs.Prelude.{ℕ, zero, suc, ◌+◌, ◌*◌, Bool, true, false, cond, List, [], ◌∷◌, ◌++◌, eqb}
use Rattle.laws.specs.Bytes.{be}
use Rattle.constants.specs.Maxima.{samples_most}
use Rattle.track.specs.declared.Track.{Track}
use Rattle.field_set.specs.Lawful.{has, value_at, count_in}
use Rattle.boxes.specs.Box.{full_box, flag_when}
use Rattle.boxes.specs.Box as B

-- ==== The rules

-- 01: "`saiz` .. gives IV size plus, with subsamples, 2 + 6 x count"
unfoldable pub info_size : Track → List ℕ → ℕ → ℕ
info_size t w i = t.iv_size + flag_when (has 11 w) (2 + 6 * value_at 11 i w)

unfoldable pub info_sizes : Track → List ℕ → ℕ → ℕ → List ℕ
info_sizes t w zero i = []
info_sizes t w (suc k) i = info_size t w i ∷ info_sizes t w k (suc i)

-- all of k samples from the number i on have the size v
unfoldable pub all_sized : Track → List ℕ → ℕ → ℕ → ℕ → Bool
all_sized t w v zero i = true
all_sized t w v (suc k) i = cond (eqb (info_size t w i) v) (all_sized t w v k (suc i)) false

-- 01: "`saiz` uses its default size if all are equal." (D123)
unfoldable pub saiz_box : Track → List ℕ → List ℕ
saiz_box t w =
    let n = count_in w in
    full_box B.saiz 0 0
    (cond (all_sized t w (info_size t w 0) n 0) (info_size t w 0 ∷ be 4 n) (0 ∷ (be 4 n ++ info_sizes t w n 0)))

-- 01: "`saio` (same) has one offset, from the `moof` start to the first sample entry in `senc`"
unfoldable pub saio_box : ℕ → List ℕ
saio_box offset = full_box B.saio 0 0 (be 4 1 ++ be 4 offset)

-- ==== What only mirrors the code

-- no `saiz` is longer: a byte for each sample
abbrev pub saiz_most : ℕ
saiz_most = 17 + samples_most

-- The protected bytes of samples, by the words of a set and the payload's length.
-- ==== The rules
use Rattle.std.specs.Prelude.{ℕ, zero, suc, ◌+◌, ◌-◌, Bool, cond, not, ◌&&◌, List, [], ◌∷◌, eqb, leb}
use Rattle.laws.specs.Tests.{sum}
use Rattle.constants.specs.Maxima.{payload_most}
use Rattle.track.specs.declared.Track.{Track}
use Rattle.track.specs.Track.{cenc}
use Rattle.field_set.specs.Lawful.{has, value_at, count_in, values_of}
use Rattle.told_sizes.specs.Sums.{bytes_of}
use Rattle.told_sizes.specs.Told.{may_have}
use Rattle.effective.specs.Sizes.{size_of}

-- 02, order 6: "Without subsamples the whole sample is protected", "with subsamples that sample's sum": those of the sample with the number i, the first of whose
-- subsamples has the number j
unfoldable pub protected_of : Track → List ℕ → ℕ → ℕ → ℕ → ℕ
protected_of t w payload i j = cond (has 11 w) (bytes_of 15 w j (value_at 11 i w)) (size_of t w payload i)

-- and those of k samples from there on
unfoldable pub protected_from : Track → List ℕ → ℕ → ℕ → ℕ → ℕ → List ℕ
protected_from t w payload zero i j = []
protected_from t w payload (suc k) i j = protected_of t w payload i j ∷ protected_from t w payload k (suc i) (j + value_at 11 i w)

-- the number of the last sample's first subsample: all before it have theirs before
abbrev pub last_pairs : List ℕ → ℕ
last_pairs w = sum (values_of 11 (count_in w - 1) w)

-- there are IVs to be counted
abbrev pub counted : Track → List ℕ → Bool
counted t w = eqb t.protection cenc && not (eqb (count_in w) 0)

-- 02, order 6: "The last sample's protected bytes (0 .. off cenc and without samples; .. with subsamples that sample's sum)"
unfoldable pub last_protected : Track → List ℕ → ℕ → ℕ
last_protected t w payload = cond (counted t w) (protected_of t w payload (count_in w - 1) (last_pairs w)) 0

-- the last sample's sum, where there are subsamples
unfoldable pub last_bytes : List ℕ → ℕ
last_bytes w = bytes_of 15 w (last_pairs w) (value_at 11 (count_in w - 1) w)

-- whether a number can be that, as far as the words of the set tell it: ".. never above the payload's maximum; with subsamples that sample's sum", and without them
-- the size that the words tell of the last sample, if they tell one (D152)
unfoldable pub last_fits : Track → List ℕ → ℕ → Bool
last_fits t w last =
    cond (counted t w)
    (cond (has 11 w) (eqb last (last_bytes w)) (leb last payload_most && may_have t w (count_in w - 1) last))
    (eqb last 0)

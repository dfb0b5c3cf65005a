-- 16: "sizes or protected sums disagree". 01: "Sample sizes sum to the payload length", "Clear plus protected bytes equal the size of each
-- sample".
use Rattle.std.specs.Prelude.{ℕ, zero, suc, ◌+◌, ◌-◌, ◌*◌, Bool, true, cond, List, eqb, leb}
use Rattle.laws.specs.Tests.{◌and◌, sum}
use Rattle.track.specs.declared.Track.{Track}
use Rattle.field_set.specs.Lawful.{has, values_of, value_at, count_in}
use Rattle.told_sizes.specs.Sums.{pair_bytes}
use Rattle.effective.specs.Sizes.{size_of}

-- ==== The rules

-- with no samples the payload is empty; one sample has all of it; with id 1 the last size is what is left (D115, D116, D117)
unfoldable pub sizes_ok : Track → List ℕ → ℕ → Bool
sizes_ok t w payload =
    let n = count_in w in
    cond (eqb n 0) (eqb payload 0)
    (cond (eqb n 1) true
    (cond (has 1 w) (leb (sum (values_of 1 (n - 1) w)) payload)
    (cond (has 6 w) (eqb (n * value_at 6 0 w) payload) (eqb (n * t.size) payload))))

-- of k samples from the number i on, the first of whose subsamples has the number j (D118)
unfoldable pub samples_ok : Track → List ℕ → ℕ → ℕ → ℕ → ℕ → Bool
samples_ok t w payload zero i j = true
samples_ok t w payload (suc k) i j =
    eqb (pair_bytes w j (value_at 11 i w)) (size_of t w payload i)
    and samples_ok t w payload k (suc i) (j + value_at 11 i w)

unfoldable pub protected_ok : Track → List ℕ → ℕ → Bool
protected_ok t w payload = cond (has 11 w) (samples_ok t w payload (count_in w) 0 0) true

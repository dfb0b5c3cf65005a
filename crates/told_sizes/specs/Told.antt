-- What the words of a set tell of its samples' sizes, and whether that keeps the rules. The payload's length isn't among the words: of a lone sample they tell no
-- size, and of the last sample none where id 1 lists those before it (D9).
-- ==== The rules
use Rattle.std.specs.Prelude.{ℕ, zero, suc, ◌+◌, ◌-◌, ◌*◌, Bool, true, cond, ◌||◌, List, eqb, leb}
use Rattle.laws.specs.Tests.{◌and◌, sum}
use Rattle.constants.specs.Maxima.{payload_most}
use Rattle.track.specs.declared.Track.{Track}
use Rattle.field_set.specs.Lawful.{has, value_at, count_in, values_of}
use Rattle.told_sizes.specs.Sums.{pair_bytes}

-- 01: "Samples above 1: .. equal, id 6, unless trex is that size": the size that all samples have where id 1 lists none
abbrev pub same_size : Track → List ℕ → ℕ
same_size t w = cond (has 6 w) (value_at 6 0 w) t.size

-- 01: "Samples above 1: sizes unequal, id 1 with all but the last .. One sample: neither, and its size is the payload length whatever trex says.": the sum of the
-- sizes that are told
unfoldable pub told_sum : Track → List ℕ → ℕ
told_sum t w =
    let n = count_in w in
    cond (leb n 1) 0
    (cond (has 1 w) (sum (values_of 1 (n - 1) w)) (n * same_size t w))

-- whether the sample with the number i can have so many bytes: its size isn't told, or is just that
unfoldable pub may_have : Track → List ℕ → ℕ → ℕ → Bool
may_have t w i bytes =
    let n = count_in w in
    cond (leb n 1) true
    (cond (has 1 w) (leb n (i + 1) || eqb (value_at 1 i w) bytes) (eqb (same_size t w) bytes))

-- 01: "Clear plus protected bytes equal the size of each sample": of k samples from the number i on, the first of whose subsamples has the number j
unfoldable pub samples_agree : Track → List ℕ → ℕ → ℕ → ℕ → Bool
samples_agree t w zero i j = true
samples_agree t w (suc k) i j =
    may_have t w i (pair_bytes w j (value_at 11 i w))
    and samples_agree t w k (suc i) (j + value_at 11 i w)

-- where subsamples stand they give the size of every sample, and all of them no more than a payload has
abbrev pub pairs_agree : Track → List ℕ → Bool
pairs_agree t w = samples_agree t w (count_in w) 0 0 and leb (pair_bytes w 0 (sum (values_of 11 (count_in w) w))) payload_most

-- 01: "Sample sizes sum to the payload length", which keeps its maximum
unfoldable pub sizes_agree : Track → List ℕ → Bool
sizes_agree t w =
    cond (has 11 w)
    (pairs_agree t w)
    (leb (told_sum t w) payload_most)

-- A number that changes with every byte and its place: each step multiplies by 65,599 and adds a byte, below 2^40.
-- ==== What only mirrors the code
use Rattle.std.specs.Prelude.{ℕ, ◌+◌, ◌*◌, ◌%◌, List, [], ◌∷◌, leb, length}
use Rattle.std.proofs.Math.Seq.{slice}
use Rattle.laws.specs.Gate.{gate}

-- from the number h on
unfoldable pub sum_from : ℕ → List ℕ → ℕ
sum_from h [] = h
sum_from h (b ∷ s) = sum_from ((h * 65599 + b) % 0x100_0000_0000) s

-- of the first n bytes, and 0 where there are fewer
unfoldable pub checksum_of : List ℕ → ℕ → ℕ
checksum_of s n = gate (leb n (length s)) 0 (sum_from 1 (slice 0 n s))

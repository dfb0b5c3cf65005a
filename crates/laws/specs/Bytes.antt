-- Numbers as bytes, the highest byte first.
use Rattle.std.specs.Prelude.{ℕ, zero, suc, ◌+◌, ◌*◌, ◌/◌, ◌%◌, ◌^◌, ◌<◌, List, [], ◌∷◌, length}

-- ==== The rules

-- the k low bytes of v, the highest first
unfoldable pub be : ℕ → ℕ → List ℕ
be zero v = []
be (suc k) v = (v / 256 ^ k % 256) ∷ be k v

-- the number that bytes spell, the highest first
unfoldable pub de : List ℕ → ℕ
de [] = 0
de (b ∷ bs) = b * 256 ^ length bs + de bs

-- ==== What only proofs need

-- every number of the list is a byte
abbrev pub Bytes : List ℕ → Type 0
Bytes [] = Unit {0}
Bytes (b ∷ bs) = (b < 256) × Bytes bs

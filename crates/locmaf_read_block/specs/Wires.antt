-- A run of numbers as it stands on the wire.
-- ==== What only proofs need
use Rattle.std.specs.Prelude.{ℕ, List, [], ◌∷◌}
use Rattle.wire.specs.declared.zigzag.Coding.{Coding}
use Rattle.wire.specs.Zigzag.{wire_of}
use Rattle.runs.specs.Run.{first, rest}

-- the numbers on the wire for new values against old ones
unfoldable pub wires : Coding → ℕ → List ℕ → List ℕ → List ℕ
wires coding base old [] = []
wires coding base old (v ∷ vs) = wire_of coding (first base old) v ∷ wires coding base (rest old) vs

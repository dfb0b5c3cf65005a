-- 01's worked example: "track 1, timescale 48,000, trex 1, 1024, 0, 0, BMDT 96,000, one sample of 4 bytes", with the byte y of its BMDT and the first byte x of its
-- payload left open.
-- ==== What is shown of the rules
use Rattle.std.specs.Prelude.{ℕ, List, [], ◌∷◌}
use Rattle.track.specs.declared.Asked.{Asked}
use Rattle.slots.specs.Share.{asked}

abbrev pub parameters : Asked
parameters = asked 1 48000 1 1024 0 0 0 0

-- BMDT 96,000 is 0x17700, and 97,024 is 0x17b00
unfoldable pub example : ℕ → ℕ → List ℕ
example y x =
    0 ∷ 0 ∷ 0 ∷ 0x5c ∷ 0x6d ∷ 0x6f ∷ 0x6f ∷ 0x66 ∷ 0 ∷ 0 ∷ 0 ∷ 0x10 ∷ 0x6d ∷ 0x66 ∷ 0x68 ∷ 0x64 ∷ 0 ∷ 0 ∷ 0 ∷ 0 ∷ 0 ∷ 0 ∷ 0 ∷ 0x01 ∷
    0 ∷ 0 ∷ 0 ∷ 0x44 ∷ 0x74 ∷ 0x72 ∷ 0x61 ∷ 0x66 ∷ 0 ∷ 0 ∷ 0 ∷ 0x10 ∷ 0x74 ∷ 0x66 ∷ 0x68 ∷ 0x64 ∷ 0 ∷ 0x02 ∷ 0 ∷ 0 ∷ 0 ∷ 0 ∷ 0 ∷ 0x01 ∷
    0 ∷ 0 ∷ 0 ∷ 0x14 ∷ 0x74 ∷ 0x66 ∷ 0x64 ∷ 0x74 ∷ 0x01 ∷ 0 ∷ 0 ∷ 0 ∷ 0 ∷ 0 ∷ 0 ∷ 0 ∷ 0 ∷ 0x01 ∷ y ∷ 0 ∷
    0 ∷ 0 ∷ 0 ∷ 0x18 ∷ 0x74 ∷ 0x72 ∷ 0x75 ∷ 0x6e ∷ 0x01 ∷ 0 ∷ 0x02 ∷ 0x01 ∷ 0 ∷ 0 ∷ 0 ∷ 0x01 ∷ 0 ∷ 0 ∷ 0 ∷ 0x64 ∷ 0 ∷ 0 ∷ 0 ∷ 0x04 ∷
    0 ∷ 0 ∷ 0 ∷ 0x0c ∷ 0x6d ∷ 0x64 ∷ 0x61 ∷ 0x74 ∷ x ∷ 2 ∷ 3 ∷ 4 ∷ []

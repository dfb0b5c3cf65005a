-- What words come to.
-- ==== What only mirrors the code
use Rattle.std.specs.Prelude.{ℕ, ◌≡◌, true, List}
use Rattle.std.specs.Int.Bits.{bit_or}
use Rattle.laws.specs.Tests.{all_le, all_bits, sum}
use Rattle.word_spans.specs.declared.scan.Lanes.{Lanes}
use Rattle.word_spans.specs.declared.scan.Total.{Total}

-- the bits of both lanes
abbrev pub both_lanes : Lanes → ℕ
both_lanes h = bit_or h.even h.odd

-- the bits of some words, and their sum where each has 32 bits
pub record TotalOf (r : Total) (s : List ℕ) : Type 0 where
  pub bits : r.bits ≡ all_bits s
  pub total : all_le 0xffff_ffff s ≡ true → r.sum ≡ sum s

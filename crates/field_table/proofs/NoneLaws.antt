-- A number of each line, whose bits are collected so that one test says whether all are 0. Assumes nothing.
use Prim.Native.Nat.{ℕ, ◌+◌, ◌≤◌, ◌<◌}
use native.Mathlib.Omega.{arith}
use mathlib.Core.Path.{◌≡◌, refl, sym, ◌∙◌, ap}
use mathlib.Core.Bool.{Bool, true}
use mathlib.Core.List.{List, [], ◌∷◌, map}
use borrow.Author.Tests.{eqb-true}
use lib.Bits.{bit_or, or_zero_r}
use lib.Dec.{eqb}
use lib.ListN.{get_or, drop}
use Rattle.laws.specs.Tests.{◌and◌, all_zero, all_bits}
use Rattle.laws.proofs.TestLaws.{or_assoc, bits-zero}
use Rattle.field_table.specs.declared.lines.Line.{Line}
use Rattle.field_table.specs.Lines.{lines, spare, every, line_count}
use Rattle.field_table.proofs.LineLaws.{line-count, line-here, no_lines, every-at}

-- the bits of the lines before the one at i are collected, and those of the others are left
pub record Gathering (f : Line → ℕ) (all i : ℕ) : Type 0 where
  pub high : i ≤ line_count
  pub rest : bit_or all (all_bits (map f (drop i lines))) ≡ all_bits (map f lines)

-- all numbers are 0 just where every line passes the test for it
pub zero-each : (f : Line → ℕ) (ls : List Line) → all_zero (map f ls) ≡ every (λ l. eqb (f l) 0) ls
unfolding all_zero every
zero-each f [] = refl
zero-each f (l ∷ ls) = ap (λ (b : Bool). eqb (f l) 0 and b) (zero-each f ls)

-- and then that of each line is
pub zero-at : (f : Line → ℕ) → all_zero (map f lines) ≡ true → (i : ℕ) → i < line_count → f (get_or lines i spare) ≡ 0
zero-at f e i lt = eqb-true _ 0 (every-at (λ l. eqb (f l) 0) lines i spare (sym (zero-each f lines) ∙ e) (omega (arith, line-count)))

module _ (f : Line → ℕ) where
  -- none is collected yet
  pub gather-start : Gathering f 0 0
  gather-start = record { high = omega arith; rest = refl }

  module _ (all i : ℕ) (h : Gathering f all i) where
    -- those of a line more
    pub gather-next : i < line_count → (v : ℕ) → v ≡ f (get_or lines i spare) → Gathering f (bit_or all v) (i + 1)
    unfolding all_bits
    gather-next lt v e =
        record { high = omega arith; rest = or_assoc all v (all_bits (map f (drop (i + 1) lines))) ∙ rw e (rw (line-here i lt) at h.rest) }

    -- all are
    pub gather-end : line_count ≤ i → eqb all 0 ≡ all_zero (map f lines)
    unfolding all_bits
    gather-end le =
        let same : all ≡ all_bits (map f lines) = sym (or_zero_r all) ∙ rw (no_lines i le) at h.rest in
        rw same (bits-zero (map f lines))

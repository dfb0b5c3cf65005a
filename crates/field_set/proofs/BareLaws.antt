-- Words in which no field stands, with no sample or one: when they are lawful. Assumes nothing.
use Prim.Native.Nat.{ℕ, zero, suc, ◌≤◌}
use native.Mathlib.Omega.{arith}
use mathlib.Core.Path.{◌≡◌, refl, sym, ap}
use mathlib.Core.Bool.{Bool, true, false, not, ◌&&◌, ◌||◌, beq}
use mathlib.Core.List.{List, []}
use borrow.Author.Tests.{le-leb}
use lib.Dec.{eqb, leb}
use lib.ListN.{length, get_or, replicate}
use lib.Seq.{slice}
use Rattle.constants.specs.Maxima.{samples_most, number_most}
use Rattle.laws.specs.Tests.{◌and◌, all_zero, all_bits, sum}
use Rattle.laws.proofs.TestLaws.{and-end, zeros-are}
use Rattle.track.specs.declared.Track.{Track}
use Rattle.track.specs.Track.{cenc}
use Rattle.field_table.specs.Lines.{lines, line_for, line_number, marks_of, bmdt_at, set_len, line_count, durations_line, subsamples_line, iv_size_line, Small}
use Rattle.field_set.specs.Lawful.{count_in, values_of, saiz_ok, set_rules, same_iv_size, measure_of, lawful}
use Rattle.field_set.proofs.RegionLaws.{mark-none, scan-none}
use Rattle.field_set.proofs.ValueLaws.{has_no, values-none}

-- the rules ask only that a sample on cenc have an IV
rules-bare : (t : Track) (n : ℕ) → n ≤ 1 → set_rules t n (replicate line_count 0) ≡ (eqb n 0 || not (eqb t.protection cenc))
unfolding set_rules line_number lines ◌and◌
rules-bare t zero h = go (eqb t.protection cenc)
  where
    go : (b : Bool) → (beq false (b && false) and true) ≡ true
    go true = refl
    go false = refl
rules-bare t (suc zero) h = go (eqb t.protection cenc)
  where
    go : (b : Bool) → (beq false (b && true) and true) ≡ not b
    go true = refl
    go false = refl
rules-bare t (suc (suc n)) h = absurd (omega arith)

module _ (w : List ℕ) (none : all_zero (marks_of w) ≡ true) where
  marks-are : marks_of w ≡ replicate line_count 0
  unfolding marks_of lines
  marks-are = zeros-are (marks_of w) none

  -- no sample has subsamples, and no durations are listed
  no-counts : (n : ℕ) → values_of 11 n w ≡ []
  unfolding line_for lines
  no-counts n = values-none 11 n w (mark-none w none subsamples_line (omega arith))

  pub no_pairs : (n : ℕ) → 0 ≡ sum (values_of 11 n w)
  unfolding sum
  no_pairs n = rw (no-counts n)

  pub no-durations : (n : ℕ) → 0 ≡ sum (values_of 3 n w)
  unfolding line_for lines sum
  no-durations n = rw (values-none 3 n w (mark-none w none durations_line (omega arith)))

  module _ (t : Track) (long : length w ≡ set_len) (iv : t.iv_size ≤ 16) (few : count_in w ≤ 1) where
    no-iv-size : same_iv_size t w ≡ true
    unfolding same_iv_size line_for lines
    no-iv-size = rw (has_no 16 w (mark-none w none iv_size_line (omega arith)))

    small : Small (measure_of t w)
    unfolding sum
    small = record { count = omega arith; ivs = omega arith; sum = rw (no-counts (count_in w)) (omega arith) }

    pub bare-is : (y : ℕ) → y ≡ all_bits (slice 2 set_len w) → (n : ℕ) → n ≡ count_in w
        → (leb (get_or w bmdt_at 0) number_most && (eqb y 0 && (eqb n 0 || not (eqb t.protection cenc)))) ≡ lawful t w
    unfolding lawful saiz_ok sum ◌and◌
    bare-is y ey n en =
        rw (en, ← scan-none (measure_of t w) w long small none y ey, no-counts (count_in w), le-leb (count_in w) samples_most (omega arith), marks-are, rules-bare t (count_in w) few, no-iv-size)
        (ap (λ (b : Bool). leb (get_or w bmdt_at 0) number_most && (eqb y 0 && b)) (sym (and-end (eqb (count_in w) 0 || not (eqb t.protection cenc)))))

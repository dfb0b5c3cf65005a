-- When words are those of a lawful set. 01: "A share is lawful if its numbers keep this page's rules and every place not in use is 0."
use Rattle.std.specs.Prelude.{ℕ, ◌+◌, ◌*◌, ◌/◌, ◌≤◌, ◌<◌, ◌≡◌, Bool, true, cond, not, ◌&&◌, ◌||◌, List, [], ◌∷◌, eqb, leb, get_or}
use Rattle.std.specs.Bool.{beq}
use Rattle.std.proofs.Math.Seq.{slice}
use Rattle.laws.specs.Tests.{◌and◌, all_zero, all_le, sum}
use Rattle.constants.specs.Maxima.{samples_most, subsamples_most, number_most, entry_most}
use Rattle.track.specs.declared.Track.{Track}
use Rattle.track.specs.Track.{none, cenc}
use Rattle.field_table.specs.declared.lines.Line.{Line}
use Rattle.field_table.specs.declared.lines.Measure.{Measure}
use Rattle.field_set.specs.declared.lawful.Tally.{Tally}
use Rattle.field_set.specs.declared.lawful.Tested.{Tested}
use Rattle.field_set.specs.declared.rules.Stands.{Stands}
use Rattle.field_table.specs.Lines.{lines, place_of, line_for, line_number, marks_of, wanted, bmdt_at, count_at, line_count}

-- ==== The rules

-- the field of an id stands
unfoldable pub has : ℕ → List ℕ → Bool
has id w = not (eqb (get_or w (line_for id lines).place 0) 0)

-- the value with the number i of a field that stands
abbrev pub value_at : ℕ → ℕ → List ℕ → ℕ
value_at id i w = get_or w ((line_for id lines).place + 1 + i) 0

-- how many samples there are
abbrev pub count_in : List ℕ → ℕ
count_in w = get_or w count_at 0

-- how many of a field's words are in use, by its mark
unfoldable pub in_use : ℕ → ℕ → ℕ
in_use mark k = cond (eqb mark 0) 0 k

-- the first n values of a field that stands
unfoldable pub values_of : ℕ → ℕ → List ℕ → List ℕ
values_of id n w = let l = line_for id lines in slice (l.place + 1) (l.place + 1 + in_use (get_or w l.place 0) n) w

module _ (m : Measure) where
  -- a field's mark, its values, and the words of its region that it does not use
  unfoldable pub region_ok : Line → List ℕ → Bool
  region_ok l w =
      let mark = get_or w l.place 0 in
      let used = in_use mark (wanted l.want m) in
      let from = l.place + 1 in
      leb used l.room
      and leb mark 1
      and all_le l.bound (slice from (from + used) w)
      and all_zero (slice (from + used) (from + l.room) w)

  unfoldable pub regions_ok : List Line → List ℕ → Bool
  regions_ok [] w = true
  regions_ok (l ∷ ls) w = region_ok l w and regions_ok ls w

-- 01: "`saiz` .. gives IV size plus, with subsamples, 2 + 6 x count, at most 255"
unfoldable pub saiz_ok : ℕ → List ℕ → Bool
saiz_ok iv [] = true
saiz_ok iv (c ∷ cs) = leb (iv + (2 + 6 * c)) entry_most and saiz_ok iv cs

-- 01: "Resulting set, full or delta: with no samples no lists, 9 or 12; with one, neither 1 nor 6; never 1 with 6 or 7 with 12; 11, 13 and
-- 15 together, only on protected tracks; 9 exactly on cenc with samples; with several and neither 1 nor 6, trex size not 0." (D97, D99, D100, D101, D106)
-- 02, order 6, "lets the set rule take derived IVs (deleting 9 while there are samples stays 14)": an id 9 that is left out and is to be derived stands (D91, D150)
unfoldable pub set_rules : Track → ℕ → List ℕ → Bool
set_rules t n marks =
    (not (eqb n 0) || not (lists || (at 9 || at 12)))
    and (not (eqb n 1) || not (at 1 || at 6))
    and not (at 1 && at 6)
    and not (at 7 && at 12)
    and beq (at 11) (at 13)
    and beq (at 13) (at 15)
    and (not (at 11) || not (eqb t.protection none))
    and beq (at 9) (eqb t.protection cenc && not (eqb n 0))
    and (leb n 1 || ((at 1 || at 6) || not (eqb t.size 0)))
  where
    at : ℕ → Bool
    at id = not (eqb (get_or marks (line_number id lines) 0) 0)

    lists : Bool
    lists = at 1 || (at 3 || (at 5 || (at 7 || (at 11 || (at 13 || at 15)))))

-- 01: "Id 16 if the IV size differs from the parameter; the receiver refuses a differing one, 15." (D94)
unfoldable pub same_iv_size : Track → List ℕ → Bool
same_iv_size t w = not (has 16 w) || eqb (get_or w ((line_for 16 lines).place + 1) 0) t.iv_size

abbrev pub measure_of : Track → List ℕ → Measure
measure_of t w = record { count = get_or w count_at 0; ivs = t.iv_size / 8; sum = sum (values_of 11 (get_or w count_at 0) w) }

-- 01: "Maxima: 64 samples and 256 subsamples a chunk", "BMDT, and any number on the wire, 2^62-1." (D9, D10)
unfoldable pub lawful : Track → List ℕ → Bool
lawful t w =
    let n = get_or w count_at 0 in
    leb n samples_most
    and saiz_ok t.iv_size (values_of 11 n w)
    and leb (get_or w bmdt_at 0) number_most
    and leb (sum (values_of 11 n w)) subsamples_most
    and regions_ok (measure_of t w) lines w
    and set_rules t n (marks_of w)
    and same_iv_size t w

-- ==== What only mirrors the code

-- which of the fields that the rules speak of stand, by the marks of all
unfoldable pub stands_of : List ℕ → Stands
stands_of marks =
    record {
      sizes = at 1;
      durations = at 3;
      offsets = at 5;
      size = at 6;
      flags = at 7;
      first_flags = at 12;
      ivs = at 9;
      subsamples = at 11;
      clear = at 13;
      protected = at 15;
    }
  where
    at : ℕ → Bool
    at id = not (eqb (get_or marks (line_number id lines) 0) 0)

-- what a tally says of a list of words, of which there are no more than samples, and each of which counts less than 64
pub record TallyOf (r : Tally) (most : ℕ) (s : List ℕ) : Type 0 where
  pub within : r.ok ≡ all_le most s
  pub total : r.ok ≡ true → r.sum ≡ sum s
  pub small : r.sum ≤ samples_most * 64

-- what was found of words with n samples and so many subsamples: whether something holds of them, and then the sum of the durations that they list and the number of
-- the subsamples
pub record TestedAs (r : Tested) (holds : Bool) (n pairs : ℕ) (w : List ℕ) : Type 0 where
  pub right : r.ok ≡ holds
  pub summed : r.ok ≡ true → r.durations ≡ sum (values_of 3 n w)
  pub paired : r.ok ≡ true → r.pairs ≡ pairs

-- words in which a field that doesn't stand has nothing stored
pub record Tidy (w : List ℕ) : Type 0 where
  pub nothing : (i : ℕ) → i < line_count → get_or w (place_of i) 0 ≡ 0 → all_zero (slice (place_of i) (place_of (i + 1)) w) ≡ true

-- An object that sends no field, where none stood: what is asked of its set, and the words. Assumes nothing.
use Prim.Native.Nat.{ℕ, ◌<◌}
use native.Mathlib.Omega.{arith}
use mathlib.Core.Path.{◌≡◌, refl, sym, ◌∙◌, ap}
use mathlib.Core.Bool.{Bool, true, false, cond, not, ◌&&◌, ◌||◌}
use mathlib.Core.List.{List, [], ◌∷◌, map}
use borrow.Author.Tests.{eq-eqb}
use lib.Dec.{eqb, leb}
use lib.ListN.{get_or, replicate}
use Rattle.constants.specs.Maxima.{subsamples_most}
use Rattle.laws.specs.Gate.{gate}
use Rattle.laws.specs.Ladder.{ladder}
use Rattle.laws.specs.Tests.{◌and◌, all_zero, among, sum}
use Rattle.laws.proofs.LadderLaws.{number_of}
use Rattle.laws.proofs.TestLaws.{both, and-true}
use Rattle.wire.specs.declared.form.Row.{Row}
use Rattle.std.specs.Prelude.{Some, None}
use Rattle.track.specs.declared.Track.{Track}
use Rattle.field_table.specs.declared.lines.Line.{Line}
use Rattle.field_table.specs.declared.lines.Measure.{Measure}
use Rattle.field_table.specs.Lines.{lines, spare, line_for, line_number, marks_of, every, line_count, subsamples_line}
use Rattle.field_table.proofs.LineLaws.{line-count, every-at, every_holds}
use Rattle.field_table.proofs.NoneLaws.{zero-at}
use Rattle.field_set.specs.Lawful.{saiz_ok, set_rules, same_iv_size}
use Rattle.field_rules.specs.Fields.{numbers, coding_for, stood}
use Rattle.field_rules.specs.Words.{no_fields, set_words, was_of}
use Rattle.field_rules.proofs.SetLaws.{eleven-for, map_same, words-has}
use Rattle.field_rules.proofs.SetWords.{regions-same}
use Rattle.locmaf_read_index.specs.Places.{stands_at}
use Rattle.locmaf_read_said.specs.Said.{Says, saying_of, unsent, says_in}
use Rattle.locmaf_read_said.specs.declared.against.Against.{Against}
use Rattle.locmaf_read_field.specs.Cells.{Came, well, cell_of}
use Rattle.locmaf_read_set.specs.Read.{brands_in, brands_fit, none_sent, bare_rungs, count_reached, count_of, came_of, came, subsamples, field_of, stands, stands_by, marks, new_words, field_rungs, Readable, ReadAs}
use Rattle.locmaf_read_set.proofs.ReadableLaws.{brands-marked}
use Rattle.locmaf_read_set.proofs.RungLaws.{start-long}

-- the number, by the tests that code joins
pub bare-number : (t : Track) (n : ℕ) (index : List ℕ) (b s : Bool) → b ≡ brands_in index → s ≡ set_rules t n (replicate line_count 0)
    → (v : Bool) → (b && s) ≡ v → cond v 0 14 ≡ number_of (bare_rungs t n index)
unfolding bare_rungs ladder gate
bare-number t n index b s eb es v ev = rw (← ev, ← eb, ← es) (joined b s)
  where
    joined : (b s : Bool) → ◌≡◌ {A = ℕ} (cond (b && s) 0 14) (gate b 14 (gate s 14 0))
    joined true true = refl
    joined true false = refl
    joined false s = refl

-- a reference that isn't there, or in which no field stands, has none
none_old : (held : Bool) (r : List ℕ) → (not held || all_zero (marks_of r)) ≡ true → (i : ℕ) → i < line_count → stood held r (get_or lines i spare) ≡ false
unfolding marks_of
none_old true r e i lt = rw (eq-eqb (get_or r (get_or lines i spare).place 0) 0 (zero-at (λ (l : Line). get_or r l.place 0) e i lt))
none_old false r e i lt = refl

-- a line that is omitted or deleted, and didn't stand
module _ (t : Track) (held : Bool) (r : List ℕ) (says : Says) (l : Line) (old : stood held r l ≡ false) (b : Bool) (said : saying_of says l.id ≡ unsent b) where
  -- its field is right, and absent, whatever the lengths are
  none_came : (m : Measure) → came_of t held r says m l ≡ well None
  unfolding came_of cell_of
  none_came m = rw said (go b)
    where
      go : (b : Bool) → cell_of t (coding_for held) held r (was_of t held r) l m (unsent b) ≡ well None
      go true = refl
      go false = rw old

  none_stays : stands t held r says l ≡ false
  unfolding stands
  none_stays = rw (said, old) (go b)
    where
      go : (b : Bool) → stands_by (unsent b) false ≡ false
      go true = refl
      go false = refl

-- marks that are all 0
no-marks : map {B = ℕ} (λ (l : Line). 0) lines ≡ replicate line_count 0
unfolding lines
no-marks = refl

-- id 16 is in the table
sixteen-known : line_number 16 lines < line_count
unfolding line_number lines
sixteen-known = omega arith

-- words without fields have no IV size that differs
bare-iv-size : (t : Track) (n : ℕ) → same_iv_size t (set_words 0 n no_fields) ≡ true
unfolding same_iv_size
bare-iv-size t n = rw (words-has 0 n no_fields (λ i lt. tt) 16 sixteen-known)

module _ (F : List Row) (o index gone : List ℕ) (t : Track) (a : Against) (r : List ℕ) (h : Readable F o index gone t a r) (n : ℕ)
    (en : count_reached t a.held r (says_in F o index) ≡ Some n) (bare : none_sent index ≡ true) (old : (not a.held || all_zero (marks_of r)) ≡ true) where
  abbrev says : Says
  says = says_in F o index

  -- each line is omitted or deleted
  abbrev struck : ℕ → Bool
  struck i = among (get_or lines i spare).id (numbers (says 27))

  unsaid : (i : ℕ) → i < line_count → saying_of says (get_or lines i spare).id ≡ unsent (struck i)
  unfolding saying_of says_in none_sent
  unsaid i lt = rw (every-at (λ l. eqb (get_or index (stands_at l.id) 0) 0) lines i spare bare (omega (arith, line-count)))

  -- so that its field is right and absent
  absent : (m : Measure) (i : ℕ) → i < line_count → came_of t a.held r says m (get_or lines i spare) ≡ well None
  absent m i lt = none_came t a.held r says (get_or lines i spare) (none_old a.held r old i lt) (struck i) (unsaid i lt) m

  -- and every line passes a test that an absent field passes
  all_pass : (p : Came → Bool) → p (well None) ≡ true → every (λ l. p (came t a.held r says l)) lines ≡ true
  unfolding came
  all_pass p e = every_holds (λ l. p (came t a.held r says l)) lines (λ i lt. ap p (absent _ i (omega (arith, line-count))) ∙ e)

  count-is : count_of t a.held r says ≡ n
  unfolding count_of
  count-is = rw en

  no-subsamples : subsamples t a.held r says ≡ []
  unfolding subsamples
  no-subsamples = rw eleven-for (ap (λ (z : Came). numbers z.field) (absent _ subsamples_line (omega arith)))

  marks-are : marks t a.held r says ≡ replicate line_count 0
  marks-are =
      map_same (λ l. cond (stands t a.held r says l) 1 0) (λ l. 0) lines
      (λ i lt.
      let k : i < line_count = omega (arith, line-count) in
      rw (none_stays t a.held r says (get_or lines i spare) (none_old a.held r old i k) (struck i) (unsaid i k)))
      ∙ no-marks

  -- the words are as they were
  words_are : new_words t a.held r says 0 ≡ set_words 0 n no_fields
  unfolding set_words came
  words_are =
      rw count-is
      (ap (λ (s : List ℕ). 0 ∷ n ∷ s)
      (regions-same (field_of t a.held r says) no_fields lines (λ i lt. ap (λ (z : Came). z.field) (absent _ i (omega (arith, line-count))))))

  -- the tests of the fields
  lengths-test : (every (λ l. (came t a.held r says l).cell.first) lines and brands_fit (says 23)) ≡ brands_in index
  lengths-test = and-true _ (all_pass (λ z. z.cell.first) refl) ∙ sym (brands-marked F o index gone h.marked)

  sum-test : ((came t a.held r says (line_for 11 lines)).cell.within and (saiz_ok t.iv_size (subsamples t a.held r says) and leb (sum (subsamples t a.held r says)) subsamples_most)) ≡ true
  unfolding came saiz_ok sum
  sum-test =
      both _ _ (rw eleven-for (ap (λ (z : Came). z.cell.within) (absent _ subsamples_line (omega arith))))
      (rw no-subsamples (both _ _ refl refl))

  rules-test : (every (λ l. (came t a.held r says l).cell.second) lines and set_rules t (count_of t a.held r says) (marks t a.held r says))
      ≡ set_rules t n (replicate line_count 0)
  rules-test = and-true _ (all_pass (λ z. z.cell.second) refl) ∙ rw (count-is, marks-are)

  values-test : (every (λ l. (came t a.held r says l).cell.within) lines and same_iv_size t (new_words t a.held r says 0)) ≡ true
  values-test = both _ _ (all_pass (λ z. z.cell.within) refl) (rw words_are (bare-iv-size t n))

  -- so the set was read where the two that are left were asked
  pub bare-read : (x : List ℕ) → x ≡ set_words 0 n no_fields → (k : ℕ) → k ≡ number_of (bare_rungs t n index)
      → ReadAs (field_rungs t a.held r says) (new_words t a.held r says 0) k x
  unfolding field_rungs bare_rungs ladder gate
  bare-read x ex k ek =
      record {
        answered = ek ∙ rw (lengths-test, sum-test, rules-test, values-test);
        stored = λ _. ex ∙ sym words_are;
        long = start-long n x ex;
      }

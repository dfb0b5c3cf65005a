-- The set that is read from the object is the one that it tells, and no rule on fields refuses it. Assumes nothing.
use Prim.Native.Nat.{ℕ, ◌<◌, ◌+◌}
use native.Mathlib.Omega.{arith}
use mathlib.Core.Path.{◌≡◌, refl, sym, ◌∙◌, ap}
use mathlib.Core.Bool.{Bool, true, false, not, cond}
use mathlib.Core.List.{List, ◌∷◌}
use borrow.Author.Tests.{le-leb, eqb-true, eqb-false}
use lib.Dec.{eqb, leb}
use lib.ListN.{get_or, set}
use lib.Seq.{get_or-set_other}
use Rattle.std.specs.Prelude.{Some, None}
use Rattle.constants.specs.Maxima.{subsamples_most}
use Rattle.laws.specs.Tests.{sum}
use Rattle.laws.proofs.TestLaws.{both}
use Rattle.laws.specs.Ladder.{Hold}
use Rattle.laws.specs.Options.{is_some}
use Rattle.track.specs.declared.Track.{Track}
use Rattle.field_table.specs.declared.lines.Measure.{Measure}
use Rattle.field_table.specs.Lines.{lines, marks_of, spare, line_for, every, bmdt_at, count_at, iv_size_at, line_count, subsamples_line}
use Rattle.field_set.specs.Lawful.{has, values_of, saiz_ok, set_rules, same_iv_size, measure_of}
use Rattle.field_set.proofs.LawfulLaws.{Lawful, lawful-facts, lawful-region}
use Rattle.field_table.proofs.LineLaws.{line-count, every_holds}
use Rattle.locmaf_read_said.specs.Said.{Says, saying_of}
use Rattle.field_rules.specs.Fields.{numbers, Held}
use Rattle.locmaf_read_field.specs.Cells.{Came, well}
use Rattle.field_rules.specs.Words.{set_words}
use Rattle.field_rules.proofs.SetLaws.{map_same, eleven-for, words-bmdt}
use Rattle.field_rules.proofs.SetWords.{field_in, set-words, held-values, regions-same}
use Rattle.locmaf_read_set.specs.Read.{count_of, came_of, subsamples, came, stands, marks, new_words, field_rungs, set_rungs}
use Rattle.locmaf_read_set.proofs.CameLaws.{came-early, came-stands}
use Rattle.locmaf_write_block.specs.Changes.{news, Writable}
use Rattle.locmaf_write_block.proofs.GoneIds.{gone-is}
use Rattle.reread.specs.Sayings.{line_saying, SetSaid}
use Rattle.reread.proofs.FieldRead.{told_field, field_back}
use Rattle.reread.proofs.ToldSet.{Told}
use Rattle.reread.proofs.DeletionsRead.{deletions-hold}

module _ {t : Track} {delta follow : Bool} {r x y : List ℕ} {f : Says} (w : Writable t delta r x) (h : SetSaid t delta follow r x f) (k : Told t delta follow r x y) where
  abbrev n : ℕ
  n = get_or y count_at 0

  facts : Lawful t y
  facts = lawful-facts t y k.good

  count-is : count_of t delta r f ≡ n
  unfolding count_of
  count-is = rw h.count (sym (ap (λ (m : Measure). m.count) k.same))

  -- ---- the fields

  came-told : (i : ℕ) → i < line_count → came_of t delta r f (measure_of t x) (get_or lines i spare) ≡ well (told_field t delta follow r x (get_or lines i spare))
  unfolding came_of saying_of line_saying
  came-told i lt = rw (h.line i lt, h.gone, gone-is t delta follow r x i lt) (field_back w i lt follow)

  came-is : (i : ℕ) → i < line_count → came_of t delta r f (measure_of t y) (get_or lines i spare) ≡ well (field_in t y (get_or lines i spare))
  came-is i lt = ap (λ (m : Measure). came_of t delta r f m (get_or lines i spare)) k.same ∙ came-told i lt ∙ ap well (sym (k.field i lt))

  -- the subsample counts, on which the lengths of two fields go
  counts-are : subsamples t delta r f ≡ values_of 11 n y
  unfolding subsamples lines
  counts-are =
      rw (eleven-for, count-is)
      (ap (λ (z : Came). numbers z.field)
      (came-early t delta r f n _ 0 (get_or lines subsamples_line spare) (λ e. let no : ◌≡◌ {A = ℕ} 0 1 = cc in absurd (omega arith)) ∙ came-is subsamples_line (omega arith))
      ∙ held-values t y)

  field_is : (i : ℕ) → i < line_count → came t delta r f (get_or lines i spare) ≡ well (field_in t y (get_or lines i spare))
  unfolding came
  field_is i lt = rw (count-is, counts-are) (came-is i lt)

  -- a field stands where its mark is 1
  mark-is : (i : ℕ) → i < line_count → cond (stands t delta r f (get_or lines i spare)) 1 0 ≡ get_or y (get_or lines i spare).place 0
  mark-is i lt = rw ((rw (came-is i lt) at (came-stands t delta r f (measure_of t y) (get_or lines i spare))) refl refl refl) (by (eqb mark 0) refl)
    where
      mark : ℕ
      mark = get_or y (get_or lines i spare).place 0

      by : (b : Bool) → eqb mark 0 ≡ b → cond (is_some (cond (not b) (Some (news t delta r y (get_or lines i spare))) None)) 1 0 ≡ mark
      by true e = sym (eqb-true _ _ e)
      by false e = let z : mark ≡ 0 → ⊥ = eqb-false _ _ e in omega (arith, (lawful-region t y i k.good lt).mark)

  marks-are : marks t delta r f ≡ marks_of y
  unfolding marks_of
  marks-are = map_same _ _ lines (λ i lt. mark-is i (omega (arith, line-count)))

  -- ---- the words

  words_are : (b : ℕ) → new_words t delta r f b ≡ set_words b n (field_in t y)
  unfolding set_words
  words_are b =
      rw count-is
      (ap (λ (z : List ℕ). b ∷ n ∷ z) (regions-same _ _ lines (λ i lt. ap (λ (z : Came). z.field) (field_is i (omega (arith, line-count))))))

  -- the set that is read is the one that is told
  pub set_back : new_words t delta r f (get_or y bmdt_at 0) ≡ y
  set_back = words_are (get_or y bmdt_at 0) ∙ set-words t y k.long k.good

  iv-size : same_iv_size t (new_words t delta r f 0) ≡ true
  unfolding same_iv_size has lines line_for
  iv-size =
      let zero : new_words t delta r f 0 ≡ set y 0 0 =
      words_are 0 ∙ sym (words-bmdt (get_or y 0 0) 0 n (field_in t y)) ∙ ap (λ (z : List ℕ). set z 0 0) (set-words t y k.long k.good) in
      rw (zero, get_or-set_other y 0 iv_size_at 0 0 (λ e. omega arith), get_or-set_other y 0 (iv_size_at + 1) 0 0 (λ e. omega arith)) facts.iv-size

  -- ---- the rules

  cells_right : (p : Came → Bool) → ((h : Held) → p (well h) ≡ true) → every (λ l. p (came t delta r f l)) lines ≡ true
  cells_right p q =
      every_holds (λ l. p (came t delta r f l)) lines (λ i lt. ap p (field_is i (omega (arith, line-count))) ∙ q (field_in t y (get_or lines i spare)))

  fields-hold : Hold (field_rungs t delta r f)
  unfolding field_rungs
  fields-hold =
      let within : (came t delta r f (line_for 11 lines)).cell.within ≡ true = rw (eleven-for, field_is 9 (omega arith)) refl in
      let sizes : saiz_ok t.iv_size (subsamples t delta r f) ≡ true = rw counts-are facts.saiz in
      let few : leb (sum (subsamples t delta r f)) subsamples_most ≡ true = rw counts-are (le-leb _ _ facts.subsamples) in
      let rules : set_rules t (count_of t delta r f) (marks t delta r f) ≡ true = rw (count-is, marks-are) facts.rules in (
        both _ _ (cells_right (λ z. z.cell.first) (λ h. refl)) h.brands,
        (
          both _ _ within (both _ _ sizes few),
          (both _ _ (cells_right (λ z. z.cell.second) (λ h. refl)) rules, (both _ _ (cells_right (λ z. z.cell.within) (λ h. refl)) iv-size, tt)),
        ),
      )

  -- no rule on the set refuses it
  pub set_holds : Hold (set_rungs t delta r f)
  unfolding set_rungs
  set_holds = (deletions-hold h, (rw h.count refl, fields-hold))

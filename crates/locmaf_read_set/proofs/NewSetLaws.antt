-- The words of a new set that broke no rule are lawful. Assumes nothing.
use Prim.Native.Nat.{ℕ, ◌≤◌, ◌<◌}
use native.Mathlib.Omega.{arith}
use mathlib.Core.Path.{◌≡◌, refl, sym, ◌∙◌, ap}
use mathlib.Core.Bool.{Bool, true, false, cond}
use mathlib.Core.List.{List, [], ◌∷◌}
use borrow.Author.Tests.{leb-true}
use lib.ListN.{length, get_or}
use Rattle.constants.specs.Maxima.{samples_most, subsamples_most, number_most}
use Rattle.laws.specs.Tests.{all_le, sum}
use Rattle.laws.proofs.TestLaws.{left, right}
use Rattle.laws.specs.Ladder.{Hold}
use Rattle.wire.specs.declared.zigzag.Coding.{Coding}
use Rattle.std.specs.Prelude.{Option, Some, None}
use Rattle.wire.specs.Zigzag.{reached}
use Rattle.wire.proofs.ZigzagLaws.{reached-most}
use Rattle.laws.specs.Options.{is_some, on_option}
use Rattle.track.specs.declared.Track.{Track}
use Rattle.field_table.specs.declared.lines.Want.TheVariants.{Sum}
use Rattle.field_table.specs.declared.lines.Line.{Line}
use Rattle.field_table.specs.declared.lines.Measure.{Measure}
use Rattle.field_table.specs.Lines.{lines, marks_of, spare, line_for, set_len, wanted, Small, line_count, subsamples_line}
use Rattle.field_set.specs.Lawful.{has, values_of, saiz_ok, set_rules, same_iv_size, measure_of, lawful}
use Rattle.field_table.proofs.LineLaws.{every-at, line-count}
use Rattle.field_set.proofs.LawfulLaws.{Lawful, lawful-facts, lawful-all}
use Rattle.locmaf_read_said.specs.Said.{Says}
use Rattle.field_rules.specs.Fields.{numbers, Held, coding_for}
use Rattle.field_rules.proofs.RoomLaws.{wanted_room}
use Rattle.field_rules.specs.Words.{set_words, measure, was_of}
use Rattle.locmaf_read_set.specs.Read.{count_from, count_reached, count_of, came_of, subsamples, came, field_of, stands, marks, new_words, field_rungs, set_rungs}
use Rattle.field_rules.proofs.SetLaws.{eleven-for, AllFit, Keeps, Within, map_same, words-start, words_count, words-marks, words-around, around-id, words-regions, words-length}
use Rattle.locmaf_read_set.proofs.CameLaws.{came-early, came-length, came-fits, came-stands}
use Rattle.locmaf_read_set.proofs.ClearLaws.{fits-of}

-- a count that was reached is at most 64 where the old one is
count-within : (coding : Coding) (o : Option (List ℕ)) (old : ℕ) → old ≤ samples_most → on_option (count_from coding o old) (λ n. n) 0 ≤ samples_most
unfolding count_from
count-within coding None old h = h
count-within coding (Some []) old h = h
count-within coding (Some (z ∷ zs)) old h = go (reached coding old samples_most z) refl
  where
    go : (x : Option ℕ) → reached coding old samples_most z ≡ x → on_option x (λ n. n) 0 ≤ samples_most
    go (Some v) e = reached-most coding old samples_most z v e
    go None e = omega arith

-- which it is, since the reference is lawful
was-within : (t : Track) (delta : Bool) (r : List ℕ) → (delta ≡ true → lawful t r ≡ true) → (was_of t delta r).count ≤ samples_most
was-within t true r h = (lawful-facts t r (h refl)).count
was-within t false r h = omega arith

-- a field is what is known of it where it stands
keeps-of : (m : Measure) (l : Line) (h : Held) → ((vs : List ℕ) → h ≡ Some vs → Within m l vs) → Keeps m l h
keeps-of m l None k = tt
keeps-of m l (Some vs) k = k vs refl

-- the lengths of id 11 go by the count
eleven-early : (get_or lines subsamples_line spare).want ≡ Sum → ⊥
unfolding lines
eleven-early e = let no : ◌≡◌ {A = ℕ} 0 1 = cc in absurd (omega arith)

-- and are it
eleven-wanted : (m : Measure) → wanted (get_or lines subsamples_line spare).want m ≡ m.count
unfolding lines wanted
eleven-wanted m = refl

-- a size of IVs doesn't go by BMDT
same-iv-size : (t : Track) (b c n : ℕ) (f : Line → Held) → same_iv_size t (set_words b n f) ≡ same_iv_size t (set_words c n f)
unfolding same_iv_size has set_words line_for lines
same-iv-size t b c n f = refl

module _ (t : Track) (delta : Bool) (r : List ℕ) (says : Says) where
  -- no rule of the fields is broken
  pub record Taken : Type 0 where
    pub first : (i : ℕ) → i < line_count → (came t delta r says (get_or lines i spare)).cell.first ≡ true
    pub second : (i : ℕ) → i < line_count → (came t delta r says (get_or lines i spare)).cell.second ≡ true
    pub within : (i : ℕ) → i < line_count → (came t delta r says (get_or lines i spare)).cell.within ≡ true
    pub saiz : saiz_ok t.iv_size (subsamples t delta r says) ≡ true
    pub few : sum (subsamples t delta r says) ≤ subsamples_most
    pub rules : set_rules t (count_of t delta r says) (marks t delta r says) ≡ true
    pub iv-size : same_iv_size t (new_words t delta r says 0) ≡ true

  -- by the row of rules
  pub taken-facts : Hold (set_rungs t delta r says) → Taken
  unfolding set_rungs field_rungs
  taken-facts h =
      let f = h.1.1.0 in
      let s = h.1.1.1.0 in
      let g = h.1.1.1.1.0 in
      let w = h.1.1.1.1.1.0 in
      record {
        first = λ i lt. every-at _ lines i spare (left _ _ f) (omega (arith, line-count));
        second = λ i lt. every-at _ lines i spare (left _ _ g) (omega (arith, line-count));
        within = λ i lt. every-at _ lines i spare (left _ _ w) (omega (arith, line-count));
        saiz = left _ _ (right _ _ s);
        few = leb-true _ _ (right _ _ (right _ _ s));
        rules = right _ _ g;
        iv-size = right _ _ w;
      }

  -- the sample count of the new set keeps its maximum
  pub count-le : (delta ≡ true → lawful t r ≡ true) → count_of t delta r says ≤ samples_most
  unfolding count_of count_reached
  count-le good = count-within (coding_for delta) (says 14) (was_of t delta r).count (was-within t delta r good)

  -- the subsample counts are the field of id 11
  pub subsamples-are : subsamples t delta r says ≡ numbers (field_of t delta r says (get_or lines subsamples_line spare))
  unfolding subsamples came
  subsamples-are =
      rw eleven-for
      (ap (λ x. numbers x.field) (came-early t delta r says (count_of t delta r says) (sum (subsamples t delta r says)) 0 (get_or lines subsamples_line spare) eleven-early))

  -- the new set's lengths
  abbrev pub lengths : Measure
  lengths = measure t (count_of t delta r says) (sum (subsamples t delta r says))

  -- a field is there exactly where its mark says so
  stands-at : Taken → (i : ℕ) → i < line_count → stands t delta r says (get_or lines i spare) ≡ is_some (field_of t delta r says (get_or lines i spare))
  unfolding came
  stands-at k i c =
      came-stands t delta r says lengths (get_or lines i spare) (k.first i c) (k.second i c) (k.within i c)

  module _ (words : length r ≡ set_len) (good : delta ≡ true → lawful t r ≡ true) where
    -- there are as many of them as samples
    eleven-long : (vs : List ℕ) → field_of t delta r says (get_or lines subsamples_line spare) ≡ Some vs → length vs ≡ count_of t delta r says
    unfolding came
    eleven-long vs e = came-length t delta r words good subsamples_line (omega arith) says lengths vs e ∙ eleven-wanted lengths

    module _ (k : Taken) (iv : t.iv_size ≤ 16) where
      -- they keep the maxima
      small : Small lengths
      small = record { count = count-le good; ivs = omega arith; sum = omega (arith, k.few) }

      -- each field has room, whatever the object's bytes are
      pub new-fits : AllFit (field_of t delta r says)
      unfolding came
      new-fits i lt =
          fits-of (get_or lines i spare) _
          (λ vs e.
          let n : length vs ≡ wanted (get_or lines i spare).want lengths = came-length t delta r words good i lt says lengths vs e in
          omega (arith, n, wanted_room i lt lengths small k.few))

      -- so the words are as many as they should be
      pub new-long : (start : ℕ) → length (new_words t delta r says start) ≡ set_len
      new-long start = words-length start (count_of t delta r says) (field_of t delta r says) new-fits

    module _ (k : Taken) (iv : t.iv_size ≤ 16) (bytes : (zs : List ℕ) → says 9 ≡ Some zs → all_le 255 zs ≡ true) where
      -- each field keeps its line
      pub new-keeps : (i : ℕ) → i < line_count → Keeps lengths (get_or lines i spare) (field_of t delta r says (get_or lines i spare))
      unfolding came
      new-keeps i lt =
          keeps-of lengths (get_or lines i spare) (came_of t delta r says lengths (get_or lines i spare)).field
          (λ vs e.
          let f = came-fits t delta r words good i lt says bytes lengths vs e in
          record { long = f.0; room = wanted_room i lt lengths (small k iv) k.few; bound = f.1 })

      module _ (bmdt : ℕ) where
        -- the subsample counts stand in the new words
        values-are : values_of 11 (count_of t delta r says) (new_words t delta r says bmdt) ≡ subsamples t delta r says
        values-are =
            around-id 11 (count_of t delta r says) _ _ _ eleven-for
            (words-around bmdt (count_of t delta r says) (field_of t delta r says) (new-fits k iv) subsamples_line (omega arith)) eleven-long
            ∙ sym subsamples-are

        -- the lengths of the new words
        pub new-measure : measure_of t (new_words t delta r says bmdt) ≡ lengths
        new-measure = rw (words_count bmdt (count_of t delta r says) (field_of t delta r says), values-are)

        -- and their marks
        pub new-marks : marks_of (new_words t delta r says bmdt) ≡ marks t delta r says
        new-marks =
            words-marks bmdt (count_of t delta r says) (field_of t delta r says) (new-fits k iv)
            ∙ map_same _ _ lines
            (λ i lt. let c : i < line_count = omega (arith, line-count) in ap (λ b. cond b 1 0) (sym (stands-at k i c)))

        -- all that is asked of them
        new-facts : bmdt ≤ number_most → Lawful t (new_words t delta r says bmdt)
        new-facts b =
            let n = words_count bmdt (count_of t delta r says) (field_of t delta r says) in
            record {
              count = rw n (count-le good);
              saiz = rw (n, values-are) k.saiz;
              bmdt = rw (words-start bmdt (count_of t delta r says) (field_of t delta r says)) b;
              subsamples = rw (n, values-are) k.few;
              regions = rw new-measure (words-regions bmdt (count_of t delta r says) (field_of t delta r says) lengths new-keeps);
              rules = rw (n, new-marks) k.rules;
              iv-size = same-iv-size t bmdt 0 (count_of t delta r says) (field_of t delta r says) ∙ k.iv-size;
            }

  -- a new set that broke no rule is lawful, whatever BMDT in its range it gets
  pub new-lawful : Hold (set_rungs t delta r says) → (bmdt : ℕ) → bmdt ≤ number_most → t.iv_size ≤ 16 → length r ≡ set_len
      → (delta ≡ true → lawful t r ≡ true) → ((zs : List ℕ) → says 9 ≡ Some zs → all_le 255 zs ≡ true)
      → lawful t (new_words t delta r says bmdt) ≡ true
  new-lawful h bmdt b iv words good bytes = lawful-all t _ (new-facts words good (taken-facts h) iv bytes bmdt b)

-- Lawful words: what code finds of them, and what is known of them. Assumes nothing.
use Prim.Native.Nat.{ℕ, ◌+◌, ◌-◌, ◌/◌, ◌≤◌, ◌<◌}
use native.Mathlib.Omega.{arith}
use mathlib.Core.Path.{◌≡◌, refl, sym, ◌∙◌, ap}
use mathlib.Core.Bool.{Bool, true, false, false≢true, not, ◌&&◌, ◌||◌}
use mathlib.Core.List.{List, [], ◌∷◌}
use borrow.Author.Tests.{leb-true, le-leb, lt-leb}
use lib.Dec.{eqb, leb}
use lib.ListN.{get_or}
use lib.Seq.{slice}
use Rattle.constants.specs.Maxima.{samples_most, subsamples_most, number_most, entry_most}
use Rattle.laws.specs.Tests.{◌and◌, all_zero, all_le, sum}
use Rattle.laws.proofs.TestLaws.{left, right, both, and_left, and_right}
use Rattle.laws.proofs.GateLaws.{failed, held}
use Rattle.track.specs.declared.Track.{Track}
use Rattle.field_table.specs.declared.lines.Line.{Line}
use Rattle.field_table.specs.declared.lines.Measure.{Measure}
use Rattle.field_set.specs.declared.lawful.Tally.{Tally}
use Rattle.field_set.specs.declared.lawful.Tested.{Tested}
use Rattle.field_table.specs.Lines.{every, lines, marks_of, spare, line_for, wanted, bmdt_at, count_at, iv_size_at, line_count}
use Rattle.field_set.specs.Lawful.{has, in_use, values_of, region_ok, regions_ok, saiz_ok, set_rules, same_iv_size, measure_of, lawful, TallyOf, TestedAs}
use Rattle.field_table.proofs.LineLaws.{line-count, every-at}
use Rattle.field_set.proofs.TallyLaws.{saiz-is}

-- id 16 is absent, or its value is the parameter
pub iv-size-is : (t : Track) (w : List ℕ) → (eqb (get_or w iv_size_at 0) 0 || eqb (get_or w (iv_size_at + 1) 0) t.iv_size) ≡ same_iv_size t w
unfolding same_iv_size has line_for lines
iv-size-is t w = go (eqb (get_or w iv_size_at 0) 0)
  where
    go : (a : Bool) → (a || eqb (get_or w (iv_size_at + 1) 0) t.iv_size) ≡ (not (not a) || eqb (get_or w (iv_size_at + 1) 0) t.iv_size)
    go true = refl
    go false = refl

-- the tally of a lawful set's subsample counts gives their sum
pub tallied-sum : (t : Track) (w : List ℕ) (c : Tally) → t.iv_size ≤ 16 → lawful t w ≡ true
    → TallyOf c ((entry_most - 2 - t.iv_size) / 6) (values_of 11 (get_or w count_at 0) w) → c.sum ≡ sum (values_of 11 (get_or w count_at 0) w)
unfolding lawful
tallied-sum t w c iv e h =
    h.total (h.within ∙ sym (saiz-is t.iv_size (values_of 11 (get_or w count_at 0) w) (omega arith)) ∙ left _ _ (right _ _ e))

-- words of which something doesn't hold
pub tested-not : {r : Tested} {holds : Bool} {n pairs : ℕ} {w : List ℕ} → r.ok ≡ false → false ≡ holds → TestedAs r holds n pairs w
tested-not e h = record { right = e ∙ h; summed = λ k. absurd (false≢true (sym e ∙ k)); paired = λ k. absurd (false≢true (sym e ∙ k)) }

module _ (t : Track) (w : List ℕ) where
  -- what code finds of words: too many samples
  pub many-samples : samples_most < get_or w count_at 0 → false ≡ lawful t w
  unfolding lawful ◌and◌
  many-samples h = rw (lt-leb (get_or w count_at 0) samples_most h)

  module _ (few : get_or w count_at 0 ≤ samples_most) (iv : t.iv_size ≤ 16) (c : Tally)
      (ec : TallyOf c ((entry_most - 2 - t.iv_size) / 6) (values_of 11 (get_or w count_at 0) w)) where
    -- the tally of the subsample counts tests what `saiz` asks
    tested : c.ok ≡ saiz_ok t.iv_size (values_of 11 (get_or w count_at 0) w)
    tested = ec.within ∙ sym (saiz-is t.iv_size (values_of 11 (get_or w count_at 0) w) (omega arith))

    -- too many subsamples in one sample
    pub many-subsamples : not c.ok ≡ true → false ≡ lawful t w
    unfolding lawful ◌and◌
    many-subsamples h = rw (le-leb (get_or w count_at 0) samples_most few, failed tested h)

    -- and the tests that are left
    lawful-rest : not c.ok ≡ false → (a z b : Bool)
        → a ≡ regions_ok (record { count = get_or w count_at 0; ivs = t.iv_size / 8; sum = c.sum }) lines w
        → z ≡ same_iv_size t w
        → b ≡ set_rules t (get_or w count_at 0) (marks_of w)
        → (leb (get_or w bmdt_at 0) number_most && (leb c.sum subsamples_most && ((a && z) && b))) ≡ lawful t w
    unfolding lawful ◌and◌
    lawful-rest h a z b ea ez eb =
        let n : c.sum ≡ sum (values_of 11 (get_or w count_at 0) w) = ec.total (held refl h) in
        rw (ea, ez, eb, n, le-leb (get_or w count_at 0) samples_most few, held tested h)
        (ap (λ (x : Bool). leb (get_or w bmdt_at 0) number_most && (leb (sum (values_of 11 (get_or w count_at 0) w)) subsamples_most && x))
        (last-two (regions_ok (measure_of t w) lines w) (same_iv_size t w) (set_rules t (get_or w count_at 0) (marks_of w))))
      where
        last-two : (x y z : Bool) → ((x && y) && z) ≡ (x and (z and y))
        last-two true true true = refl
        last-two true true false = refl
        last-two true false true = refl
        last-two true false false = refl
        last-two false y z = refl

    -- with the sum of the durations, which the regions gave, and the subsamples, which were tallied
    pub lawful-tested : not c.ok ≡ false → (r : Tested) (z b : Bool)
        → TestedAs r (regions_ok (record { count = get_or w count_at 0; ivs = t.iv_size / 8; sum = c.sum }) lines w) (get_or w count_at 0) c.sum w
        → z ≡ same_iv_size t w
        → b ≡ set_rules t (get_or w count_at 0) (marks_of w)
        → TestedAs (record { ok = leb (get_or w bmdt_at 0) number_most && (leb c.sum subsamples_most && ((r.ok && z) && b)); durations = r.durations; pairs = c.sum })
        (lawful t w) (get_or w count_at 0) (sum (values_of 11 (get_or w count_at 0) w)) w
    lawful-tested h r z b er ez eb =
        record {
          right = lawful-rest h r.ok z b er.right ez eb;
          summed =
              λ e.
              er.summed
              (and_left r.ok z
              (and_left (r.ok && z) b
              (and_right (leb c.sum subsamples_most) _ (and_right (leb (get_or w bmdt_at 0) number_most) _ e))));
          paired = λ _. ec.total (held refl h);
        }

-- how many values of a line's field are in use
abbrev pub used_of : Measure → Line → List ℕ → ℕ
used_of m l w = in_use (get_or w l.place 0) (wanted l.want m)

-- what is known of a lawful region
pub record Region (m : Measure) (l : Line) (w : List ℕ) : Type 0 where
  pub room : used_of m l w ≤ l.room
  pub mark : get_or w l.place 0 ≤ 1
  pub values : all_le l.bound (slice (l.place + 1) (l.place + 1 + used_of m l w) w) ≡ true
  pub rest : all_zero (slice (l.place + 1 + used_of m l w) (l.place + 1 + l.room) w) ≡ true

-- a lawful region, fact by fact
pub region-facts : (m : Measure) (l : Line) (w : List ℕ) → region_ok m l w ≡ true → Region m l w
unfolding region_ok
region-facts m l w e =
    let e₂ = right _ _ e in
    let e₃ = right _ _ e₂ in
    record {
      room = leb-true _ _ (left _ _ e);
      mark = leb-true _ _ (left _ _ e₂);
      values = left _ _ e₃;
      rest = right _ _ e₃;
    }

-- lawful regions are so one by one
regions-every : (m : Measure) (ls : List Line) (w : List ℕ) → regions_ok m ls w ≡ every (λ l. region_ok m l w) ls
unfolding regions_ok every
regions-every m [] w = refl
regions-every m (l ∷ ls) w = ap (λ (b : Bool). region_ok m l w and b) (regions-every m ls w)

-- the region of the line with the number i
pub region-at : (m : Measure) (w : List ℕ) (i : ℕ) → regions_ok m lines w ≡ true → i < line_count → region_ok m (get_or lines i spare) w ≡ true
region-at m w i e h =
    every-at (λ l. region_ok m l w) lines i spare (sym (regions-every m lines w) ∙ e) (omega (arith, line-count))

-- what is known of lawful words
pub record Lawful (t : Track) (w : List ℕ) : Type 0 where
  pub count : get_or w count_at 0 ≤ samples_most
  pub saiz : saiz_ok t.iv_size (values_of 11 (get_or w count_at 0) w) ≡ true
  pub bmdt : get_or w bmdt_at 0 ≤ number_most
  pub subsamples : sum (values_of 11 (get_or w count_at 0) w) ≤ subsamples_most
  pub regions : regions_ok (measure_of t w) lines w ≡ true
  pub rules : set_rules t (get_or w count_at 0) (marks_of w) ≡ true
  pub iv-size : same_iv_size t w ≡ true

-- lawful words, fact by fact
pub lawful-facts : (t : Track) (w : List ℕ) → lawful t w ≡ true → Lawful t w
unfolding lawful
lawful-facts t w e =
    let e₂ = right _ _ e in
    let e₃ = right _ _ e₂ in
    let e₄ = right _ _ e₃ in
    let e₅ = right _ _ e₄ in
    let e₆ = right _ _ e₅ in
    record {
      count = leb-true _ _ (left _ _ e);
      saiz = left _ _ e₂;
      bmdt = leb-true _ _ (left _ _ e₃);
      subsamples = leb-true _ _ (left _ _ e₄);
      regions = left _ _ e₅;
      rules = left _ _ e₆;
      iv-size = right _ _ e₆;
    }

-- lawful words, from all that is asked of them
pub lawful-all : (t : Track) (w : List ℕ) → Lawful t w → lawful t w ≡ true
unfolding lawful
lawful-all t w h =
    both _ _ (le-leb _ _ h.count) (both _ _ h.saiz (both _ _ (le-leb _ _ h.bmdt) (both _ _ (le-leb _ _ h.subsamples)
    (both _ _ h.regions (both _ _ h.rules h.iv-size)))))

-- lawful words, region by region
pub lawful-region : (t : Track) (w : List ℕ) (i : ℕ) → lawful t w ≡ true → i < line_count → Region (measure_of t w) (get_or lines i spare) w
lawful-region t w i e h = region-facts _ _ w (region-at (measure_of t w) w i (lawful-facts t w e).regions h)

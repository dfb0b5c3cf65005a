-- The rules on values, sums and IVs, as they are tested one after the other. Assumes nothing.
use Prim.Native.Nat.{ℕ, ◌+◌}
use native.Mathlib.Omega.{arith}
use mathlib.Core.Path.{◌≡◌, refl, sym, ◌∙◌, ap, subst}
use mathlib.Core.Bool.{Bool, true, false, cond, not, ◌&&◌, ◌||◌, false≢true}
use mathlib.Core.List.{List}
use lib.Dec.{eqb}
use lib.ListN.{get_or, drop, set}
use lib.Seq.{get_or-drop}
use Rattle.laws.proofs.TestLaws.{and_right, both_of}
use Rattle.track.specs.declared.Track.{Track}
use Rattle.field_table.specs.Lines.{lines, line_for, bmdt_at, ivs_at}
use Rattle.field_set.specs.Lawful.{has}
use Rattle.field_set.proofs.ValueLaws.{has-yes, has_no}
use Rattle.counters.specs.Follow.{DerivedAs}
use Rattle.share_words.specs.Share.{last_at, set_at}
use Rattle.locmaf_read_index.specs.Places.{stands_at}
use Rattle.locmaf_read_events.specs.Events.{EventsRead, events_ok}
use Rattle.receiver.specs.declared.judge.Values.{Values}
use Rattle.receiver.specs.Judge.{sums_in, TestedAs, left_in, IvsAs}

-- ---- values and sums

module _ (t : Track) (o : List ℕ) (v : Values) (payload : ℕ) (events : List ℕ) (k : ℕ) (x : List ℕ) where
  -- a value is out of its range
  pub value_out : v.ok ≡ false → (ws y : List ℕ) → TestedAs t o v payload events k x 15 ws y
  value_out e ws y =
      let no : v.ok ≡ true → ⊥ = λ h. false≢true (sym e ∙ h) in
      record { out = λ _. refl; read = λ h. absurd (no h); event = λ _ _. refl; stored = λ h _. absurd (no h); sums = λ h _. absurd (no h) }

  -- the events were read, and their words are what was left in them
  module _ (ok : v.ok ≡ true) {z : Bool} {us ws : List ℕ} (r : EventsRead t v.bmdt.0 o events k z us) (left : ws ≡ us) where
    read_is : EventsRead t v.bmdt.0 o events k (events_ok v.bmdt.0 o k events) ws
    read_is = rw left (record { answered = refl; stored = r.stored; fits = r.fits })

    -- one of an event is
    pub event-out : z ≡ false → (y : List ℕ) → TestedAs t o v payload events k x 15 ws y
    event-out e y =
        let no : events_ok v.bmdt.0 o k events ≡ true → ⊥ = λ h. false≢true (sym e ∙ r.answered ∙ h) in
        record { out = λ _. refl; read = λ _. read_is; event = λ _ _. refl; stored = λ _ h. absurd (no h); sums = λ _ h. absurd (no h) }

    -- none is, and the sums were asked
    pub summed : z ≡ true → {y : List ℕ} → y ≡ set x bmdt_at v.bmdt.0 → (n : ℕ) → n ≡ cond (sums_in t (set x bmdt_at v.bmdt.0) payload) 0 16
        → TestedAs t o v payload events k x n ws y
    summed e q n h =
        record {
          out = λ f. absurd (false≢true (sym f ∙ ok));
          read = λ _. read_is;
          event = λ _ f. absurd (false≢true (sym f ∙ sym r.answered ∙ e));
          stored = λ _ _. q;
          sums = λ _ _. h;
        }

-- ---- IVs

-- one of the first three doesn't hold
one-fails : (d u b h : Bool) → ((not d || not u) || b) ≡ true → (d && (u && (not b && h))) ≡ false
one-fails true true true h e = refl
one-fails true true false h e = absurd (false≢true e)
one-fails true false b h e = refl
one-fails false u b h e = refl

-- all do
all_hold : (d u b h : Bool) → ((not d || not u) || b) ≡ false → h ≡ true → (d && (u && (not b && h))) ≡ true
all_hold true true true h e k = sym e
all_hold true true false h e k = k
all_hold true false b h e k = sym e
all_hold false u b h e k = sym e

-- the last doesn't
last-fails : (d u r h : Bool) → h ≡ false → (d && (u && (r && h))) ≡ false
last-fails true true true h e = e
last-fails true true false h e = refl
last-fails true false r h e = refl
last-fails false u r h e = refl

-- the same words, and the same number
pub ivs-same : {t : Track} {delta : Bool} {s index x y z w : List ℕ} {bytes n m : ℕ} → x ≡ y → m ≡ n → w ≡ z → IvsAs t delta s index x bytes n z
    → IvsAs t delta s index y bytes m w
ivs-same {t} {delta} {s} {index} {x} {y} {z} {w} {bytes} {n} {m} a b c h =
    subst (λ (l : List ℕ). IvsAs t delta s index l bytes m w) a
    (subst (λ (k : ℕ). IvsAs t delta s index x bytes k w) (sym b) (subst (λ (l : List ℕ). IvsAs t delta s index x bytes n l) (sym c) h))

module _ (t : Track) (delta : Bool) (s index x : List ℕ) where
  -- IVs stand in the reference, by its words in the share
  old-stand : has 9 (drop set_at s) ≡ not (eqb (get_or s (set_at + ivs_at) 0) 0)
  unfolding has lines line_for
  old-stand = ap (λ (n : ℕ). not (eqb n 0)) (get_or-drop set_at s ivs_at 0)

  -- what the code asks before it derives any
  abbrev asked : Bool
  asked = (not delta || not (eqb (get_or index (stands_at 9) 0) 0)) || eqb (get_or s (set_at + ivs_at) 0) 0

  -- none stand
  pub none-stand : get_or x ivs_at 0 ≡ 0 → left_in delta s index x ≡ false
  unfolding left_in lines line_for
  none-stand e = last-fails delta (eqb (get_or index (stands_at 9) 0) 0) (has 9 (drop set_at s)) (has 9 x) (has_no 9 x e)

  -- they aren't left out
  pub not_left : asked ≡ true → left_in delta s index x ≡ false
  unfolding left_in
  not_left e = rw old-stand (one-fails delta (eqb (get_or index (stands_at 9) 0) 0) (eqb (get_or s (set_at + ivs_at) 0) 0) (has 9 x) e)

  -- they are
  pub is-left : (get_or x ivs_at 0 ≡ 0 → ⊥) → asked ≡ false → left_in delta s index x ≡ true
  unfolding left_in lines line_for
  is-left n e = rw old-stand (all_hold delta (eqb (get_or index (stands_at 9) 0) 0) (eqb (get_or s (set_at + ivs_at) 0) 0) (has 9 x) e (has-yes 9 x n))

  -- nothing is derived
  pub none-derived : left_in delta s index x ≡ false → (bytes : ℕ) → IvsAs t delta s index x bytes 0 x
  none-derived e bytes = record { answered = rw e; stored = λ _. rw e; long = refl }

  module _ (e : left_in delta s index x ≡ true) where
    -- there are IVs to follow from, and room for those that do
    pub both-stand : (has 9 (drop set_at s) ≡ true) × (has 9 x ≡ true)
    unfolding left_in
    both-stand = both_of (has 9 (drop set_at s)) (has 9 x) (and_right (eqb (get_or index (stands_at 9) 0) 0) _ (and_right delta _ e))

    module _ (bytes : ℕ) {ok : Bool} {z : List ℕ} (h : DerivedAs t (get_or s last_at 0) (drop set_at s) x bytes ok z) where
      -- they are derived
      pub all-derived : ok ≡ true → IvsAs t delta s index x bytes 0 z
      all-derived q = record { answered = rw (e, sym h.answered ∙ q); stored = λ _. rw e (h.stored q); long = h.long }

      -- one passes its size
      pub one-past : ok ≡ false → IvsAs t delta s index x bytes 21 z
      one-past q = record { answered = rw (e, sym h.answered ∙ q); stored = λ k. absurd (omega arith); long = h.long }

-- Laws of the events' values and clocks. Assumes nothing.
use Prim.Native.Nat.{ℕ, suc, ◌+◌, ◌-◌, ◌*◌, ◌≤◌, ◌<◌}
use native.Mathlib.Nat.{add-zero}
use native.Mathlib.Numerals.{add-one}
use native.Mathlib.Omega.{arith}
use mathlib.Core.Path.{◌≡◌, refl, sym, ◌∙◌, ap}
use mathlib.Core.Bool.{Bool, true, false, cond, not, ◌&&◌}
use mathlib.Core.List.{List, [], ◌∷◌, ◌++◌, append_assoc}
use borrow.Author.Tests.{eq-eqb, ne_eqb}
use lib.Dec.{eqb, leb}
use lib.ListN.{length, get_or, set, take, drop, take-append-drop, length-drop, length-append}
use lib.Seq.{slice, slice-cons, sets, length-sets, length-take-le, get_or-drop, get_or-take, get_or-set_other, take_at, drop_at}
use borrow.Rule.Slice.PartMut.{mid_of, put_mid, mid_len}
use Rattle.laws.specs.Tests.{◌and◌, no_zero}
use Rattle.laws.proofs.SliceLaws.{slice-none, take-slice, slice-to-end}
use Rattle.laws.proofs.StoreLaws.{sets-after, sets-before}
use Rattle.laws.proofs.TestLaws.{and-next, and-end}
use Rattle.track.specs.declared.Track.{Track}
use Rattle.track.specs.Track.{u32}
use Rattle.media.specs.declared.clocks.TrackTicks.{TrackTicks}
use Rattle.std.specs.Prelude.{Option, Some, None}
use Rattle.event_value.specs.Events.{part, Inside, EventFits, EventsFit, event_words, events_len, event_scheme, event_scheme_len, event_value, event_value_len, event_timescale, event_time, event_duration, event_id, event_message, event_message_len}
use Rattle.locmaf_read_events.specs.Events.{from_bmdt, on_clock, rebuilt, timed, event_ok, events_ok, all_rebuilt, EventRead, EventsRead}
use Rattle.laws.specs.Options.{on_option}

-- ---- bytes that are not 0

-- the bytes before i were looked at, with this outcome
pub record Looking (o : List ℕ) (from to : ℕ) (ok : Bool) (i : ℕ) : Type 0 where
  pub inside : to ≤ length o
  pub rest : (ok and no_zero (slice i to o)) ≡ no_zero (slice from to o)

module _ (o : List ℕ) (from to : ℕ) where
  pub look-start : to ≤ length o → Looking o from to true from
  unfolding ◌and◌
  look-start h = record { inside = h; rest = refl }

  module _ (ok : Bool) (i : ℕ) (h : Looking o from to ok i) where
    pub look-more : i < to → Looking o from to (ok && not (eqb (get_or o i 0) 0)) (i + 1)
    unfolding no_zero
    look-more lt =
        let s : slice i to o ≡ get_or o i 0 ∷ slice (i + 1) to o = rw add-one (slice-cons i to o 0 lt h.inside) in
        record { inside = h.inside; rest = and-next ok (not (eqb (get_or o i 0) 0)) _ ∙ rw s at h.rest }

    pub look-end : to ≤ i → ok ≡ no_zero (slice from to o)
    unfolding no_zero
    look-end le = let s : slice i to o ≡ [] = slice-none i to o le in sym (and-end ok) ∙ rw s at h.rest

-- ---- one event, by its words

module _ (t : Track) (bmdt : ℕ) (e : List ℕ) where
  -- on its own clock it stays
  pub own-clock : (get_or e event_timescale 0 ≡ 0 → ⊥) → (true ≡ timed bmdt e) × (e ≡ rebuilt t bmdt e)
  unfolding timed rebuilt on_clock
  own-clock h = (rw (ne_eqb _ _ h), rw (ne_eqb _ _ h))

  module _ (zero : get_or e event_timescale 0 ≡ 0) where
    -- its time is below 0
    pub time-outside : None ≡ from_bmdt bmdt (get_or e event_time 0) → (false ≡ timed bmdt e) × (e ≡ rebuilt t bmdt e)
    unfolding timed rebuilt on_clock
    time-outside q = (rw (eq-eqb _ _ zero, ← q), rw (eq-eqb _ _ zero, ← q))

    -- its time is on the track's clock
    pub time-at : (x : TrackTicks) → Some x ≡ from_bmdt bmdt (get_or e event_time 0)
        → (true ≡ timed bmdt e) × (set (set e event_timescale t.timescale) event_time x.0 ≡ rebuilt t bmdt e)
    unfolding timed rebuilt on_clock
    time-at x q = (rw (eq-eqb _ _ zero, ← q), rw (eq-eqb _ _ zero, ← q))

-- ---- among the words of all events, from the place p on

module _ (t : Track) (bmdt : ℕ) (ws : List ℕ) (p : ℕ) where
  -- words stored from its timescale on
  put-at : (vs : List ℕ) → p ≤ length ws → sets ws (p + 4) vs ≡ take p ws ++ sets (drop p ws) 4 vs
  put-at vs h =
      ap (λ (l : List ℕ). sets l (p + 4) vs) (sym (take-append-drop p ws))
      ∙ ap (λ (n : ℕ). sets (take p ws ++ drop p ws) (n + 4) vs) (sym (length-take-le p ws h))
      ∙ sets-after vs (take p ws) (drop p ws) 4

  -- every other word stays
  kept : p ≤ length ws → (j : ℕ) → (j ≡ p + 4 → ⊥) → (j ≡ p + 5 → ⊥) → get_or (take p ws ++ rebuilt t bmdt (drop p ws)) j 0 ≡ get_or ws j 0
  unfolding rebuilt on_clock
  kept h j a b = go (eqb (get_or (drop p ws) 4 0) 0) (from_bmdt bmdt (get_or (drop p ws) 5 0))
    where
      go : (c : Bool) (x : Option TrackTicks)
          → get_or (take p ws ++ cond c (on_option x (λ time. sets (drop p ws) 4 (t.timescale ∷ time.0 ∷ [])) (drop p ws)) (drop p ws)) j 0 ≡ get_or ws j 0
      go true (Some x) =
          let d : j ≡ suc (p + 4) → ⊥ = λ e. b (omega arith) in
          rw (← put-at (t.timescale ∷ x.0 ∷ []) h)
          (get_or-set_other (set ws (p + 4) t.timescale) (suc (p + 4)) j x.0 0 d ∙ get_or-set_other ws (p + 4) j t.timescale 0 a)
      go true None = rw (take-append-drop p ws)
      go false x = rw (take-append-drop p ws)

-- a string, as it is looked at
text-is : (o : List ℕ) (a n : ℕ) → Inside o a n → slice a (a + n) o ≡ part o a n
text-is o a n h =
    sym (ap (take n) (sym (slice-to-end a (length o) o refl)) ∙ take-slice a (length o) n o h.within (omega arith))

module _ (bmdt : ℕ) (o e : List ℕ) where
  -- its tests, as code makes them
  pub event-is : (timely scheme value : Bool) → timely ≡ timed bmdt e
      → scheme ≡ no_zero (slice (get_or e event_scheme 0) (get_or e event_scheme 0 + get_or e event_scheme_len 0) o)
      → value ≡ no_zero (slice (get_or e event_value 0) (get_or e event_value 0 + get_or e event_value_len 0) o)
      → Inside o (get_or e event_scheme 0) (get_or e event_scheme_len 0) → Inside o (get_or e event_value 0) (get_or e event_value_len 0)
      → (timely && ((scheme && value) && (leb (get_or e event_timescale 0) u32 && (leb (get_or e event_duration 0) u32 && leb (get_or e event_id 0) u32))))
      ≡ event_ok bmdt o e
  unfolding event_ok ◌and◌
  event-is timely scheme value a b c i j =
      let b' : scheme ≡ no_zero (part o (get_or e event_scheme 0) (get_or e event_scheme_len 0)) = b ∙ ap no_zero (text-is o _ _ i) in
      let c' : value ≡ no_zero (part o (get_or e event_value 0) (get_or e event_value_len 0)) = c ∙ ap no_zero (text-is o _ _ j) in
      rw (a, b', c')

-- ---- an event is its first ten words

module _ (bmdt n : ℕ) (e : List ℕ) (h : 8 ≤ n) where
  cut_at : (i : ℕ) → i < 8 → get_or (take n e) i 0 ≡ get_or e i 0
  cut_at i lt = get_or-take n e i 0 (omega arith)

  module _ (t : Track) where
    pub length-rebuilt : length (rebuilt t bmdt e) ≡ length e
    unfolding rebuilt on_clock
    length-rebuilt = go (eqb (get_or e event_timescale 0) 0) (from_bmdt bmdt (get_or e event_time 0))
      where
        go : (c : Bool) (x : Option TrackTicks) → length (cond c (on_option x (λ time. sets e event_timescale (t.timescale ∷ time.0 ∷ [])) e) e) ≡ length e
        go true (Some x) = length-sets e event_timescale (t.timescale ∷ x.0 ∷ [])
        go true None = refl
        go false x = refl

    cut-rebuilt : n ≤ length e → rebuilt t bmdt e ≡ rebuilt t bmdt (take n e) ++ drop n e
    unfolding rebuilt on_clock
    cut-rebuilt l = rw (cut_at event_timescale (omega arith), cut_at event_time (omega arith)) (go (eqb (get_or e event_timescale 0) 0) (from_bmdt bmdt (get_or e event_time 0)))
      where
        front : (vs : List ℕ) → length vs ≡ 2 → sets e event_timescale vs ≡ sets (take n e) event_timescale vs ++ drop n e
        front vs q =
            let r : event_timescale + length vs ≤ length (take n e) = omega (arith, length-take-le n e l) in
            ap (λ (z : List ℕ). sets z event_timescale vs) (sym (take-append-drop n e)) ∙ sets-before vs (take n e) (drop n e) event_timescale r

        go : (c : Bool) (x : Option TrackTicks)
            → cond c (on_option x (λ time. sets e event_timescale (t.timescale ∷ time.0 ∷ [])) e) e
            ≡ cond c (on_option x (λ time. sets (take n e) event_timescale (t.timescale ∷ time.0 ∷ [])) (take n e)) (take n e) ++ drop n e
        go true (Some x) = front (t.timescale ∷ x.0 ∷ []) refl
        go true None = sym (take-append-drop n e)
        go false x = sym (take-append-drop n e)

-- ---- one event after another

-- the words after one event is rebuilt
record After (t : Track) (bmdt n : ℕ) (ws : List ℕ) (p : ℕ) (after : List ℕ) : Type 0 where
  pub done : take (p + n) after ≡ take p ws ++ rebuilt t bmdt (take n (drop p ws))
  pub rest : drop (p + n) after ≡ drop n (drop p ws)
  pub long : length after ≡ length ws

after_one : (t : Track) (bmdt n : ℕ) (ws : List ℕ) (p : ℕ) (after : List ℕ) → 8 ≤ n → p + n ≤ length ws
    → after ≡ take p ws ++ rebuilt t bmdt (drop p ws) → After t bmdt n ws p after
after_one t bmdt n ws p after h l e =
    let l' : n ≤ length (drop p ws) = omega (arith, length-drop p ws) in
    let R : List ℕ = rebuilt t bmdt (take n (drop p ws)) in
    let D : List ℕ = drop n (drop p ws) in
    let w : after ≡ (take p ws ++ R) ++ D =
    e ∙ ap (λ (z : List ℕ). take p ws ++ z) (cut-rebuilt bmdt n (drop p ws) h t l') ∙ sym (append_assoc (take p ws) R D) in
    let a : length (take p ws ++ R) ≡ p + n =
    omega (
      arith,
      length-append (take p ws) R,
      length-take-le p ws (omega arith),
      length-rebuilt bmdt n (take n (drop p ws)) h t,
      length-take-le n (drop p ws) l',
    ) in
    record {
      done = ap (take (p + n)) w ∙ take_at (take p ws ++ R) D (p + n) a;
      rest = ap (drop (p + n)) w ∙ drop_at (take p ws ++ R) D (p + n) a;
      long = omega (arith, ap length w, length-append (take p ws ++ R) D, length-drop n (drop p ws), length-drop p ws);
    }

-- ---- the words of one event as they are lent

module _ (o ws : List ℕ) (i : ℕ) (f : EventFits o ws i) where
  abbrev lent : List ℕ
  lent = mid_of (event_words * i) (event_words * i + event_words - event_words * i) ws

  word : (j : ℕ) → j < event_words → get_or lent j 0 ≡ get_or ws (event_words * i + j) 0
  word j lt =
      get_or-take (event_words * i + event_words - event_words * i) (drop (event_words * i) ws) j 0 (omega arith) ∙ get_or-drop (event_words * i) ws j 0

  first : get_or lent 0 0 ≡ get_or ws (event_words * i) 0
  first = word 0 (omega arith) ∙ ap (λ (n : ℕ). get_or ws n 0) (add-zero (event_words * i))

  pub lent-long : event_words ≤ length lent
  lent-long = omega (arith, mid_len (event_words * i) (event_words * i + event_words) ws f.there)

  pub lent-scheme : Inside o (get_or lent event_scheme 0) (get_or lent event_scheme_len 0)
  lent-scheme = rw (first, word event_scheme_len (omega arith)) f.scheme

  pub lent-value : Inside o (get_or lent event_value 0) (get_or lent event_value_len 0)
  lent-value = rw (word event_value (omega arith), word event_value_len (omega arith)) f.value

-- strings and messages stand where they did
fits_kept : (t : Track) (bmdt : ℕ) (o ws after : List ℕ) (k i : ℕ) → EventsFit o ws k → event_words * i ≤ length ws
    → after ≡ take (event_words * i) ws ++ rebuilt t bmdt (drop (event_words * i) ws) → length after ≡ length ws → EventsFit o after k
fits_kept t bmdt o ws after k i f l e n = record { few = f.few; each = λ m lt. one m (f.each m lt) }
  where
    at : (j : ℕ) → (j ≡ event_words * i + event_timescale → ⊥) → (j ≡ event_words * i + event_time → ⊥) → get_or after j 0 ≡ get_or ws j 0
    at j a b = ap (λ (z : List ℕ). get_or z j 0) e ∙ kept t bmdt ws (event_words * i) l j a b

    one : (m : ℕ) → EventFits o ws m → EventFits o after m
    one m g =
        record {
          there = omega (arith, g.there);
          scheme = rw (at (event_words * m) (λ x. omega arith) (λ x. omega arith), at (event_words * m + event_scheme_len) (λ x. omega arith) (λ x. omega arith)) g.scheme;
          value = rw (at (event_words * m + event_value) (λ x. omega arith) (λ x. omega arith), at (event_words * m + event_value_len) (λ x. omega arith) (λ x. omega arith)) g.value;
          message = rw (at (event_words * m + event_message) (λ x. omega arith) (λ x. omega arith), at (event_words * m + event_message_len) (λ x. omega arith) (λ x. omega arith)) g.message;
        }

-- the events before i were read, with this outcome
pub record Reading (t : Track) (bmdt : ℕ) (o ws₀ : List ℕ) (k : ℕ) (ws : List ℕ) (ok : Bool) (i : ℕ) : Type 0 where
  pub place : i ≤ k
  pub long : length ws ≡ events_len
  pub fits : EventsFit o ws k
  pub tests : (ok and events_ok bmdt o (k - i) (drop (event_words * i) ws)) ≡ events_ok bmdt o k ws₀
  pub words : take (event_words * i) ws ++ all_rebuilt t bmdt (k - i) (drop (event_words * i) ws) ≡ all_rebuilt t bmdt k ws₀

module _ (t : Track) (bmdt : ℕ) (o ws₀ : List ℕ) (k : ℕ) where
  pub read-start : length ws₀ ≡ events_len → EventsFit o ws₀ k → Reading t bmdt o ws₀ k ws₀ true 0
  unfolding ◌and◌
  read-start l f =
      let z : k - 0 ≡ k = omega arith in
      record { place = omega arith; long = l; fits = f; tests = rw z; words = rw z }

  module _ (ws : List ℕ) (ok : Bool) (i : ℕ) (h : Reading t bmdt o ws₀ k ws ok i) where
    pub read_next : i < k → (r : Bool) (event : List ℕ) → EventRead t bmdt o (mid_of (event_words * i) (event_words * i + event_words - event_words * i) ws) r event
        → Reading t bmdt o ws₀ k (put_mid (event_words * i) (event_words * i + event_words - event_words * i) ws event) (ok && r) (i + 1)
    unfolding events_ok all_rebuilt
    read_next lt r event e =
        let n : k - i ≡ suc (k - (i + 1)) = omega arith in
        let p : event_words * (i + 1) ≡ event_words * i + event_words = omega arith in
        let q : event_words * i + event_words - event_words * i ≡ event_words = omega arith in
        let l : event_words * i + event_words ≤ length ws = omega (arith, h.long, h.fits.few) in
        let after : List ℕ = put_mid (event_words * i) (event_words * i + event_words - event_words * i) ws event in
        let c : r ≡ event_ok bmdt o (take event_words (drop (event_words * i) ws)) = rw q at e.answered in
        let w : event ≡ rebuilt t bmdt (take event_words (drop (event_words * i) ws)) = rw q at e.stored in
        let s : after ≡ take (event_words * i) ws ++ rebuilt t bmdt (drop (event_words * i) ws) =
        rw (q, w, cut-rebuilt bmdt event_words (drop (event_words * i) ws) (omega arith) t (omega (arith, length-drop (event_words * i) ws))) in
        let a = after_one t bmdt event_words ws (event_words * i) after (omega arith) l s in
        record {
          place = omega arith;
          long = a.long ∙ h.long;
          fits = fits_kept t bmdt o ws after k i h.fits (omega arith) s a.long;
          tests = and-next ok r _ ∙ rw (c, p, a.rest) (rw n at h.tests);
          words =
              rw (p, a.done, a.rest)
              (append_assoc (take (event_words * i) ws) (rebuilt t bmdt (take event_words (drop (event_words * i) ws))) _ ∙ rw n at h.words);
        }

    pub read-end : k ≤ i → EventsRead t bmdt o ws₀ k ok ws
    unfolding events_ok all_rebuilt
    read-end le =
        let n : k - i ≡ 0 = omega arith in
        record {
          answered = sym (and-end ok) ∙ rw n at h.tests;
          stored = sym (take-append-drop (event_words * i) ws) ∙ rw n at h.words;
          fits = h.fits;
        }

-- The records of a list and the words that they are kept in: one record and the rest. Assumes nothing.
use Prim.Native.Nat.{ℕ, suc, ◌+◌, ◌-◌, ◌*◌, ◌≤◌, ◌<◌}
use native.Mathlib.Nat.{add-zero}
use native.Mathlib.Omega.{arith}
use mathlib.Core.Path.{◌≡◌, refl, sym, ◌∙◌, ap}
use mathlib.Core.Bool.{Bool, true, false, cond}
use mathlib.Core.List.{List, [], ◌∷◌}
use borrow.Author.Tests.{lt-ltb, le-ltb, ltb-true, ltb-false}
use lib.Dec.{ltb}
use lib.ListN.{length, take, drop}
use lib.Seq.{sets, take-nil}
use Rattle.constants.specs.Maxima.{events_most}
use Rattle.event_value.specs.Events.{event_time, event_words}
use Rattle.laws.proofs.StoreLaws.{sets-append}
use Rattle.wire.specs.declared.form.Row.{Row}
use Rattle.std.specs.Prelude.{Option, Some, None}
use Rattle.locmaf_read_block.specs.declared.records.Record.{Record}
use Rattle.locmaf_read_block.specs.Front.{Series, series, before}
use Rattle.locmaf_read_block.specs.Numbers.{counted}
use Rattle.locmaf_read_block.specs.Records.{record_f, record_front, records_run, record_words, words_of, kept, ListedAs}
use Rattle.locmaf_read_block.proofs.FrontLaws.{taken_none, taken-cut, taken-off}
use Rattle.locmaf_read_block.proofs.NumberLaws.{counted-before}
use Rattle.locmaf_read_block.proofs.RecordSpans.{record-spans}

module _ (out : List ℕ) (n : ℕ) (r : Record) where
  -- past the sixteenth none is
  pub kept-none : events_most ≤ n → out ≡ kept out n r
  unfolding kept
  kept-none h = rw (le-ltb _ _ h)

  -- two runs of five words are one record's
  pub kept-is : n < events_most → (mid after : List ℕ)
      → mid ≡ sets out (event_words * n) (r.scheme.at ∷ r.scheme.len ∷ r.value.at ∷ r.value.len ∷ r.timescale ∷ [])
      → after ≡ sets mid (event_words * n + event_time) (r.time ∷ r.duration ∷ r.id ∷ r.message.at ∷ r.message.len ∷ [])
      → after ≡ kept out n r
  unfolding kept
  kept-is h mid after e f =
      rw (lt-ltb _ _ h)
      (f
      ∙ ap (λ (l : List ℕ). sets l (event_words * n + event_time) (r.time ∷ r.duration ∷ r.id ∷ r.message.at ∷ r.message.len ∷ [])) e
      ∙ sym
      (sets-append
      (r.scheme.at ∷ r.scheme.len ∷ r.value.at ∷ r.value.len ∷ r.timescale ∷ [])
      (r.time ∷ r.duration ∷ r.id ∷ r.message.at ∷ r.message.len ∷ [])
      out
      (event_words * n)))

module _ (F : List Row) (base : ℕ) (s : List ℕ) where
  pub records-none : length s ≡ 0 → records_run F base s ≡ series [] true
  unfolding records_run
  records-none e = taken_none (record_front F) base s e

  pub records-cut : 0 < length s → record_f F base s ≡ None → records_run F base s ≡ series [] false
  unfolding records_run record_front
  records-cut h e = taken-cut (record_front F) base s h (rw e)

  pub records-one : (r : Record) (k : ℕ) → record_f F base s ≡ Some (r, k) → records_run F base s ≡ before r (records_run F (base + k) (drop k s))
  unfolding records_run record_front
  records-one r k e =
      let z = record-spans F base s r k e in
      taken-off (record_front F) base s r k (omega (arith, z.seven, z.within)) (omega (arith, z.seven)) (rw e)

-- a record more in the words: kept as the n-th, and the rest behind it
kept_more : (out : List ℕ) (n : ℕ) (r : Record) (rs : List Record)
    → sets (kept out n r) (event_words * (n + 1)) (words_of (take (events_most - (n + 1)) rs)) ≡ sets out (event_words * n) (words_of (take (events_most - n) (r ∷ rs)))
unfolding kept words_of
kept_more out n r rs = go (ltb n events_most) refl
  where
    go : (b : Bool) → ltb n events_most ≡ b
        → sets (cond b (sets out (event_words * n) (record_words r)) out) (event_words * (n + 1)) (words_of (take (events_most - (n + 1)) rs))
        ≡ sets out (event_words * n) (words_of (take (events_most - n) (r ∷ rs)))
    go true q =
        let h : n < events_most = ltb-true _ _ q in
        let e : events_most - n ≡ suc (events_most - (n + 1)) = omega arith in
        let f : event_words * (n + 1) ≡ event_words * n + event_words = omega arith in
        rw (e, f) (sym (sets-append (record_words r) (words_of (take (events_most - (n + 1)) rs)) out (event_words * n)))
    go false q =
        let h : events_most ≤ n = ltb-false _ _ q in
        let e : events_most - n ≡ 0 = omega arith in
        let f : events_most - (n + 1) ≡ 0 = omega arith in
        rw (e, f)

module _ (F : List Row) (base n : ℕ) (s out : List ℕ) where
  pub list-none : length s ≡ 0 → ListedAs (records_run F base s) n out (Some n) out
  unfolding counted words_of
  list-none e = rw (records-none F base s e) (record { answered = rw add-zero; stored = rw (take-nil (events_most - n)) })

  pub list-cut : (length s ≡ 0 → ⊥) → record_f F base s ≡ None → ListedAs (records_run F base s) n out None out
  unfolding counted words_of
  list-cut h e = rw (records-cut F base s (omega arith) e) (record { answered = refl; stored = rw (take-nil (events_most - n)) })

  pub list-more : (r : Record) (k : ℕ) (a : Option ℕ) (after : List ℕ) → record_f F base s ≡ Some (r, k)
      → ListedAs (records_run F (base + k) (drop k s)) (n + 1) (kept out n r) a after → ListedAs (records_run F base s) n out a after
  list-more r k a after e h =
      let others : Series Record = records_run F (base + k) (drop k s) in
      rw (records-one F base s r k e)
      (record {
        answered = h.answered ∙ sym (counted-before n r others);
        stored = h.stored ∙ kept_more out n r others.items;
      })

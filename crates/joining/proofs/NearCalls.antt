-- A call on two shares that agree but for the count of accepted objects: what it gives matches, and the shares stay so. Assumes nothing.
use Prim.Native.Nat.{ℕ, ◌+◌, ◌-◌, ◌%◌, ◌^◌, ◌≤◌}
use native.Mathlib.Omega.{arith}
use mathlib.Core.Path.{◌≡◌, refl, sym, ◌∙◌, ap, subst}
use mathlib.Core.Bool.{Bool, true, false, cond, not, false≢true, not-not}
use mathlib.Core.List.{List, [], ◌∷◌, ◌++◌}
use lib.Dec.{eqb}
use lib.ListN.{length, drop, replicate}
use lib.Seq.{slice, take-append_seam, drop-append_seam}
use Rattle.laws.specs.Ladder.{Rung, ◌else◌, ladder, Hold}
use Rattle.laws.proofs.LadderLaws.{climbs-both}
use Rattle.wire.specs.declared.form.Row.{Row}
use Rattle.track.specs.declared.Asked.{Asked}
use Rattle.track.specs.Track.{u32, lawful as lawful_track}
use Rattle.slots.specs.declared.lawful.Side.TheVariants.{Receiver}
use Rattle.share_words.specs.Share.{held_at, prft_at, prft_end, reference_len, dropped}
use Rattle.slots.specs.Share.{is_open, lawful, opened}
use Rattle.slots.specs.Table.{Out, out, on_share}
use Rattle.slots.specs.Calls.{open_rungs, opened_rungs, opening, grouping}
use Rattle.answers.specs.Took.{Took}
use Rattle.reference.specs.Kept.{prft_words, beside_words, expected_after, last_after, reference_words, kept_words}
use Rattle.receiver.specs.Object.{is_delta, payload}
use Rattle.receiver.specs.Receive.{bmdt, prft, told_set, left_out, new_set, sequence, chunk, accepted, refusing, done, receive_rungs, receiving}
use Rattle.answers.specs.Refusals.{dropped_by, after_refusal}
use Rattle.receiver.proofs.PassedLaws.{passed}
use Rattle.joining.specs.Number.{number_at, unnumbered}
use Rattle.joining.specs.Matches.{front_bytes, count_of}
use Rattle.joining.specs.Near.{made, Near, Stays}
use Rattle.joining.proofs.NearLaws.{lawful-near, time-same, front_same, chunk-long, rungs-same, sequence-few, chunk-place, chunk-unnumbered}

-- ---- what a call leaves

near-reference : (a : Asked) (d : ℕ) (s s' : List ℕ) → Near a d s s' → drop held_at s ≡ drop held_at s'
near-reference a d s s' h = ap (drop held_at) h.is ∙ sym (ap (drop held_at) h.is')

near-count : (a : Asked) (d : ℕ) (s s' : List ℕ) → Near a d s s' → count_of s ≡ (count_of s' + d) % 2 ^ 32
near-count a d s s' h = ap count_of h.is ∙ h.apart ∙ sym (ap (λ (l : List ℕ). (count_of l + d) % 2 ^ 32) h.is')

-- the very same answer
pub same_answer : (a : Asked) (d : ℕ) (x y : Out Took) → x.answer ≡ y.answer → Near a d x.words y.words → Stays a d x y
same_answer a d x y e h =
    record {
      matches =
          record {
            number = ap (λ (q : Took). q.number) e;
            long = ap (λ (q : Took). q.front) e;
            payload = ap (λ (q : Took). q.payload) e;
            place = ap (λ (q : Took). number_at (front_bytes q)) e;
            front = ap (λ (q : Took). unnumbered (front_bytes q)) e;
            past = ap (λ (q : Took). drop q.front q.output) e;
            reference = near-reference a d x.words y.words h;
            count = near-count a d x.words y.words h;
          };
      near = h;
    }

module _ (a : Asked) (d n m : ℕ) (r : List ℕ) (small : m ≤ u32) (apart : n ≡ (m + d) % 2 ^ 32) where
  -- shares that were not changed, and shares without their reference
  unchanged : Near a d (made a n r) (made a m r)
  unchanged = record { count = n; count' = m; rest = r; is = refl; is' = refl; small = small; apart = apart }

  forgotten : Near a d (dropped (made a n r)) (dropped (made a m r))
  unfolding dropped
  forgotten = record { count = n; count' = m; rest = replicate reference_len 0; is = refl; is' = refl; small = small; apart = apart }

  refusal-near : (k : ℕ) → Near a d (after_refusal k (made a n r)) (after_refusal k (made a m r))
  unfolding after_refusal
  refusal-near k = by (dropped_by k)
    where
      by : (b : Bool) → Near a d (cond b (dropped (made a n r)) (made a n r)) (cond b (dropped (made a m r)) (made a m r))
      by true = forgotten
      by false = unchanged

  counts-on : (F : List Row) (o : List ℕ) → sequence F o (made a n r) ≡ (sequence F o (made a m r) + d) % 2 ^ 32
  unfolding sequence
  counts-on F o = omega arith

  module _ (F : List Row) (o room : List ℕ) where
    -- what is kept from the mark of the reference on
    abbrev kept : List ℕ
    kept =
        reference_words (cond (is_delta F o) (slice (prft_at - held_at) (prft_end - held_at) r) (prft_words (prft F o (made a n r)).prft)) (beside_words (expected_after (new_set F o (made a n r)) (made a n r)) (last_after (new_set F o (made a n r)) (length (payload F o)) (made a n r)))
        (new_set F o (made a n r))

    accepted-near : Near a d (accepted F o (made a n r)) (accepted F o (made a m r))
    unfolding accepted kept_words expected_after last_after new_set left_out told_set bmdt
    accepted-near =
        record {
          count = sequence F o (made a n r);
          count' = sequence F o (made a m r);
          rest = kept;
          is = refl;
          is' =
              sym
              (λ j.
              made a (sequence F o (made a m r))
              (reference_words (cond (is_delta F o) (slice (prft_at - held_at) (prft_end - held_at) r) (prft_words (time-same F o a n m r j).prft)) (beside_words (expected_after (new_set F o (made a n r)) (made a n r)) (last_after (new_set F o (made a n r)) (length (payload F o)) (made a n r)))
              (new_set F o (made a n r))));
          small = sequence-few F o (made a m r);
          apart = counts-on F o;
        }

    -- the front that was written, and what stays behind it
    written : (s : List ℕ) → front_bytes (done F o room s).answer ≡ chunk F o s
    written s = take-append_seam (chunk F o s) (drop (length (chunk F o s)) room)

    stayed : (s : List ℕ) → drop (length (chunk F o s)) (chunk F o s ++ drop (length (chunk F o s)) room) ≡ drop (length (chunk F o s)) room
    stayed s = drop-append_seam (chunk F o s) (drop (length (chunk F o s)) room)

    done-near : Hold (receive_rungs F o room (made a n r)) → Hold (receive_rungs F o room (made a m r)) → Stays a d (done F o room (made a n r)) (done F o room (made a m r))
    done-near h h' =
        let s : List ℕ = made a n r in
        let s' : List ℕ = made a m r in
        let long : length (chunk F o s) ≡ length (chunk F o s') = chunk-long F o a n m r in
        record {
          matches =
              record {
                number = refl;
                long = long;
                payload = refl;
                place =
                    ap number_at (written s)
                    ∙ chunk-place F o s (passed F o room s h).values
                    ∙ ap number_at (front_same F o a n m r 0)
                    ∙ sym (ap number_at (written s') ∙ chunk-place F o s' (passed F o room s' h').values);
                front =
                    ap unnumbered (written s)
                    ∙ chunk-unnumbered F o s (passed F o room s h).values
                    ∙ front_same F o a n m r 0
                    ∙ sym (ap unnumbered (written s') ∙ chunk-unnumbered F o s' (passed F o room s' h').values);
                past = stayed s ∙ ap (λ (k : ℕ). drop k room) long ∙ sym (stayed s');
                reference = near-reference a d _ _ accepted-near;
                count = near-count a d _ _ accepted-near;
              };
          near = accepted-near;
        }

    -- an object received on each
    pub receive-near : eqb a.track 0 ≡ false → Stays a d (receiving F o room (made a n r)) (receiving F o room (made a m r))
    unfolding receiving
    receive-near e =
        let rungs : receive_rungs F o room (made a n r) ≡ receive_rungs F o room (made a m r) =
        rungs-same F o a n m r room (lawful-near a n m r e (omega arith) small) in
        subst
        (λ (rs : List Rung). Stays a d (receiving F o room (made a n r)) (ladder rs (refusing room (made a m r)) (done F o room (made a m r)))) rungs
        (climbs-both (Stays a d) (receive_rungs F o room (made a n r)) (refusing room (made a n r)) (refusing room (made a m r))
        (done F o room (made a n r)) (done F o room (made a m r)) (λ k. same_answer a d _ _ refl (refusal-near k)) (λ h. done-near h (subst Hold rungs h)))

  -- the same number, and shares as near as before
  abbrev Answers : Out ℕ → Out ℕ → Type 0
  Answers x y = (x.answer ≡ y.answer) × Near a d x.words y.words

  -- a call that is a ladder of the same rungs, and changes nothing where it is refused
  ladder-near : (rs : List Rung) (x y : Out ℕ) → (Hold rs → Answers x y)
      → Answers (ladder rs (λ k. out k (made a n r)) x) (ladder rs (λ k. out k (made a m r)) y)
  ladder-near rs x y h = climbs-both Answers rs _ _ x y (λ k. (refl, unchanged)) h

  module _ (e : eqb a.track 0 ≡ false) where
    lawful-same : lawful Receiver (made a n r) ≡ lawful Receiver (made a m r)
    lawful-same = lawful-near a n m r e (omega arith) small

    -- an opening of the open slot
    pub open-near : (asks : Asked) → Answers (opening Receiver asks (made a n r)) (opening Receiver asks (made a m r))
    unfolding opening on_share is_open
    open-near asks =
        subst
        (λ (b : Bool).
        Answers (opening Receiver asks (made a n r))
        (ladder ((b else 18) ∷ (not (is_open (made a m r)) else 3) ∷ (lawful_track asks else 4) ∷ []) (λ k. out k (made a m r)) (out 0 (opened asks))))
        lawful-same
        (ladder-near (open_rungs Receiver asks (made a n r)) (out 0 (opened asks)) (out 0 (opened asks)) (λ h. absurd (false≢true (sym e ∙ sym (not-not _) ∙ h.1.0))))

    -- the start of a group
    pub group-near : Answers (grouping Receiver (made a n r)) (grouping Receiver (made a m r))
    unfolding grouping on_share is_open
    group-near =
        subst
        (λ (b : Bool).
        Answers (grouping Receiver (made a n r))
        (ladder ((b else 18) ∷ (is_open (made a m r) else 2) ∷ []) (λ k. out k (made a m r)) (out 0 (dropped (made a m r)))))
        lawful-same
        (ladder-near (opened_rungs Receiver (made a n r)) (out 0 (dropped (made a n r))) (out 0 (dropped (made a m r))) (λ h. (refl, forgotten)))

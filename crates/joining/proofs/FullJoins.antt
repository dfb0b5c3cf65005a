-- A full object that is accepted gives, and leaves, what it does on a share that was just opened with the same parameters, its number apart; and what its number
-- is. Assumes nothing.
use Prim.Native.Nat.{ℕ, ◌+◌, ◌%◌, ◌^◌, ◌≤◌}
use native.Mathlib.Omega.{arith}
use mathlib.Core.Path.{◌≡◌, refl, sym, ◌∙◌, ap, subst}
use mathlib.Core.Bool.{true, false}
use mathlib.Core.List.{List}
use lib.Dec.{eqb}
use lib.ListN.{length, drop, replicate}
use lib.Seq.{take-append_seam}
use Rattle.wire.specs.declared.form.Row.{Row}
use Rattle.track.specs.declared.Asked.{Asked}
use Rattle.track.specs.Track.{u32}
use Rattle.slots.specs.declared.lawful.Side.TheVariants.{Receiver}
use Rattle.share_words.specs.Share.{share_len, reference_len, dropped}
use Rattle.slots.specs.Share.{is_open, lawful, opened}
use Rattle.slots.specs.Table.{Out, out}
use Rattle.slots.proofs.StaysLawful.{dropped-long, dropped-lawful}
use Rattle.answers.specs.Took.{Took}
use Rattle.reference.specs.Kept.{kept_words}
use Rattle.receiver.specs.Object.{is_delta, payload}
use Rattle.receiver.specs.Receive.{prft, new_set, sequence, chunk, accepted, receiving}
use Rattle.receiver.proofs.PassedLaws.{passed}
use Rattle.receiver.proofs.AlikeTheorems.{full-forgets, done-holds, done-is}
use Rattle.joining.specs.Number.{number_in}
use Rattle.joining.specs.Matches.{front_bytes, count_of}
use Rattle.joining.specs.Near.{made, Near, Stays}
use Rattle.joining.proofs.NearLaws.{parted, chunk-number}
use Rattle.joining.proofs.NearCalls.{receive-near}

-- ---- a full object

-- a share without its reference is one that was just opened, but for the count
opened-near : (a : Asked) (n : ℕ) (r : List ℕ) → n ≤ u32 → Near a n (dropped (made a n r)) (opened a)
unfolding dropped opened
opened-near a n r h =
    record { count = n; count' = 0; rest = replicate reference_len 0; is = refl; is' = refl; small = omega arith; apart = omega arith }

module _ (F : List Row) (a : Asked) (n : ℕ) (r : List ℕ) (is-on : eqb a.track 0 ≡ false) (few : n ≤ u32) (l : length (made a n r) ≡ share_len)
    (o room : List ℕ) (full : is_delta F o ≡ false) (z : (receiving F o room (made a n r)).answer.number ≡ 0) where
  is-open : is_open (made a n r) ≡ true
  unfolding is_open
  is-open = rw is-on

  -- it does the same without the reference
  forgets : receiving F o room (made a n r) ≡ receiving F o room (dropped (made a n r))
  unfolding dropped
  forgets =
      let s : List ℕ = made a n r in
      let h : lawful Receiver s ≡ true = (passed F o room s (done-holds F o room s z)).lawful in
      let w = full-forgets F o room s (dropped s) full l (dropped-long s l) h (dropped-lawful s l Receiver h is-open) refl in
      λ j. out (w.answers j) (w.words z j)

  -- and then the count alone is another
  unread : Stays a n (receiving F o room (dropped (made a n r))) (receiving F o room (opened a))
  unfolding dropped opened
  unread = receive-near a n n 0 (replicate reference_len 0) (omega arith) (omega arith) F o room is-on

  pub full-joins : Stays a n (receiving F o room (made a n r)) (receiving F o room (opened a))
  full-joins = subst (λ (x : Out Took). Stays a n x (receiving F o room (opened a))) (sym forgets) unread

-- ---- the number

module _ (F : List Row) (o room s : List ℕ) (l : length s ≡ share_len) (z : (receiving F o room s).answer.number ≡ 0) where
  count_kept : count_of (accepted F o s) ≡ sequence F o s
  unfolding accepted kept_words
  count_kept =
      ap (λ (x : List ℕ). count_of (kept_words (is_delta F o) (sequence F o s) (prft F o s).prft (new_set F o s) (length (payload F o)) x)) (parted s (omega arith))

  -- an accepted object is counted
  pub counts-one : count_of (receiving F o room s).words ≡ (count_of s + 1) % 2 ^ 32
  unfolding sequence
  counts-one = ap (λ (x : Out Took). count_of x.words) (done-is F o room s z) ∙ count_kept

  -- and its count is the number in its front
  pub number-stands : number_in (front_bytes (receiving F o room s).answer) ≡ count_of (receiving F o room s).words
  number-stands =
      let e = done-is F o room s z in
      ap (λ (x : Out Took). number_in (front_bytes x.answer)) e
      ∙ ap number_in (take-append_seam (chunk F o s) (drop (length (chunk F o s)) room))
      ∙ chunk-number F o s (passed F o room s (done-holds F o room s z)).values
      ∙ sym (ap (λ (x : Out Took). count_of x.words) e ∙ count_kept)

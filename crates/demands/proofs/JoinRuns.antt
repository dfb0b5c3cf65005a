-- Order 5 on a share: from an accepted full object on, a run of calls does what it does on a share just opened. Assumes nothing.
use Prim.Native.Nat.{ℕ, ◌+◌, ◌%◌, ◌^◌, ◌≤◌}
use native.Mathlib.Omega.{arith}
use mathlib.Core.Path.{◌≡◌, refl, sym, ◌∙◌, ap, subst}
use mathlib.Core.Bool.{true, false, not, false≢true}
use mathlib.Core.List.{List, [], ◌∷◌}
use borrow.Author.Tests.{not-true, leb-true}
use lib.Dec.{eqb}
use lib.ListN.{length, take, drop}
use Rattle.laws.proofs.LadderLaws.{climbs-all}
use Rattle.track.specs.declared.Asked.{Asked}
use Rattle.track.specs.Track.{u32}
use Rattle.slots.specs.declared.lawful.Side.TheVariants.{Receiver}
use Rattle.share_words.specs.Share.{share_len, accepted_at, held_at, dropped}
use Rattle.slots.specs.Share.{asked_of, is_open, lawful, opened}
use Rattle.slots.specs.Table.{Out, out, on_share}
use Rattle.slots.specs.Calls.{open_rungs, opened_rungs, opening, grouping}
use Rattle.slots.proofs.ShareParts.{same-open, dropped-parameters}
use Rattle.answers.specs.Took.{Took, refused}
use Rattle.reference.proofs.OpenLaws.{opened-facts}
use Rattle.receiver.specs.Object.{is_delta}
use Rattle.receiver.specs.Receive.{receive_rungs, refusing, done, receiving}
use Rattle.receiver.proofs.PassedLaws.{passed}
use Rattle.receiver.proofs.Theorems.{refusal-either}
use Rattle.receiver.proofs.AlikeTheorems.{done-holds}
use Rattle.joining.specs.Matches.{count_of}
use Rattle.joining.specs.Near.{made, Near, Stays}
use Rattle.joining.proofs.NearLaws.{parted}
use Rattle.joining.proofs.NearCalls.{same_answer, receive-near, open-near, group-near}
use Rattle.joining.proofs.FullJoins.{full-joins, counts-one, number-stands}
use Rattle.cmaf_read_facts.specs.Given.{F}
use Rattle.demands.specs.Three.{Call, opens, closes, groups, receives}
use Rattle.demands.specs.Join.{is_close, NoClose, AllMatch, on_share_of, outs, share_after, Joins, ParametersStay, NumberRuns}
use Rattle.demands.proofs.OneChange.{call-keeps}
use Rattle.demands.proofs.Shares.{receive-parameters}

-- a run keeps its share's length
pub run-keeps : (calls : List Call) (s : List ℕ) → length s ≡ share_len → length (share_after (receiving F) calls s) ≡ share_len
unfolding share_after
run-keeps [] s l = l
run-keeps (a ∷ calls) s l = run-keeps calls (on_share_of (receiving F) a s).words ((call-keeps a).keeps s l)

-- ---- a run on two shares that agree but for their counts

module _ (a : Asked) (is-on : eqb a.track 0 ≡ false) (d : ℕ) where
  -- what holds of shares by their parts
  on-near : (f : List ℕ → Out Took) → ((n m : ℕ) (r : List ℕ) → m ≤ u32 → n ≡ (m + d) % 2 ^ 32 → Stays a d (f (made a n r)) (f (made a m r)))
      → (s s' : List ℕ) → Near a d s s' → Stays a d (f s) (f s')
  on-near f g s s' h =
      subst (λ (z : List ℕ). Stays a d (f z) (f s')) (sym h.is)
      (subst (λ (z : List ℕ). Stays a d (f (made a h.count h.rest)) (f z)) (sym h.is') (g h.count h.count' h.rest h.small h.apart))

  call-near : (c : Call) → is_close c ≡ false → (s s' : List ℕ) → Near a d s s' → Stays a d (on_share_of (receiving F) c s) (on_share_of (receiving F) c s')
  call-near (opens slot x) q =
      on-near _ (λ n m r small apart. let w = open-near a d n m r small apart is-on x in same_answer a d _ _ (ap (refused []) w.0) w.1)
  call-near (closes slot) q = absurd (false≢true (sym q))
  call-near (groups slot) q =
      on-near _ (λ n m r small apart. let w = group-near a d n m r small apart is-on in same_answer a d _ _ (ap (refused []) w.0) w.1)
  call-near (receives slot o room) q = on-near _ (λ n m r small apart. receive-near a d n m r small apart F o room is-on)

  run-matches : (calls : List Call) → NoClose calls → (s s' : List ℕ) → Near a d s s' → AllMatch d (outs (receiving F) calls s) (outs (receiving F) calls s')
  unfolding outs
  run-matches [] q s s' h = tt
  run-matches (c ∷ calls) q s s' h = let w = call-near c q.0 s s' h in (w.matches, run-matches calls q.1 _ _ w.near)

-- ---- the theorem

-- the share t when the full object comes
module _ (t : List ℕ) (l : length t ≡ share_len) (slot : ℕ) (o room : List ℕ) (after : List Call) (q : NoClose after)
    (full : is_delta F o ≡ false) (z : (receiving F o room t).answer.number ≡ 0) where
  -- it is lawful and open, since the object is accepted
  is-open : is_open t ≡ true
  is-open = (passed F o room t (done-holds F o room t z)).opened

  is-on : eqb (asked_of t).track 0 ≡ false
  unfolding is_open
  is-on = not-true _ is-open

  few : count_of t ≤ u32
  few = leb-true _ _ (opened-facts Receiver t (passed F o room t (done-holds F o room t z)).lawful is-open).accepted

  abbrev parts : List ℕ
  parts = made (asked_of t) (count_of t) (drop held_at t)

  whole : t ≡ parts
  whole = parted t (omega arith)

  -- the object, and so all calls after it
  object-joins : Stays (asked_of t) (count_of t) (receiving F o room t) (receiving F o room (opened (asked_of t)))
  object-joins =
      subst (λ (x : List ℕ). Stays (asked_of t) (count_of t) (receiving F o room x) (receiving F o room (opened (asked_of t)))) (sym whole)
      (full-joins F (asked_of t) (count_of t) (drop held_at t) is-on few (sym (ap length whole) ∙ l) o room full
      (sym (ap (λ (x : List ℕ). (receiving F o room x).answer.number) whole) ∙ z))

  pub joins_at : AllMatch (count_of t) (outs (receiving F) (receives slot o room ∷ after) t) (outs (receiving F) (receives slot o room ∷ after) (opened (asked_of t)))
  unfolding outs
  joins_at = (object-joins.matches, run-matches (asked_of t) is-on (count_of t) after q _ _ object-joins.near)

pub joins : Joins (receiving F)
joins s l before slot o room after q full z = joins_at (share_after (receiving F) before s) (run-keeps before s l) slot o room after q full z

-- and so does any receiver that gives what the rules define
pub joins-by : (receive : (object room share : List ℕ) → Out Took) → ((o room s : List ℕ) → receiving F o room s ≡ receive o room s) → Joins receive
joins-by receive e = subst Joins (λ j o room s. e o room s j) joins

-- ---- the parameters

-- an opening of an open share is refused, and changes nothing
refused-opening : (s : List ℕ) → is_open s ≡ true → (a : Asked) → (opening Receiver a s).words ≡ s
unfolding opening on_share
refused-opening s p a =
    climbs-all (λ (x : Out ℕ). x.words ≡ s) (λ k. out k s) (open_rungs Receiver a s) (out 0 (opened a)) (λ k. refl)
    (λ h. absurd (false≢true (sym (ap not p) ∙ h.1.0)))

-- the start of a group leaves a share as it was, or without its reference
group-either : (P : List ℕ → Type 0) (s : List ℕ) → P s → P (dropped s) → P (grouping Receiver s).words
unfolding grouping on_share
group-either P s h d = climbs-all (λ (x : Out ℕ). P x.words) (λ k. out k s) (opened_rungs Receiver s) (out 0 (dropped s)) (λ k. h) (λ _. d)

call-parameters : (c : Call) → is_close c ≡ false → (s : List ℕ) → length s ≡ share_len → is_open s ≡ true → take accepted_at (on_share_of (receiving F) c s).words ≡ take accepted_at s
call-parameters (opens slot a) q s l p = ap (take accepted_at) (refused-opening s p a)
call-parameters (closes slot) q s l p = absurd (false≢true (sym q))
call-parameters (groups slot) q s l p = group-either (λ x. take accepted_at x ≡ take accepted_at s) s refl (dropped-parameters s l)
call-parameters (receives slot o room) q s l p = receive-parameters s l o room

pub parameters-stay : ParametersStay
unfolding share_after
parameters-stay s l p [] q = refl
parameters-stay s l p (c ∷ calls) q =
    let e : take accepted_at (on_share_of (receiving F) c s).words ≡ take accepted_at s = call-parameters c q.0 s l p in
    parameters-stay (on_share_of (receiving F) c s).words ((call-keeps c).keeps s l) (same-open (on_share_of (receiving F) c s).words s e ∙ p) calls q.1 ∙ e

-- ---- the number

dropped-count : (s : List ℕ) → length s ≡ share_len → count_of (dropped s) ≡ count_of s
unfolding dropped
dropped-count s l = ap (λ (x : List ℕ). count_of (dropped x)) (parted s (omega arith))

refused-count : (o room s : List ℕ) → length s ≡ share_len → ((receiving F o room s).answer.number ≡ 0 → ⊥) → count_of (receiving F o room s).words ≡ count_of s
unfolding receiving
refused-count o room s l =
    climbs-all (λ (x : Out Took). (x.answer.number ≡ 0 → ⊥) → count_of x.words ≡ count_of s) (refusing room s) (receive_rungs F o room s) (done F o room s)
    (λ k n. refusal-either s (λ x. count_of x ≡ count_of s) k refl (dropped-count s l)) (λ h n. absurd (n refl))

pub number-runs : NumberRuns
number-runs =
    record {
      stands = λ o room s l z. number-stands F o room s l z;
      by_one = λ o room s l z. counts-one F o room s l z;
      refused = λ o room s l n. refused-count o room s l n;
      group = λ s l. group-either (λ x. count_of x ≡ count_of s) s refl (dropped-count s l);
      second-opening = λ a s p. ap count_of (refused-opening s p a);
    }

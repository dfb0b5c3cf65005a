-- Order 5, joining in mid-group. 02: "Support staff cut captures at any full object and need to trust the rest. Show that for an open slot and any calls on it, those
-- from an accepted full object on give the same answers, fronts and reference as the same calls on a newly opened slot with the same parameters. The `mfhd` number
-- alone is excepted, and a close or a second opening ends the claim."
-- ==== What is shown of the rules
use Rattle.std.specs.Prelude.{ℕ, ◌+◌, ◌%◌, ◌^◌, ◌<◌, ◌≡◌, Bool, true, false, cond, List, [], ◌∷◌, map, eqb, length, take}
use Rattle.track.specs.declared.Asked.{Asked}
use Rattle.slots.specs.declared.lawful.Side.TheVariants.{Receiver}
use Rattle.share_words.specs.Share.{share_len, accepted_at, table_len, slot_count}
use Rattle.slots.specs.Share.{asked_of, is_open, opened}
use Rattle.slots.specs.Table.{Out, out, share_at}
use Rattle.slots.specs.Calls.{opening, closing, grouping}
use Rattle.answers.specs.Took.{Took}
use Rattle.receiver.specs.Object.{is_delta}
use Rattle.receiver.specs.Receive.{receiving}
use Rattle.joining.specs.Number.{number_in}
use Rattle.joining.specs.Matches.{front_bytes, count_of, Matches}
use Rattle.cmaf_read_facts.specs.Given.{F}
use Rattle.demands.specs.One.{alone}
use Rattle.demands.specs.Three.{Call, opens, closes, groups, receives, slot_of, call, table_after}

-- ---- calls on one slot, by its share

abbrev pub is_close : Call → Bool
is_close (opens slot a) = false
is_close (closes slot) = true
is_close (groups slot) = false
is_close (receives slot o room) = false

-- "a close or a second opening ends the claim": calls up to a close, so that none of them is one. An opening among them finds the slot open, and so it is refused with
-- 3 and ends nothing (D139)
abbrev pub NoClose : List Call → Type 0
NoClose [] = Unit {0}
NoClose (a ∷ calls) = (is_close a ≡ false) × NoClose calls

-- what as many calls give in two places matches, call by call
abbrev pub AllMatch : ℕ → List (Out Took) → List (Out Took) → Type 0
AllMatch d [] [] = Unit {0}
AllMatch d (a ∷ xs) (b ∷ ys) = Matches d a b × AllMatch d xs ys
AllMatch d [] (b ∷ ys) = ⊥
AllMatch d (a ∷ xs) [] = ⊥

-- of any receiver: what it makes of an object, the room that is lent and a share
module _ (receive : (object room share : List ℕ) → Out Took) where
  -- what a call gives on the share of its slot, and leaves there
  abbrev pub on_share_of : Call → List ℕ → Out Took
  on_share_of (opens slot a) s = alone (opening Receiver a s)
  on_share_of (closes slot) s = alone (closing Receiver s)
  on_share_of (groups slot) s = alone (grouping Receiver s)
  on_share_of (receives slot o room) s = receive o room s

  -- what each call of a run gives and leaves, and the share after them all
  unfoldable pub outs : List Call → List ℕ → List (Out Took)
  outs [] s = []
  outs (a ∷ calls) s = on_share_of a s ∷ outs calls (on_share_of a s).words

  unfoldable pub share_after : List Call → List ℕ → List ℕ
  share_after [] s = s
  share_after (a ∷ calls) s = share_after calls (on_share_of a s).words

  -- "for an open slot and any calls on it": any share s, and any calls on it before the full object, closes and openings too. Where the object is then accepted, the
  -- share is lawful and open (18, 2), and "the same parameters" are those that it has. "those from an accepted full object on": the object, and any calls after it
  -- (D137, D138)
  abbrev pub Joins : Type 0
  Joins = (s : List ℕ) → length s ≡ share_len → (before : List Call) (slot : ℕ) (o room : List ℕ) (after : List Call) → NoClose after
      → let t = share_after before s in
      let run = receives slot o room ∷ after in
      is_delta F o ≡ false → (receive o room t).answer.number ≡ 0
      → AllMatch (count_of t) (outs run t) (outs run (opened (asked_of t)))

-- no call on an open slot but a close changes its parameters: they are those of its opening
abbrev pub ParametersStay : Type 0
ParametersStay = (s : List ℕ) → length s ≡ share_len → is_open s ≡ true → (calls : List Call) → NoClose calls
    → take accepted_at (share_after (receiving F) calls s) ≡ take accepted_at s

-- ---- the number that is excepted

-- 01: "`mfhd` counts accepted objects since opening from 1, 0 following 2^32-1.": it is the share's count, in the four bytes that `unnumbered` puts to 0, and runs by
-- one with every accepted object; no other call of an open slot but a close changes it. So two receivers that are given the same calls stay as far apart as they
-- were, modulo 2^32 (D140)
pub record NumberRuns : Type 0 where
  pub stands : (o room s : List ℕ) → length s ≡ share_len → (receiving F o room s).answer.number ≡ 0
      → number_in (front_bytes (receiving F o room s).answer) ≡ count_of (receiving F o room s).words
  pub by_one : (o room s : List ℕ) → length s ≡ share_len → (receiving F o room s).answer.number ≡ 0
      → count_of (receiving F o room s).words ≡ (count_of s + 1) % 2 ^ 32
  pub refused : (o room s : List ℕ) → length s ≡ share_len → ((receiving F o room s).answer.number ≡ 0 → ⊥)
      → count_of (receiving F o room s).words ≡ count_of s
  pub group : (s : List ℕ) → length s ≡ share_len → count_of (grouping Receiver s).words ≡ count_of s
  pub second-opening : (a : Asked) (s : List ℕ) → is_open s ≡ true → count_of (opening Receiver a s).words ≡ count_of s

-- ---- the same on whole tables

-- the calls of a run that are on one slot
unfoldable pub only : ℕ → List Call → List Call
only slot [] = []
only slot (a ∷ calls) = cond (eqb (slot_of a) slot) (a ∷ only slot calls) (only slot calls)

-- what each of them gives in the run: its answer, and the slot's share then
unfoldable pub outs_at : ℕ → List Call → List ℕ → List (Out Took)
outs_at slot [] t = []
outs_at slot (a ∷ calls) t =
    let rest = outs_at slot calls (call a t).words in
    cond (eqb (slot_of a) slot) (out (call a t).answer (share_at (call a t).words slot) ∷ rest) rest

-- the calls on the other seven slots change nothing of it: it is what the slot's own calls give on its share, and so is what they leave
abbrev pub OwnCalls : Type 0
OwnCalls = (slot : ℕ) → slot < slot_count → (calls : List Call) (t : List ℕ) → length t ≡ table_len
    → (outs_at slot calls t ≡ outs (receiving F) (only slot calls) (share_at t slot))
    × (share_at (table_after calls t) slot ≡ share_after (receiving F) (only slot calls) (share_at t slot))

-- a call made on another slot
abbrev pub moved : ℕ → Call → Call
moved j (opens slot a) = opens j a
moved j (closes slot) = closes j
moved j (groups slot) = groups j
moved j (receives slot o room) = receives j o room

-- any calls on the table t, a full object that slot i then accepts, and any calls after it; and beside it any table t' where slot j is opened with the same parameters,
-- and a run whose calls on slot j are the same from the object on. What calls there are on other slots is all one (D141)
abbrev pub TablesJoin : Type 0
TablesJoin = (i j : ℕ) → i < slot_count → j < slot_count → (t t' : List ℕ) → length t ≡ table_len → length t' ≡ table_len
    → (before : List Call) (o room : List ℕ) (after run' : List Call) → NoClose (only i after)
    → let u = table_after before t in
    let u' = call (opens j (asked_of (share_at u i))) t' in
    let run = receives i o room ∷ after in
    is_delta F o ≡ false → (call (receives i o room) u).answer.number ≡ 0 → u'.answer.number ≡ 0 → map (moved j) (only i run) ≡ only j run'
    → AllMatch (count_of (share_at u i)) (outs_at i run u) (outs_at j run' u'.words)

-- what the contract of our receiver says
abbrev pub our_receiver : (object room share : List ℕ) → Out Took
our_receiver = receiving F

pub record JoiningInMidGroup : Type 0 where
  pub share : Joins our_receiver
  pub parameters : ParametersStay
  pub number : NumberRuns
  pub own-calls : OwnCalls
  pub table : TablesJoin

-- Order 5 on tables: a slot sees its own calls alone, and so a run can be joined on a table too. Assumes nothing.
use Prim.Native.Nat.{ℕ, ◌<◌}
use native.Mathlib.Omega.{arith}
use mathlib.Core.Path.{◌≡◌, refl, sym, ◌∙◌, ap, ap₂, subst}
use mathlib.Core.Bool.{Bool, true, false}
use mathlib.Core.List.{List, [], ◌∷◌, map}
use borrow.Author.Tests.{eqb-true, eqb-false, eq-eqb}
use lib.Dec.{eqb}
use lib.ListN.{length}
use Rattle.track.specs.declared.Asked.{Asked}
use Rattle.slots.specs.declared.lawful.Side.TheVariants.{Receiver}
use Rattle.slots.specs.Share.{asked_of, opened}
use Rattle.slots.specs.Table.{Out, out, share_at}
use Rattle.share_words.specs.Share.{table_len, slot_count}
use Rattle.slots.proofs.TableLaws.{right-slot, share-long, left_there}
use Rattle.slots.proofs.Apart.{table-long, others-stay}
use Rattle.slots.proofs.StaysLawful.{open-stores}
use Rattle.answers.specs.Took.{Took}
use Rattle.receiver.specs.Receive.{receiving}
use Rattle.joining.specs.Matches.{count_of}
use Rattle.cmaf_read_facts.specs.Given.{F}
use Rattle.demands.specs.Three.{Call, opens, closes, groups, receives, slot_of, call, table_after}
use Rattle.demands.specs.Join.{AllMatch, on_share_of, outs, share_after, only, outs_at, OwnCalls, moved, TablesJoin, our_receiver, JoiningInMidGroup}
use Rattle.demands.proofs.OneChange.{refused_by, call-shared, call-keeps}
use Rattle.demands.proofs.JoinRuns.{joins_at, joins-by, parameters-stay, number-runs}

-- ---- one call

call_long : (a : Call) (t : List ℕ) → length (call a t).words ≡ length t
call_long a t = subst (λ (x : Out Took). length x.words ≡ length t) (call-shared a t) (table-long (refused_by a) (on_share_of (receiving F) a) (call-keeps a) (slot_of a) t)

module _ (a : Call) (t : List ℕ) (l : length t ≡ table_len) where
  -- on its slot it is the call on the share
  call-own : slot_of a < slot_count → out (call a t).answer (share_at (call a t).words (slot_of a)) ≡ on_share_of (receiving F) a (share_at t (slot_of a))
  call-own h =
      let f = on_share_of (receiving F) a in
      let e : (call a t).answer ≡ (f (share_at t (slot_of a))).answer =
      ap (λ (x : Out Took). x.answer) (sym (call-shared a t)) ∙ sym (ap (λ (x : Out Took). x.answer) (right-slot (refused_by a) f t (slot_of a) l (omega arith))) in
      let w : share_at (call a t).words (slot_of a) ≡ (f (share_at t (slot_of a))).words =
      ap (λ (x : Out Took). share_at x.words (slot_of a)) (sym (call-shared a t)) ∙ left_there (refused_by a) f (call-keeps a) t (slot_of a) l h in
      λ j. out (e j) (w j)

  -- and changes no other
  call-other : (slot : ℕ) → slot < slot_count → (slot_of a ≡ slot → ⊥) → share_at (call a t).words slot ≡ share_at t slot
  call-other slot h d =
      ap (λ (x : Out Took). share_at x.words slot) (sym (call-shared a t)) ∙ others-stay Took (refused_by a) (on_share_of (receiving F) a) (call-keeps a) (slot_of a) slot d h t

-- ---- runs

pub own-calls : OwnCalls
unfolding outs_at outs only table_after share_after
own-calls slot h [] t l = (refl, refl)
own-calls slot h (a ∷ calls) t l = by (eqb (slot_of a) slot) refl (own-calls slot h calls (call a t).words (call_long a t ∙ l))
  where
    by : (b : Bool) → eqb (slot_of a) slot ≡ b
        → (outs_at slot calls (call a t).words ≡ outs (receiving F) (only slot calls) (share_at (call a t).words slot))
        × (share_at (table_after calls (call a t).words) slot ≡ share_after (receiving F) (only slot calls) (share_at (call a t).words slot))
        → (outs_at slot (a ∷ calls) t ≡ outs (receiving F) (only slot (a ∷ calls)) (share_at t slot))
        × (share_at (table_after (a ∷ calls) t) slot ≡ share_after (receiving F) (only slot (a ∷ calls)) (share_at t slot))
    by true e (p, q) =
        let i : slot_of a ≡ slot = eqb-true _ _ e in
        let own : out (call a t).answer (share_at (call a t).words slot) ≡ on_share_of (receiving F) a (share_at t slot) =
        subst (λ (k : ℕ). out (call a t).answer (share_at (call a t).words k) ≡ on_share_of (receiving F) a (share_at t k)) i (call-own a t l (omega arith)) in
        rw e (
          ap (λ (os : List (Out Took)). out (call a t).answer (share_at (call a t).words slot) ∷ os) p
              ∙ ap (λ (o : Out Took). o ∷ outs (receiving F) (only slot calls) o.words) own,
          q ∙ ap (λ (o : Out Took). share_after (receiving F) (only slot calls) o.words) own,
        )
    by false e (p, q) =
        let stays : share_at (call a t).words slot ≡ share_at t slot = call-other a t l slot h (eqb-false _ _ e) in
        rw e (p ∙ ap (outs (receiving F) (only slot calls)) stays, q ∙ ap (share_after (receiving F) (only slot calls)) stays)

run_long : (calls : List Call) (t : List ℕ) → length (table_after calls t) ≡ length t
unfolding table_after
run_long [] t = refl
run_long (a ∷ calls) t = run_long calls (call a t).words ∙ call_long a t

-- a call on the slot in front of a run
only-own : (slot : ℕ) (o room : List ℕ) (calls : List Call) → only slot (receives slot o room ∷ calls) ≡ receives slot o room ∷ only slot calls
unfolding only
only-own slot o room calls = rw (eq-eqb slot slot refl)

-- on a share it is all one which slot a call names
moved_same : (j : ℕ) (a : Call) (s : List ℕ) → on_share_of (receiving F) (moved j a) s ≡ on_share_of (receiving F) a s
moved_same j (opens slot a) s = refl
moved_same j (closes slot) s = refl
moved_same j (groups slot) s = refl
moved_same j (receives slot o room) s = refl

outs-moved : (j : ℕ) (calls : List Call) (s : List ℕ) → outs (receiving F) (map (moved j) calls) s ≡ outs (receiving F) calls s
unfolding outs
outs-moved j [] s = refl
outs-moved j (a ∷ calls) s =
    ap (λ (x : Out Took). x ∷ outs (receiving F) (map (moved j) calls) x.words) (moved_same j a s)
    ∙ ap (λ (xs : List (Out Took)). on_share_of (receiving F) a s ∷ xs) (outs-moved j calls (on_share_of (receiving F) a s).words)

-- a slot that was opened
opened-share : (slot : ℕ) → slot < slot_count → (a : Asked) (t : List ℕ) → length t ≡ table_len → (call (opens slot a) t).answer.number ≡ 0
    → share_at (call (opens slot a) t).words slot ≡ opened a
opened-share slot h a t l z =
    let own = call-own (opens slot a) t l h in
    ap (λ (o : Out Took). o.words) own
    ∙ open-stores Receiver a (share_at t slot) (sym (ap (λ (o : Out Took). o.answer.number) own) ∙ z)

-- ---- the theorem

pub tables-join : TablesJoin
tables-join i j hi hj t t' l l' before o room after run' q full z zo e =
    let x : Call = receives i o room in
    let u : List ℕ = table_after before t in
    let lu : length u ≡ table_len = run_long before t ∙ l in
    let s : List ℕ = share_at u i in
    let a : Asked = asked_of s in
    let u' : List ℕ = (call (opens j a) t').words in
    let lu' : length u' ≡ table_len = call_long (opens j a) t' ∙ l' in
    let run : List Call = x ∷ only i after in
    let own : only i (x ∷ after) ≡ run = only-own i o room after in
    let zs : (on_share_of (receiving F) x s).answer.number ≡ 0 = sym (ap (λ (r : Out Took). r.answer.number) (call-own x u lu hi)) ∙ z in
    let one : outs_at i (x ∷ after) u ≡ outs (receiving F) run s = (own-calls i hi (x ∷ after) u lu).0 ∙ ap (λ (cs : List Call). outs (receiving F) cs s) own in
    let two : outs_at j run' u' ≡ outs (receiving F) run (opened a) =
    (own-calls j hj run' u' lu').0
    ∙ ap₂ (outs (receiving F)) (sym e ∙ ap (map (moved j)) own) (opened-share j hj a t' l' zo)
    ∙ outs-moved j run (opened a) in
    subst (λ (xs : List (Out Took)). AllMatch (count_of s) xs (outs_at j run' u')) (sym one)
    (subst (λ (ys : List (Out Took)). AllMatch (count_of s) (outs (receiving F) run s) ys) (sym two)
    (joins_at s (share-long u i lu hi) i o room (only i after) q full zs))

pub joining-in-mid-group : JoiningInMidGroup
joining-in-mid-group = record { share = joins-by our_receiver (λ o room s. refl); parameters = parameters-stay; number = number-runs; own-calls = own-calls; table = tables-join }

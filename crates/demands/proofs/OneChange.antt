-- One change: calls on different slots don't meet, and the order of tuples isn't seen. Assumes nothing.
use Prim.Native.Nat.{ℕ}
use mathlib.Core.Path.{◌≡◌, refl, sym, ◌∙◌, subst}
use mathlib.Core.List.{List, []}
use Rattle.slots.specs.declared.lawful.Side.TheVariants.{Receiver}
use Rattle.slots.specs.Table.{Out, itself, on_table}
use Rattle.slots.specs.Calls.{opening, closing, grouping}
use Rattle.slots.specs.Laws.{Keeps, Apart}
use Rattle.slots.proofs.TableLaws.{table-seen}
use Rattle.slots.proofs.Apart.{apart}
use Rattle.slots.proofs.StaysLawful.{open-keeps, close-keeps, group-keeps}
use Rattle.answers.specs.Took.{Took, took, refused}
use Rattle.receiver.specs.Receive.{receiving}
use Rattle.receiver.proofs.Theorems.{receive-keeps}
use Rattle.receiver.proofs.ObjectBytes.{order-unseen}
use Rattle.cmaf_read_facts.specs.Given.{F}
use Rattle.demands.specs.Three.{Call, opens, closes, groups, receives, slot_of, call, lent, told, Reordered}
use Rattle.demands.specs.Join.{on_share_of}

-- ---- a call by what it makes of a share, and what it answers if the table or the slot is wrong

pub refused_by : Call → ℕ → Took
refused_by (opens slot a) k = took k 0 [] []
refused_by (closes slot) k = took k 0 [] []
refused_by (groups slot) k = took k 0 [] []
refused_by (receives slot o room) k = refused room k

abbrev pub shared : Call → List ℕ → Out Took
shared a t = on_table (refused_by a) (on_share_of (receiving F) a) t (slot_of a)

pub call-shared : (a : Call) (t : List ℕ) → shared a t ≡ call a t
unfolding call refused_by
call-shared (opens slot a) t = table-seen (λ k. took k 0 [] []) itself (opening Receiver a) t slot
call-shared (closes slot) t = table-seen (λ k. took k 0 [] []) itself (closing Receiver) t slot
call-shared (groups slot) t = table-seen (λ k. took k 0 [] []) itself (grouping Receiver) t slot
call-shared (receives slot o room) t = refl

-- every call keeps its share's length
pub call-keeps : (a : Call) → Keeps (on_share_of (receiving F) a)
call-keeps (opens slot a) = record { keeps = (open-keeps Receiver a).keeps }
call-keeps (closes slot) = record { keeps = (close-keeps Receiver).keeps }
call-keeps (groups slot) = record { keeps = (group-keeps Receiver).keeps }
call-keeps (receives slot o room) = receive-keeps F o room

-- ---- two calls on different slots

module _ (a b : Call) (d : slot_of a ≡ slot_of b → ⊥) (t : List ℕ) where
  abbrev calls-apart : Apart (refused_by a) (on_share_of (receiving F) a) (refused_by b) (on_share_of (receiving F) b) (slot_of a) (slot_of b) t
  calls-apart =
      apart Took Took (refused_by a) (on_share_of (receiving F) a) (refused_by b) (on_share_of (receiving F) b) (call-keeps a) (call-keeps b) (slot_of a) (slot_of b) d t

  -- either order leaves the same table
  pub tables-same : (call b (call a t).words).words ≡ (call a (call b t).words).words
  tables-same =
      subst (λ (c : Call → List ℕ → Out Took). (c b (c a t).words).words ≡ (c a (c b t).words).words) (λ j x l. call-shared x l j) calls-apart.same

  -- and the first is answered as it would be alone
  answer-same : (call a (call b t).words).answer ≡ (call a t).answer
  answer-same =
      subst (λ (c : Call → List ℕ → Out Took). (c a (c b t).words).answer ≡ (c a t).answer) (λ j x l. call-shared x l j) calls-apart.first

-- another room is no other slot
lent-slot : (r : List ℕ) (a : Call) → slot_of (lent r a) ≡ slot_of a
lent-slot r (opens slot a) = refl
lent-slot r (closes slot) = refl
lent-slot r (groups slot) = refl
lent-slot r (receives slot o room) = refl

-- so it is told the same
pub told_same : (a b : Call) → (slot_of a ≡ slot_of b → ⊥) → (t : List ℕ) → told a (call b t).words ≡ told a t
told_same a b d t =
    λ j. record { answer = answer-same a b d t j; defined = λ r. answer-same (lent r a) b (λ e. d (sym (lent-slot r a) ∙ e)) t j }

-- ---- an object with its tuples in another order

pub received-same : (slot : ℕ) (o o' room : List ℕ) → Reordered o o' → (t : List ℕ) → call (receives slot o room) t ≡ call (receives slot o' room) t
unfolding call
received-same slot o o' room r t =
    λ j.
    on_table (refused room)
    (λ s. (order-unseen F o r.parts r.tuples' r.permuted room s ∙ (λ i. receiving F (sym r.bytes' i) room s)) j) t slot

pub told-reordered : (slot : ℕ) (o o' room : List ℕ) → Reordered o o' → (t : List ℕ) → told (receives slot o room) t ≡ told (receives slot o' room) t
told-reordered slot o o' room r t =
    λ j. record { answer = (received-same slot o o' room r t j).answer; defined = λ l. (received-same slot o o' l r t j).answer }

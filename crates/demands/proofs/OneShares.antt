-- Demand 1: each call is one on a share, seen from the table; and what it makes of the share. Assumes nothing.
use Prim.Native.Nat.{ℕ, ◌-◌}
use mathlib.Core.Path.{◌≡◌, refl, ◌∙◌, ap}
use mathlib.Core.Bool.{true}
use mathlib.Core.List.{List, []}
use lib.ListN.{length, drop}
use Rattle.laws.specs.Tests.{all_le}
use Rattle.laws.proofs.LadderLaws.{ladder-seen}
use Rattle.wire.specs.declared.form.Form.TheVariants.{Rfc9000}
use Rattle.share_words.specs.Share.{share_len}
use Rattle.slots.specs.Share.{lawful}
use Rattle.slots.specs.Table.{Out, itself, table_rungs, on_table}
use Rattle.slots.specs.Calls.{opening, closing, grouping}
use Rattle.slots.specs.Laws.{Keeps}
use Rattle.slots.proofs.StaysLawful.{open-keeps, close-keeps, group-keeps, open-stores, close-zeroes, group-drops, open-stays-lawful, close-stays-lawful, group-stays-lawful}
use Rattle.answers.specs.Took.{Took, refused, PastStays}
use Rattle.answers.proofs.TookLaws.{refused-past}
use Rattle.cmaf_read_chunk.specs.Accepted.{accept_rungs}
use Rattle.cmaf_read_chunk.proofs.TakenLaws.{payload-behind}
use Rattle.encoder.specs.Encode.{encoding}
use Rattle.encoder.proofs.Theorems.{encode-keeps, encode-stays-lawful, encode-past, encode-last, done-passed, done-is as encode-done}
use Rattle.receiver.specs.Object.{payload}
use Rattle.receiver.specs.Receive.{receiving}
use Rattle.receiver.proofs.Theorems.{receive-keeps, receive-stays-lawful, receive-past, receive-last}
use Rattle.receiver.proofs.AlikeTheorems.{done-is as receive-done}
use Rattle.cmaf_read_facts.specs.Given.{F}
use Rattle.demands.specs.One.{Call, opens, closes, starts, encodes, receives, alone, gives, side_of, lent_to, output_of, after, front_of}

-- what a call makes of a share
abbrev pub on_share : Call → List ℕ → Out Took
on_share (opens side a) s = alone (opening side a s)
on_share (closes side) s = alone (closing side s)
on_share (starts side) s = alone (grouping side s)
on_share (encodes wish c output) s = encoding F wish c output s
on_share (receives o output) s = receiving F o output s

-- a call that answers with a number alone
alone-is : (f : List ℕ → Out ℕ) (slot : ℕ) (t : List ℕ) → alone (on_table itself f t slot) ≡ on_table (refused []) (λ s. alone (f s)) t slot
unfolding on_table
alone-is f slot t = ladder-seen alone (table_rungs t slot) _ _

-- every call is one on a share, seen from the table
pub gives-is : (a : Call) (slot : ℕ) (t : List ℕ) → gives a slot t ≡ on_table (refused (output_of a)) (on_share a) t slot
gives-is (opens side a) slot t = alone-is (opening side a) slot t
gives-is (closes side) slot t = alone-is (closing side) slot t
gives-is (starts side) slot t = alone-is (grouping side) slot t
gives-is (encodes wish c output) slot t = refl
gives-is (receives o output) slot t = refl

-- the share keeps its length, and stays lawful
pub keeps : (a : Call) → Keeps (on_share a)
keeps (opens side a) = record { keeps = (open-keeps side a).keeps }
keeps (closes side) = record { keeps = (close-keeps side).keeps }
keeps (starts side) = record { keeps = (group-keeps side).keeps }
keeps (encodes wish c output) = encode-keeps F wish c output
keeps (receives o output) = receive-keeps F o output

pub share-lawful : (a : Call) → all_le 255 (lent_to a) ≡ true → (s : List ℕ) → length s ≡ share_len → lawful (side_of a) s ≡ true
    → lawful (side_of a) (on_share a s).words ≡ true
share-lawful (opens side a) b s l h = (open-stays-lawful side a).keeps s l h
share-lawful (closes side) b s l h = (close-stays-lawful side).keeps s l h
share-lawful (starts side) b s l h = (group-stays-lawful side).keeps s l h
share-lawful (encodes wish c output) b s l h = encode-stays-lawful Rfc9000 wish c output s b l h
share-lawful (receives o output) b s l h = receive-stays-lawful Rfc9000 o output s b l h

-- what a share's call that is done leaves and hands back
pub share-does : (a : Call) (s : List ℕ) → (on_share a s).answer.number ≡ 0
    → ((on_share a s).words ≡ after a s) × ((on_share a s).answer.payload ≡ drop (front_of a) (lent_to a))
unfolding accept_rungs payload
share-does (opens side a) s z = (open-stores side a s z, refl)
share-does (closes side) s z = (close-zeroes side s z, refl)
share-does (starts side) s z = (group-drops side s z, refl)
share-does (encodes wish c output) s z =
    let e = encode-done F wish c output s z in (
      ap (λ (x : Out Took). x.words) e,
      ap (λ (x : Out Took). x.answer.payload) e ∙ payload-behind _ c (done-passed F wish c output s z).accepted.1.0,
    )
share-does (receives o output) s z =
    let e = receive-done F o output s z in (ap (λ (x : Out Took). x.words) e, ap (λ (x : Out Took). x.answer.payload) e)

-- bytes past the front stay
pub share-past : (a : Call) (s : List ℕ) → PastStays (output_of a) (on_share a s).answer
share-past (opens side a) s = refused-past [] _
share-past (closes side) s = refused-past [] _
share-past (starts side) s = refused-past [] _
share-past (encodes wish c output) s = encode-past F wish c output s
share-past (receives o output) s = receive-past F o output s

-- the payload is the last so many of the lent bytes
abbrev pub Last : List ℕ → Took → Type 0
Last lent x = x.payload ≡ drop (length lent - length x.payload) lent

pub share-last : (a : Call) (s : List ℕ) → Last (lent_to a) (on_share a s).answer
share-last (opens side a) s = refl
share-last (closes side) s = refl
share-last (starts side) s = refl
share-last (encodes wish c output) s = encode-last F wish c output s
share-last (receives o output) s = receive-last F o output s

-- Demand 3: "Take any calls on a fresh receiver of eight slots. Swap neighbouring calls that name different slots; reorder the tuples in any property block that
-- splits into whole tuples; make as many such changes as you like. With the same room lent to each call, every call keeps its answer and the head and payload that
-- demand 2's definition gives, and the whole table at the end is the same."
-- It is said of any table, and of a fresh one.
-- ==== What is shown of the rules
use Rattle.std.specs.Prelude.{ℕ, suc, ◌≡◌, true, get_or, replicate, Some}
use mathlib.Core.List.{List, [], ◌∷◌, ◌++◌, map, flatten, Permᴰ}
use Rattle.track.specs.declared.Asked.{Asked}
use Rattle.slots.specs.declared.lawful.Side.TheVariants.{Receiver}
use Rattle.slots.specs.Table.{Out, itself, on_table}
use Rattle.share_words.specs.Share.{table_len}
use Rattle.slots.specs.Calls.{opening, closing, grouping}
use Rattle.locmaf_read_block.specs.Entries.{Entry}
use Rattle.answers.specs.Took.{Took, took, refused}
use Rattle.receiver.specs.Object.{header_reads, block_reads, tuples}
use Rattle.receiver.specs.Parts.{Parts}
use Rattle.receiver.specs.Receive.{receiving}
use Rattle.cmaf_read_facts.specs.Given.{F}
use Rattle.demands.specs.One.{alone}

-- ---- "Take any calls"

-- a call on a receiver's table: its slot, and what it is called with; an object comes with the room that is lent
pub data Call : Type 0 where
  opens : ℕ → Asked → Call
  closes : ℕ → Call
  groups : ℕ → Call
  receives : ℕ → List ℕ → List ℕ → Call

abbrev pub slot_of : Call → ℕ
slot_of (opens slot a) = slot
slot_of (closes slot) = slot
slot_of (groups slot) = slot
slot_of (receives slot o room) = slot

-- what a call answers on a table, and the table after it: the right side of its contract
unfoldable pub call : Call → List ℕ → Out Took
call (opens slot a) t = alone (on_table itself (opening Receiver a) t slot)
call (closes slot) t = alone (on_table itself (closing Receiver) t slot)
call (groups slot) t = alone (on_table itself (grouping Receiver) t slot)
call (receives slot o room) t = on_table (refused room) (receiving F o room) t slot

-- a call with another room
abbrev pub lent : List ℕ → Call → Call
lent r (opens slot a) = opens slot a
lent r (closes slot) = closes slot
lent r (groups slot) = groups slot
lent r (receives slot o room) = receives slot o r

-- what a call is told
pub record Told : Type 0 where
  -- "its answer": number, length of the front, payload, and every byte of its room
  pub answer : Took
  -- "and the head and payload that demand 2's definition gives": what it would be answered in any room, also where its own is too short for them
  pub defined : List ℕ → Took

abbrev pub told : Call → List ℕ → Told
told a t = record { answer = (call a t).answer; defined = λ r. (call (lent r a) t).answer }

-- a run of calls: what each is told, and the table after them
unfoldable pub answers : List Call → List ℕ → List Told
answers [] t = []
answers (a ∷ calls) t = told a t ∷ answers calls (call a t).words

unfoldable pub table_after : List Call → List ℕ → List ℕ
table_after [] t = t
table_after (a ∷ calls) t = table_after calls (call a t).words

-- ---- the changes

-- a call, and the number that it keeps through every change: its place in the first run
pub record Numbered : Type 0 where
  pub number : ℕ
  pub made : Call

abbrev pub numbered : ℕ → Call → Numbered
numbered k a = record { number = k; made = a }

abbrev pub numbered_from : ℕ → List Call → List Numbered
numbered_from k [] = []
numbered_from k (a ∷ calls) = numbered k a ∷ numbered_from (suc k) calls

abbrev pub calls_of : List Numbered → List Call
calls_of xs = map (λ (x : Numbered). x.made) xs

abbrev pub numbers_of : List Numbered → List ℕ
numbers_of xs = map (λ (x : Numbered). x.number) xs

-- "reorder the tuples in any property block that splits into whole tuples": the other object has the same bytes but for the order of the tuples
pub record Reordered (o o' : List ℕ) : Type 0 where
  pub parts : Parts F o
  pub tuples' : List (List ℕ)
  pub permuted : Permᴰ parts.tuples tuples'
  pub bytes' : o' ≡ parts.header ++ (parts.long ++ (flatten tuples' ++ parts.payload))

-- what becomes of a run
infixl 10 ◌then◌
pub data Changed : List Numbered → List Numbered → Type 0 where
  -- "Swap neighbouring calls that name different slots"
  swap : (a b : Numbered) {after : List Numbered} → (slot_of a.made ≡ slot_of b.made → ⊥) → Changed (a ∷ b ∷ after) (b ∷ a ∷ after)
  -- "reorder the tuples": number, slot and room stay
  reorder : (k slot : ℕ) {o o' : List ℕ} (room : List ℕ) {after : List Numbered} → Reordered o o'
      → Changed (numbered k (receives slot o room) ∷ after) (numbered k (receives slot o' room) ∷ after)
  -- the same behind any call, and so anywhere in the run
  behind : (a : Numbered) {xs ys : List Numbered} → Changed xs ys → Changed (a ∷ xs) (a ∷ ys)
  -- "as many such changes as you like", or none
  ◌then◌ : {xs ys zs : List Numbered} → Changed xs ys → Changed ys zs → Changed xs zs
  none : {xs : List Numbered} → Changed xs xs

-- ---- the demand

-- what a run tells its call with the number k
abbrev pub answer_to : List Call → List ℕ → ℕ → Told
answer_to calls t k = get_or (answers calls t) k (record { answer = took 0 0 [] []; defined = λ r. took 0 0 [] [] })

-- a run of calls on the table t, and what became of it
pub record Kept (t : List ℕ) (calls : List Call) (ys : List Numbered) : Type 0 where
  -- no call is lost and none comes in
  pub numbers : Permᴰ (numbers_of (numbered_from 0 calls)) (numbers_of ys)
  -- "every call keeps its answer and the head and payload", wherever it stands now
  pub answered : answers (calls_of ys) t ≡ map (λ (y : Numbered). answer_to calls t y.number) ys
  -- "and the whole table at the end is the same"
  pub table : table_after (calls_of ys) t ≡ table_after calls t

pub record DemandThree : Type 0 where
  -- of any table
  pub any : (t : List ℕ) (calls : List Call) (ys : List Numbered) → Changed (numbered_from 0 calls) ys → Kept t calls ys
  -- "on a fresh receiver of eight slots"
  pub fresh : (calls : List Call) (ys : List Numbered) → Changed (numbered_from 0 calls) ys → Kept (replicate table_len 0) calls ys
  -- "any property block that splits into whole tuples": every object has such parts whose header id, block length and tuples are read
  pub parted : (o : List ℕ) (es : List Entry) → header_reads F o ≡ true → block_reads F o ≡ true → tuples F o ≡ Some es → Parts F o
  -- and in one way only: the bytes say which tuples they are
  pub once : (o : List ℕ) (p q : Parts F o) → (p.header ≡ q.header) × (p.long ≡ q.long) × (p.tuples ≡ q.tuples) × (p.payload ≡ q.payload)

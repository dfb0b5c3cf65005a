-- Demand 1: "Any bytes, any table, any slot number are taken. Every call ends and answers with a number from the rules' table, each given exactly when its rule
-- says. A refusal writes nothing to the output and leaves the slot as that table states." That every call ends, and takes any input, its contract says: none has a
-- `requires`. All is said of whole tables: of any words, any number of them, and any slot number.
-- ==== What is shown of the rules
use Rattle.std.specs.Prelude.{ℕ, ◌+◌, ◌-◌, ◌<◌, ◌≡◌, Bool, true, length, drop}
use mathlib.Core.List.{List, [], ◌∷◌, ◌++◌, map, Memᴰ}
use Rattle.laws.specs.Tests.{all_le}
use Rattle.laws.specs.Ladder.{Rung, Given, Hold}
use Rattle.track.specs.declared.Asked.{Asked}
use Rattle.slots.specs.declared.lawful.Side.{Side}
use Rattle.slots.specs.declared.lawful.Side.TheVariants.{Encoder, Receiver}
use Rattle.slots.specs.Share.{lawful, opened}
use Rattle.share_words.specs.Share.{fresh, dropped, slot_count}
use Rattle.slots.specs.Table.{Out, out, itself, share_at, put_share, table_rungs, on_table}
use Rattle.slots.specs.Calls.{open_rungs, opened_rungs, opening, closing, grouping}
use Rattle.slots.specs.Laws.{FreshLawful}
use Rattle.answers.specs.Took.{Took, refused, PastStays}
use Rattle.answers.specs.Refusals.{dropped_by}
use Rattle.cmaf_read_chunk.specs.Accepted.{top}
use Rattle.encoder.specs.Encode.{encode_rungs, kept, encoding}
use Rattle.receiver.specs.Object.{block_end}
use Rattle.receiver.specs.Receive.{receive_rungs, accepted, receiving}
use Rattle.receiver.specs.Laws.{FullForgets}
use Rattle.cmaf_read_facts.specs.Given.{F}

-- ---- the five calls

-- what a call is given beside its slot and its table: a side, and parameters; a wish, a chunk and an output; an object and an output
pub data Call : Type 0 where
  opens : Side → Asked → Call
  closes : Side → Call
  starts : Side → Call
  encodes : Bool → List ℕ → List ℕ → Call
  receives : List ℕ → List ℕ → Call

-- a number is handed back, and nothing beside it
abbrev pub alone : Out ℕ → Out Took
alone x = out (refused [] x.answer) x.words

-- what it hands back and leaves, as the contracts say, on any slot of any table
abbrev pub gives : Call → ℕ → List ℕ → Out Took
gives (opens side a) slot t = alone (on_table itself (opening side a) t slot)
gives (closes side) slot t = alone (on_table itself (closing side) t slot)
gives (starts side) slot t = alone (on_table itself (grouping side) t slot)
gives (encodes wish c output) slot t = on_table (refused output) (encoding F wish c output) t slot
gives (receives o output) slot t = on_table (refused output) (receiving F o output) t slot

-- whose table it is called on
abbrev pub side_of : Call → Side
side_of (opens side a) = side
side_of (closes side) = side
side_of (starts side) = side
side_of (encodes wish c output) = Encoder
side_of (receives o output) = Receiver

-- the bytes that it is lent
abbrev pub lent_to : Call → List ℕ
lent_to (opens side a) = []
lent_to (closes side) = []
lent_to (starts side) = []
lent_to (encodes wish c output) = c
lent_to (receives o output) = o

abbrev pub output_of : Call → List ℕ
output_of (opens side a) = []
output_of (closes side) = []
output_of (starts side) = []
output_of (encodes wish c output) = output
output_of (receives o output) = output

-- ---- its rules

-- from the share s on
abbrev pub share_rules : Call → List ℕ → List Rung
share_rules (opens side a) s = open_rungs side a s
share_rules (closes side) s = opened_rungs side s
share_rules (starts side) s = opened_rungs side s
share_rules (encodes wish c output) s = encode_rungs F wish c output s
share_rules (receives o output) s = receive_rungs F o output s

abbrev pub rules : Call → ℕ → List ℕ → List Rung
rules a slot t = table_rungs t slot ++ share_rules a (share_at t slot)

-- their numbers. 01: "Order: 18 for length, 1, 18 for the share, 2 or 3, 4. Then the encoder: 5, 6, 8, 7, 9, 17. The receiver: 12 (header id), 10, 12 (block
-- length cut or past the object), 15 (block over its maximum), 11, 12 (tuples, varints, emsg records), 13, 14 (deletions), 15 (sample count), 14 (lengths but 13
-- and 15), 15 (id 11's values and sum), 14 (lengths of 13 and 15, set), 15 (all other values, ..), 16, 17." The last 15 is two rules here: the values of the set,
-- and all others (D3). 02, order 6: "21, receiver only, .. after 16, before 17"
abbrev pub order : Call → List ℕ
order (opens side a) = 18 ∷ 1 ∷ 18 ∷ 3 ∷ 4 ∷ []
order (closes side) = 18 ∷ 1 ∷ 18 ∷ 2 ∷ []
order (starts side) = 18 ∷ 1 ∷ 18 ∷ 2 ∷ []
order (encodes wish c output) = 18 ∷ 1 ∷ 18 ∷ 2 ∷ 5 ∷ 6 ∷ 8 ∷ 7 ∷ 9 ∷ 17 ∷ []
order (receives o output) =
    18 ∷ 1 ∷ 18 ∷ 2 ∷ 12 ∷ 10 ∷ 12 ∷ 15 ∷ 11 ∷ 12 ∷ 13 ∷ 14 ∷ 15 ∷ 14 ∷ 15 ∷ 14 ∷ 15 ∷ 15 ∷ 16 ∷ 21 ∷ 17 ∷ []

-- the number k is answered to a call whose rules are rs. That 0 is none of their numbers, the list shows
pub record ExactlyWhen (k : ℕ) (numbers : List ℕ) (rs : List Rung) : Type 0 where
  pub in-order : map (λ (r : Rung). r.number) rs ≡ numbers
  -- no number but these is ever answered
  pub known : Memᴰ k (0 ∷ numbers)
  -- 0 if and only if no rule is broken
  pub done-only : k ≡ 0 → Hold rs
  pub done-if : Hold rs → k ≡ 0
  -- and any number n if and only if n's rule is broken and none before it (`Given`)
  pub given-only : (n : ℕ) → k ≡ n → Given n rs
  pub given-if : (n : ℕ) → Given n rs → k ≡ n

-- ---- what it leaves

-- 01: "Numbers 12 to 16 drop the slot's reference"; 02, order 6: "21, .. dropping the reference"
abbrev pub Drops : ℕ → Type 0
Drops k = dropped_by k ≡ true

-- 01: "All but 0 write nothing to the output and hand back length 0 and an empty payload part at the front of the lent bytes. Numbers 12 to 16 drop the slot's
-- reference; every other refusal changes nothing, in the encoder too.": 1 leaves the whole table, and so does 18, for the table's length too
pub record Refused (output : List ℕ) (slot : ℕ) (t : List ℕ) (x : Out Took) : Type 0 where
  pub untouched : x.answer.output ≡ output
  pub front : x.answer.front ≡ 0
  pub payload : x.answer.payload ≡ []
  pub drops : Drops x.answer.number → x.words ≡ put_share t slot (dropped (share_at t slot))
  pub kept : (Drops x.answer.number → ⊥) → x.words ≡ t

-- the share s after a call that is done. 01: "open a slot with parameters, close it, start a group (drops the reference), and one chunk or one object"; "closing
-- zeroes the share"; "The reference is the previous accepted chunk's set of moof fields .. kept with the current full's `prft`."
abbrev pub after : Call → List ℕ → List ℕ
after (opens side a) s = opened a
after (closes side) s = fresh
after (starts side) s = dropped s
after (encodes wish c output) s = kept F wish c output s
after (receives o output) s = accepted F o s

-- 01: "the front: all of a chunk up to and with the `mdat` header, or all of an object before the payload": how long it is in the lent bytes
abbrev pub front_of : Call → ℕ
front_of (opens side a) = 0
front_of (closes side) = 0
front_of (starts side) = 0
front_of (encodes wish c output) = (top c).mdat.at + 8
front_of (receives o output) = block_end F o

pub record Done (a : Call) (slot : ℕ) (t : List ℕ) (x : Out Took) : Type 0 where
  pub words : x.words ≡ put_share t slot (after a (share_at t slot))
  -- 01: "The payload is handed back as the part of the lent object (or chunk) that it is": what is left of it behind the front
  pub payload : x.answer.payload ≡ drop (front_of a) (lent_to a)

-- ---- the demand

pub record DemandOne : Type 0 where
  -- "answers with a number from the rules' table, each given exactly when its rule says"
  pub exactly : (a : Call) (slot : ℕ) (t : List ℕ) → ExactlyWhen (gives a slot t).answer.number (order a) (rules a slot t)
  -- "A refusal writes nothing to the output and leaves the slot as that table states."
  pub refuses : (a : Call) (slot : ℕ) (t : List ℕ) → ((gives a slot t).answer.number ≡ 0 → ⊥) → Refused (output_of a) slot t (gives a slot t)
  -- 01: "0 | done"
  pub does : (a : Call) (slot : ℕ) (t : List ℕ) → (gives a slot t).answer.number ≡ 0 → Done a slot t (gives a slot t)
  -- 01: "Done reports the front's length; bytes past it stay."
  pub past : (a : Call) (slot : ℕ) (t : List ℕ) → PastStays (output_of a) (gives a slot t).answer
  -- the payload's length says where it lies, with every number. include/locmaf.h: "the last so many bytes of the chunk", or of the object
  pub last : (a : Call) (slot : ℕ) (t : List ℕ)
      → (gives a slot t).answer.payload ≡ drop (length (lent_to a) - length (gives a slot t).answer.payload) (lent_to a)
  -- 01: "no call changes a share that it doesn't name", nor the table's length
  pub others : (a : Call) (slot : ℕ) (t : List ℕ) (j : ℕ) → (slot ≡ j → ⊥) → j < slot_count → share_at (gives a slot t).words j ≡ share_at t j
  pub long : (a : Call) (slot : ℕ) (t : List ℕ) → length (gives a slot t).words ≡ length t
  -- 01: "Every call on a lawful share leaves it lawful": each share of the table, and so a lawful table stays lawful; for any bytes
  pub stays-lawful : (a : Call) (slot : ℕ) (t : List ℕ) → all_le 255 (lent_to a) ≡ true → (j : ℕ) → j < slot_count → lawful (side_of a) (share_at t j) ≡ true
      → lawful (side_of a) (share_at (gives a slot t).words j) ≡ true
  -- 01: "All zeros is fresh"
  pub fresh-lawful : FreshLawful
  -- a full object forgets: what came before it in the group changes nothing of what it gives
  pub forgets : FullForgets

-- What is to be shown of receiving an object.
-- ==== What is shown of the rules
use Rattle.std.specs.Prelude.{ℕ, ◌≡◌, true, false, length, take, Some}
use mathlib.Core.List.{List, [], ◌++◌, Permᴰ}
use Rattle.laws.specs.Tests.{all_le}
use Rattle.laws.specs.Ladder.{Given}
use Rattle.wire.specs.declared.form.Row.{Row}
use Rattle.wire.specs.declared.form.Form.{Form}
use Rattle.wire.specs.Form.{rows}
use Rattle.slots.specs.declared.lawful.Side.TheVariants.{Receiver}
use Rattle.share_words.specs.Share.{share_len, held_at, dropped}
use Rattle.slots.specs.Share.{lawful}
use Rattle.slots.specs.Table.{Out, share_at, table_rungs, on_table}
use Rattle.locmaf_read_block.specs.Entries.{Entry}
use Rattle.answers.specs.Took.{Took, refused, PastStays}
use Rattle.answers.specs.Refusals.{dropped_by}
use Rattle.receiver.specs.Object.{is_delta, head_rungs, tuples, payload}
use Rattle.receiver.specs.Receive.{receive_rungs, receiving}

-- each number is given exactly when its rule is broken and none before it, in the order of 01
abbrev pub ReceiveExactly : Type 0
ReceiveExactly = (F : List Row) (o output t : List ℕ) (slot : ℕ)
    → Given (on_table (refused output) (receiving F o output) t slot).answer.number (table_rungs t slot ++ receive_rungs F o output (share_at t slot))

-- 01: "Every call on a lawful share leaves it lawful": for any bytes, and any form that varints have
abbrev pub ReceiveStaysLawful : Type 0
ReceiveStaysLawful = (form : Form) (o output s : List ℕ) → all_le 255 o ≡ true → length s ≡ share_len → lawful Receiver s ≡ true
    → lawful Receiver (receiving (rows form) o output s).words ≡ true

-- 01: "All but 0 write nothing to the output and hand back length 0 and an empty payload part .. Numbers 12 to 16 drop the slot's reference;
-- every other refusal changes nothing"; 02, order 6: "21, .. dropping the reference"
pub record Refused (room s : List ℕ) (a : Out Took) : Type 0 where
  pub front : a.answer.front ≡ 0
  pub payload : a.answer.payload ≡ []
  pub untouched : a.answer.output ≡ room
  pub drops : dropped_by a.answer.number ≡ true → a.words ≡ dropped s
  pub kept : dropped_by a.answer.number ≡ false → a.words ≡ s

abbrev pub ReceiveRefuses : Type 0
ReceiveRefuses = (F : List Row) (o output s : List ℕ) → ((receiving F o output s).answer.number ≡ 0 → ⊥) → Refused output s (receiving F o output s)

abbrev pub ReceivePast : Type 0
ReceivePast = (F : List Row) (o output s : List ℕ) → PastStays output (receiving F o output s).answer

-- a full object forgets: on shares that differ in their references alone it answers alike, and where it is accepted it leaves them equal
pub record Alike (a b : Out Took) : Type 0 where
  pub answers : a.answer ≡ b.answer
  pub words : a.answer.number ≡ 0 → a.words ≡ b.words

abbrev pub FullForgets : Type 0
FullForgets = (F : List Row) (o output s s' : List ℕ) → is_delta F o ≡ false → length s ≡ share_len → length s' ≡ share_len
    → lawful Receiver s ≡ true → lawful Receiver s' ≡ true → take held_at s ≡ take held_at s'
    → Alike (receiving F o output s) (receiving F o output s')

-- 01: "any order is read": the order of the tuples changes nothing, be the ids lawful or not
abbrev pub AnyOrder : Type 0
AnyOrder = (F : List Row) (o o' output s : List ℕ) (es us : List Entry) → head_rungs F o ≡ head_rungs F o' → is_delta F o ≡ is_delta F o'
    → payload F o ≡ payload F o' → tuples F o ≡ Some es → tuples F o' ≡ Some us → Permᴰ es us
    → receiving F o output s ≡ receiving F o' output s

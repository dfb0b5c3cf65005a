-- What C finds by what it is told, in the words of include/locmaf.h: "the answer is the length of the payload: the last so many bytes of the chunk", or of the object;
-- "Otherwise *front and the answer are 0."
-- ==== What is shown of the rules
use Rattle.std.specs.Prelude.{ℕ, ◌-◌, ◌≡◌, Bool, List, length, drop}
use Rattle.wire.specs.declared.form.Row.{Row}
use Rattle.slots.specs.Table.{Out, on_table}
use Rattle.answers.specs.Took.{Took, refused}
use Rattle.encoder.specs.Encode.{encoding}
use Rattle.receiver.specs.Receive.{receiving}
use Rattle.locmaf.specs.Told.{tell}

-- by the answer x to a call that was lent these bytes
pub record Found (lent : List ℕ) (x : Out Took) : Type 0 where
  pub last : x.answer.payload ≡ drop (length lent - (tell x).payload) lent
  pub no_front : ((tell x).number ≡ 0 → ⊥) → (tell x).front ≡ 0
  pub no_payload : ((tell x).number ≡ 0 → ⊥) → (tell x).payload ≡ 0

abbrev pub EncodeFound : Type 0
EncodeFound = (F : List Row) (wish : Bool) (c output t : List ℕ) (slot : ℕ) → Found c (on_table (refused output) (encoding F wish c output) t slot)

abbrev pub ReceiveFound : Type 0
ReceiveFound = (F : List Row) (o output t : List ℕ) (slot : ℕ) → Found o (on_table (refused output) (receiving F o output) t slot)

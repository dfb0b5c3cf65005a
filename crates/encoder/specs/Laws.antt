-- What is to be shown of encoding a chunk.
-- ==== What is shown of the rules
use Rattle.std.specs.Prelude.{ℕ, ◌≤◌, ◌≡◌, Bool, true, ◌&&◌, List, [], ◌++◌, length, take}
use Rattle.laws.specs.Tests.{all_le, among}
use Rattle.laws.specs.Ladder.{Given, Hold}
use Rattle.constants.specs.Maxima.{block_most}
use Rattle.wire.specs.declared.form.Row.{Row}
use Rattle.wire.specs.declared.form.Form.{Form}
use Rattle.wire.specs.Form.{rows}
use Rattle.track.specs.declared.Track.{Track}
use Rattle.track.specs.Track.{iv_ok}
use Rattle.field_table.specs.Lines.{lines, line_for}
use Rattle.field_set.specs.Lawful.{has}
use Rattle.slots.specs.declared.lawful.Side.TheVariants.{Encoder}
use Rattle.share_words.specs.Share.{share_len}
use Rattle.slots.specs.Share.{lawful}
use Rattle.slots.specs.Table.{Out, share_at, table_rungs, on_table}
use Rattle.answers.specs.Took.{Took, refused, PastStays}
use Rattle.locmaf_write_tuples.specs.Items.{◌before◌, bytes_of}
use Rattle.locmaf_write_block.specs.Changes.{line_items}
use Rattle.locmaf_write_block.specs.Fields.{gone_of, field_items}
use Rattle.cmaf_read_chunk.specs.Accepted.{payload, fields, accept_rungs}
use Rattle.encoder.specs.Object.{block_items, gives_delta, front}
use Rattle.encoder.specs.Encode.{encode_rungs, encoding}

-- each number is given exactly when its rule is broken and none before it, in the order of 01
abbrev pub EncodeExactly : Type 0
EncodeExactly = (F : List Row) (wish : Bool) (c output t : List ℕ) (slot : ℕ)
    → Given (on_table (refused output) (encoding F wish c output) t slot).answer.number (table_rungs t slot ++ encode_rungs F wish c output (share_at t slot))

-- and no other number is: whichever is given exactly so is the one that is answered
abbrev pub EncodeOnly : Type 0
EncodeOnly = (F : List Row) (wish : Bool) (c output t : List ℕ) (slot k : ℕ) → Given k (table_rungs t slot ++ encode_rungs F wish c output (share_at t slot))
    → k ≡ (on_table (refused output) (encoding F wish c output) t slot).answer.number

-- a chunk that no rule refuses "becomes, given room, the one object that the rules define": its front, and then the payload of the chunk
pub record Becomes (F : List Row) (wish : Bool) (c s : List ℕ) (a : Took) : Type 0 where
  pub first : take a.front a.output ≡ front F s c wish
  pub rest : a.payload ≡ payload c

abbrev pub EncodeMakes : Type 0
EncodeMakes = (F : List Row) (wish : Bool) (c output s : List ℕ) → (encoding F wish c output s).answer.number ≡ 0
    → Becomes F wish c s (encoding F wish c output s).answer

-- 01: "Every call on a lawful share leaves it lawful": for any bytes, and any form that varints have
abbrev pub EncodeStaysLawful : Type 0
EncodeStaysLawful = (form : Form) (wish : Bool) (c output s : List ℕ) → all_le 255 c ≡ true → length s ≡ share_len → lawful Encoder s ≡ true
    → lawful Encoder (encoding (rows form) wish c output s).words ≡ true

-- 01: "All but 0 write nothing to the output and hand back length 0 and an empty payload part .. every other refusal changes nothing, in the encoder too."
pub record Refused (room s : List ℕ) (a : Out Took) : Type 0 where
  pub front : a.answer.front ≡ 0
  pub payload : a.answer.payload ≡ []
  pub untouched : a.answer.output ≡ room
  pub kept : a.words ≡ s

abbrev pub EncodeRefuses : Type 0
EncodeRefuses = (F : List Row) (wish : Bool) (c output s : List ℕ) → ((encoding F wish c output s).answer.number ≡ 0 → ⊥)
    → Refused output s (encoding F wish c output s)

abbrev pub EncodePast : Type 0
EncodePast = (F : List Row) (wish : Bool) (c output s : List ℕ) → PastStays output (encoding F wish c output s).answer

-- 01: "property block 16,384 bytes": no number is given for it, since no block of a chunk that keeps the other maxima is longer (D45, D128)
abbrev pub BlockFits : Type 0
BlockFits = (form : Form) (wish : Bool) (c output s : List ℕ) → all_le 255 c ≡ true → length s ≡ share_len
    → (encoding (rows form) wish c output s).answer.number ≡ 0
    → length (bytes_of (rows form) (block_items (rows form) s c (gives_delta (rows form) s c wish))) ≤ block_most

-- 02, order 9: "no accepted chunk reaches the encoder's case for id 16. Show that, and take the case out." In a full object and in a delta, against any reference r
pub record WithoutCase (F : List Row) (t : Track) (c : List ℕ) : Type 0 where
  -- a line for id 16, as for every other id, would add nothing to the fields of an accepted chunk (D142)
  pub same : (delta follow : Bool) (r : List ℕ)
      → field_items F t delta follow r (fields t c) before line_items t delta follow r (fields t c) (line_for 16 lines) F ≡ field_items F t delta follow r (fields t c)
  -- and 16 is listed in id 27 exactly where a delta's reference has an id 16 (D143)
  pub deleted : (delta follow : Bool) (r : List ℕ) → among 16 (gone_of t delta follow r (fields t c) lines) ≡ (delta && has 16 r)

abbrev pub CaseTakenOut : Type 0
CaseTakenOut = (F : List Row) (t : Track) (c : List ℕ) → iv_ok t.protection t.iv_size ≡ true → Hold (accept_rungs F t c) → WithoutCase F t c

-- What is to be shown of the encoder's object, read under the same parameters and reference.
-- ==== What only proofs need
use Rattle.std.specs.Prelude.{ℕ, ◌≡◌, Bool, true, cond, List, [], ◌++◌, length, take, drop}
use Rattle.laws.specs.Tests.{all_le}
use Rattle.laws.specs.Ladder.{Hold}
use Rattle.slots.specs.declared.lawful.Side.TheVariants.{Encoder, Receiver}
use Rattle.share_words.specs.Share.{accepted_at, held_at, share_len}
use Rattle.slots.specs.Share.{track_of, lawful as lawful_share}
use Rattle.locmaf_read_events.specs.Values.{boxes as boxes_of}
use Rattle.receiver.specs.Object.{is_delta, head_rungs, payload as payload_of}
use Rattle.receiver.specs.Receive.{held_ok, judge_rungs, new_set, prft as prft_read, events as events_read, brands as brands_read, bmdt as bmdt_read}
use Rattle.cmaf_read_chunk.specs.Accepted.{prft, brands, boxes, payload, fields}
use Rattle.encoder.specs.Object.{gives_delta, object_of}
use Rattle.encoder.specs.Encode.{encoding}
use Rattle.cmaf_read_facts.specs.Given.{F}

-- the shares of the two sides have the same parameters, and the same from the mark of the reference on
pub record Alike (s s' : List ℕ) : Type 0 where
  pub parameters : take accepted_at s ≡ take accepted_at s'
  pub reference : drop held_at s ≡ drop held_at s'

-- the object o of the chunk c, encoded on the share s, is received on the share s' as what it was made of
pub record ReadAs (o s s' c : List ℕ) (delta : Bool) : Type 0 where
  -- it is a delta where it was written as one
  pub kind : is_delta F o ≡ delta
  -- no rule refuses it but that of the room: its header and length, the reference it needs, and all that is in its block
  pub heads : Hold (head_rungs F o)
  pub held : held_ok F o s' ≡ true
  pub judged : Hold (judge_rungs F o s')
  -- the set of moof fields, the `prft`, the events and the payload are the chunk's; so are the brands, which a delta leaves out
  pub set : new_set F o s' ≡ fields (track_of s) c
  pub time : (prft_read F o s').prft ≡ prft c
  pub list : boxes_of (track_of s) (bmdt_read F o s') (events_read F o s') ≡ boxes c
  pub names : brands_read F o s' ≡ cond delta [] (brands c)
  pub rest : payload_of F o ≡ payload c

-- of every chunk of bytes that the encoder takes, on lawful shares
abbrev pub ObjectReads : Type 0
ObjectReads = (wish : Bool) (c s s' room : List ℕ) → all_le 255 c ≡ true → length s ≡ share_len → length s' ≡ share_len
    → lawful_share Encoder s ≡ true → lawful_share Receiver s' ≡ true → Alike s s' → (encoding F wish c room s).answer.number ≡ 0
    → ReadAs (object_of F s c (gives_delta F s c wish) ++ payload c) s s' c (gives_delta F s c wish)

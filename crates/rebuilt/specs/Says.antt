-- What is to be shown of the chunk that is written from a set.
-- ==== What only proofs need
use Rattle.std.specs.Prelude.{ℕ, ◌≡◌, true, List}
use Rattle.laws.specs.Tests.{all_le}
use Rattle.laws.specs.Ladder.{Hold}
use Rattle.track.specs.declared.Track.{Track}
use Rattle.track.specs.declared.Asked.{Asked}
use Rattle.track.specs.Track.{narrow, lawful as lawful_track}
use Rattle.prft_value.specs.declared.Prft.{Prft}
use Rattle.event_value.specs.Events.{Event as Box}
use Rattle.cmaf_read_chunk.specs.Accepted.{prft, brands, boxes, payload, fields, accept_rungs}
use Rattle.cmaf_read_facts.specs.Given.{F, Given}
use Rattle.rebuilt.specs.Chunk.{chunk_of}

-- it is a list of bytes
abbrev pub FrontBytes : Type 0
FrontBytes = (a : Asked) (sequence : ℕ) (w : List ℕ) (p : Prft) (es : List Box) (names bs : List ℕ) → lawful_track a ≡ true
    → Given (narrow a) w p es names bs → all_le 255 (chunk_of (narrow a) sequence w p es names bs) ≡ true

-- no rule refuses it
abbrev pub FrontAccepted : Type 0
FrontAccepted = (a : Asked) (sequence : ℕ) (w : List ℕ) (p : Prft) (es : List Box) (names bs : List ℕ) → lawful_track a ≡ true
    → Given (narrow a) w p es names bs → Hold (accept_rungs F (narrow a) (chunk_of (narrow a) sequence w p es names bs))

-- and it says what it was written from
pub record SaysBack (t : Track) (c w : List ℕ) (p : Prft) (es : List Box) (names bs : List ℕ) : Type 0 where
  pub set : fields t c ≡ w
  pub time : prft c ≡ p
  pub list : boxes c ≡ es
  pub brands-are : brands c ≡ names
  pub rest : payload c ≡ bs

abbrev pub FrontSays : Type 0
FrontSays = (a : Asked) (sequence : ℕ) (w : List ℕ) (p : Prft) (es : List Box) (names bs : List ℕ) → lawful_track a ≡ true
    → Given (narrow a) w p es names bs → SaysBack (narrow a) (chunk_of (narrow a) sequence w p es names bs) w p es names bs

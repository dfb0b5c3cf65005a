-- Demand 2, of any codec: "Every chunk that no rule refuses becomes, given room, the one object that the rules define, and every object is read as they define. The
-- encoder's object, read with room under the same parameters and reference, gives a head with the same meaning, the same payload bytes, and a reference equal to the
-- encoder's. Each chunk so rebuilt, encoded again from the starting reference with the same wish, gives the same object."
-- What the rules define is said by their definitions alone, and the codec is held to it.
-- ==== What is shown of the rules
use Rattle.std.specs.Prelude.{ℕ, ◌≤◌, ◌<◌, ◌≡◌, Bool, true, false, cond, ◌&&◌, List, [], ◌∷◌, ◌++◌, length, take, drop, replicate}
use Rattle.laws.specs.Tests.{all_le}
use Rattle.laws.specs.Ladder.{Rung, ◌else◌, Hold}
use Rattle.track.specs.declared.Asked.{Asked}
use Rattle.slots.specs.declared.lawful.Side.{Side}
use Rattle.slots.specs.declared.lawful.Side.TheVariants.{Encoder, Receiver}
use Rattle.share_words.specs.Share.{accepted_at, held_at, share_len, table_len, slot_count}
use Rattle.slots.specs.Share.{track_of, lawful}
use Rattle.slots.specs.Table.{Out, share_at, itself}
use Rattle.slots.specs.Calls.{opened_rungs, opening, grouping}
use Rattle.slots.specs.Laws.{after}
use Rattle.answers.specs.Took.{Took}
use Rattle.cmaf_read_chunk.specs.Accepted.{accept_rungs, payload}
use Rattle.encoder.specs.Object.{gives_delta, fits_ok, front}
use Rattle.encoder.specs.Encode.{kept}
use Rattle.receiver.specs.Receive.{receiving, chunk}
use Rattle.meaning.specs.Meaning.{Meaning, meaning_of, unbranded}
use Rattle.cmaf_read_facts.specs.Given.{F}
use Rattle.demands.specs.Codec.{Codec, gave}

-- ---- what the rules define

-- a chunk, with the wish and the room that it is encoded with
pub record Send : Type 0 where
  pub wish : Bool
  pub chunk : List ℕ
  pub room : List ℕ

-- on the share s of an encoder
module _ (p : Send) (s : List ℕ) where
  abbrev pub is_delta : Bool
  is_delta = gives_delta F s p.chunk p.wish

  abbrev pub object_front : List ℕ
  object_front = front F s p.chunk p.wish

  -- "the one object that the rules define": its front, and then the chunk's payload
  abbrev pub object : List ℕ
  object = object_front ++ payload p.chunk

  -- 01's order line but for the room: 18, 2, "5, 6, 8, 7, 9"
  abbrev pub rules : List Rung
  rules = opened_rungs Encoder s ++ (accept_rungs F (track_of s) p.chunk ++ ((fits_ok F s p.chunk p.wish else 9) ∷ []))

  -- "Every chunk that no rule refuses .., given room" (D131)
  pub record Sends : Type 0 where
    pub hold : Hold rules
    pub room : length object_front ≤ length p.room

  -- "becomes .. the one object that the rules define"; 01: "Done reports the front's length". The reference is the chunk's, so that the object after it is the
  -- rules' too
  pub record Becomes (a : Out Took) : Type 0 where
    pub done : a.answer.number ≡ 0
    pub long : a.answer.front ≡ length object_front
    pub gives : gave a.answer ≡ object
    pub part : a.answer.payload ≡ payload p.chunk
    pub words : a.words ≡ kept F p.wish p.chunk p.room s

  -- nothing is sent. 01: "every other refusal changes nothing, in the encoder too"
  pub record Unsent (a : Out Took) : Type 0 where
    pub refused : a.answer.number ≡ 0 → ⊥
    pub nothing : gave a.answer ≡ []
    pub words : a.words ≡ s

  -- 01: "Same meaning: .. but for that number, box choice, and `styp` on a delta". A meaning has neither that number nor a choice of boxes (D133)
  abbrev pub carried : Meaning → Meaning
  carried m = cond is_delta (unbranded m) m

  -- "read with room": room for the front of the chunk, on the share s' of a receiver (D131)
  abbrev pub Roomy : List ℕ → List ℕ → Type 0
  Roomy s' room = length (chunk F object s') ≤ length room

-- the shares of an encoder and of a receiver, both lawful, "under the same parameters"
pub record Beside (s s' : List ℕ) : Type 0 where
  pub encoder-long : length s ≡ share_len
  pub receiver-long : length s' ≡ share_len
  pub encoder-lawful : lawful Encoder s ≡ true
  pub receiver-lawful : lawful Receiver s' ≡ true
  pub parameters : take accepted_at s ≡ take accepted_at s'

-- "under the same parameters and reference" (D132)
pub record Paired (s s' : List ℕ) : Type 0 where
  pub beside : Beside s s'
  pub reference : drop held_at s ≡ drop held_at s'

-- without room: 17, nothing is handed out, and the share s' stays, so that the object can be given again (D135)
pub record Short (s' : List ℕ) (a : Out Took) : Type 0 where
  pub number : a.answer.number ≡ 17
  pub nothing : gave a.answer ≡ []
  pub words : a.words ≡ s'

-- ---- what a codec makes of it

-- what happens to an encoder's share and a receiver's
pub data Call : Type 0 where
  -- a group starts, on both sides
  start : Call
  -- a chunk is encoded; its object, if there is one, is given to the receiver with each of these rooms in turn, until one is long enough. If none is, it is lost
  carry : Send → List (List ℕ) → Call

module _ (C : Codec) where
  abbrev pub sent : Send → List ℕ → Out Took
  sent p s = C.encode p.wish p.chunk p.room s

  -- "The encoder's object, read"
  abbrev pub got : Send → List ℕ → List ℕ → List ℕ → Out Took
  got p s s' room = C.receive (gave (sent p s).answer) room s'

  pub record RoundTrip (p : Send) (s s' room : List ℕ) : Type 0 where
    -- "The encoder's object, read with room under the same parameters and reference, gives"
    pub done : (got p s s' room).answer.number ≡ 0
    pub long : (got p s s' room).answer.front ≡ length (chunk F (object p s) s')
    -- "a head with the same meaning"
    pub meaning : meaning_of (track_of s) (gave (got p s s' room).answer) ≡ carried p s (meaning_of (track_of s) p.chunk)
    -- "the same payload bytes"
    pub part : (got p s s' room).answer.payload ≡ payload p.chunk
    -- "and a reference equal to the encoder's."
    pub reference : drop held_at (got p s s' room).words ≡ drop held_at (sent p s).words
    -- "Each chunk so rebuilt, encoded again from the starting reference with the same wish, gives the same object." (D136)
    pub again : (C.encode p.wish (gave (got p s s' room).answer) p.room s).answer ≡ (sent p s).answer

  -- the object of a chunk given with each room in turn: too short, and nothing changes; or long enough, and then it goes on from the share that the receiver has
  abbrev pub Tried : Send → List ℕ → List ℕ → List (List ℕ) → (List ℕ → Type 0) → Type 0 → Type 0
  Tried p s s' [] then lost = lost
  Tried p s s' (room ∷ rooms) then lost =
      (Roomy p s s' room → RoundTrip p s s' room × then (got p s s' room).words)
      × ((Roomy p s s' room → ⊥) → Short s' (got p s s' room) × Tried p s (got p s s' room).words rooms then lost)

  -- any calls, each on the shares that the one before it left. Behind is a receiver that lost an object: it may have taken any calls since, so that its share is any
  -- lawful one with the same parameters, and no more is said of it up to the next full object or the next start of a group (D134, D135)
  abbrev pub AllMet : Bool → List Call → List ℕ → List ℕ → Type 0
  AllMet behind [] s s' = Unit {0}
  AllMet behind (start ∷ calls) s s' = AllMet false calls (grouping Encoder s).words (grouping Receiver s').words
  AllMet behind (carry p rooms ∷ calls) s s' =
      let next : List ℕ = (sent p s).words in
      let lost : Type 0 = (any : List ℕ) → Beside next any → AllMet true calls next any in
      all_le 255 p.chunk ≡ true
      → (Sends p s → Becomes p s (sent p s)
      × ((behind && is_delta p s) ≡ false → Tried p s s' rooms (λ (next' : List ℕ). AllMet false calls next next') lost)
      × ((behind && is_delta p s) ≡ true → lost))
      × ((Sends p s → ⊥) → Unsent p s (sent p s) × AllMet behind calls next s')

  -- ---- the demand

  -- for one object
  pub record DemandTwo : Type 0 where
    -- "Every chunk that no rule refuses becomes, given room, the one object that the rules define"
    pub becomes : (p : Send) (s : List ℕ) → length s ≡ share_len → all_le 255 p.chunk ≡ true → Sends p s → Becomes p s (sent p s)
    -- and no other chunk becomes one
    pub refuses : (p : Send) (s : List ℕ) → length s ≡ share_len → all_le 255 p.chunk ≡ true → (Sends p s → ⊥) → Unsent p s (sent p s)
    -- "and every object is read as they define": any bytes, on any share, with any room
    pub reads : (o room s : List ℕ) → length s ≡ share_len → all_le 255 o ≡ true → C.receive o room s ≡ receiving F o room s
    -- "The encoder's object, read with room under the same parameters and reference, gives .."
    pub trips : (p : Send) (s s' room : List ℕ) → Paired s s' → all_le 255 p.chunk ≡ true → Sends p s → Roomy p s s' room → RoundTrip p s s' room

  -- 01: "at every object of a group": for runs of any calls
  abbrev pub DemandTwoRuns : Type 0
  DemandTwoRuns = (calls : List Call) (s s' : List ℕ) → Paired s s' → AllMet false calls s s'

-- ---- from fresh tables

-- the share of a slot that was opened on a table of zeros
abbrev pub opened_at : Side → Asked → ℕ → List ℕ
opened_at side a slot = share_at (after itself (opening side a) slot (replicate table_len 0)) slot

-- any slot of an encoder's fresh table and any of a receiver's, opened with the same parameters: any calls
abbrev pub DemandTwoFresh : Codec → Type 0
DemandTwoFresh C = (a : Asked) (i j : ℕ) → i < slot_count → j < slot_count → (calls : List Call) → AllMet C false calls (opened_at Encoder a i) (opened_at Receiver a j)

-- What the code works out before it writes.
-- ==== What only mirrors the code
use Rattle.std.specs.Prelude.{ℕ, ◌+◌, ◌≤◌, ◌≡◌, Bool, true, false, ◌&&◌, Option, List, length, get_or, drop}
use Rattle.std.specs.Option.{IfSome}
use Rattle.constants.specs.Maxima.{brand_bytes_most, event_bytes_most}
use Rattle.wire.specs.declared.form.Row.{Row}
use Rattle.wire.specs.Varint.{size_of}
use Rattle.laws.specs.Options.{is_some, on_option}
use Rattle.laws.specs.Writes.{Wrote}
use Rattle.field_table.specs.Lines.{set_len}
use Rattle.field_set.specs.Lawful.{lawful}
use Rattle.effective.specs.Sizes.{Sized}
use Rattle.slots.specs.declared.lawful.Side.TheVariants.{Encoder}
use Rattle.share_words.specs.Share.{share_len, accepted_at, held_at, last_at, set_at}
use Rattle.counters.specs.Follow.{ivs_follow}
use Rattle.slots.specs.Share.{is_open, lawful as lawful_share}
use Rattle.reference.specs.Kept.{kept_words}
use Rattle.track.specs.declared.Track.{Track}
use Rattle.byte_parts.specs.declared.Part.{Part}
use Rattle.cmaf_read_chunk.specs.declared.read.Chunk.{Chunk}
use Rattle.cmaf_read_chunk.specs.Accepted.{bytes_at, brands_of}
use Rattle.cmaf_read_chunk.specs.Chunks.{Accepted}
use Rattle.locmaf_write_tuples.specs.Items.{Items, ◌before◌, bytes_of, weight_most}
use Rattle.locmaf_write_prft.specs.Prft.{times_items, version_items, flags_items}
use Rattle.locmaf_write_events.specs.Records.{AllWords, AllIn, sent_of, list_bytes}
use Rattle.encoder.specs.declared.front.Plan.{Plan}
use Rattle.answers.specs.declared.answer.Answer.{Answer}
use Rattle.encoder.specs.Object.{track, header_of, brand_items, event_items, block_items, object_of, gives_delta, fits_ok}

-- what stands in a `styp`: nothing, or n bytes with a brand and a version at least, at most 16 brands and a version
pub record BrandBytes (n : ℕ) : Type 0 where
  pub long : (n ≡ 0 → ⊥) → 8 ≤ n
  pub few : n ≤ brand_bytes_most + 4

-- the brands from a `styp` whose body is the part p
abbrev pub brands_at : List ℕ → Part → List ℕ
brands_at c p = brands_of (bytes_at c p)

-- what stands between the fields of the `moof` and the deletions, by what was read: the `prft`, the brands and the events
unfoldable pub outside_items : List Row → Track → Bool → List ℕ → List ℕ → Chunk → ℕ → List ℕ → Items
outside_items F t delta s c k bmdt ws =
    times_items F delta s k.prft
    before version_items F delta s k.prft
    before brand_items delta (brands_at c k.brands)
    before flags_items F delta s k.prft
    before event_items F (sent_of t bmdt c ws k.events)

-- k events of c as words, whose records have so many bytes
pub record Recorded (F : List Row) (t : Track) (bmdt : ℕ) (c ws : List ℕ) (k list : ℕ) : Type 0 where
  pub words : AllWords ws k
  pub inside : AllIn c ws k
  pub list-is : list ≡ list_bytes F (sent_of t bmdt c ws k)
  pub short : list ≤ event_bytes_most

-- a chunk on a lawful share that is open
pub record OnShare (F : List Row) (t : Track) (s c : List ℕ) : Type 0 where
  pub share : length s ≡ share_len
  pub lawful-share : lawful_share Encoder s ≡ true
  pub opened : is_open s ≡ true
  pub track-is : t ≡ track F s c

-- it was accepted, and its set is whole and lawful, with sizes that the payload has
pub record Encodable (F : List Row) (t : Track) (s c : List ℕ) (k : Chunk) (ws x : List ℕ) : Type 0 where
  pub on-share : OnShare F t s c
  pub accepted : Accepted F t c k ws x
  pub set_long : length x ≡ set_len
  pub lawful-set : lawful t x ≡ true
  pub sized : Sized x k.payload.len
  pub brand-bytes : BrandBytes k.brands.len

-- what was read is that of some chunk; whatever is said of it holds of each that it was read from
abbrev pub ReadOfOne : List Row → Track → List ℕ → Chunk → List ℕ → List ℕ → Type 0
ReadOfOne F t s k ws x = (c : List ℕ) × Encodable F t s c k ws x

abbrev pub OfEach : List Row → Track → List ℕ → Chunk → List ℕ → List ℕ → (List ℕ → Type 0) → Type 0
OfEach F t s k ws x P = (c : List ℕ) → Encodable F t s c k ws x → P c

-- a delta has a reference to go by
abbrev pub Held : Bool → List ℕ → Type 0
Held delta s = delta ≡ true → (get_or s held_at 0 ≡ 0 → ⊥)

-- whether the IVs of the set x are left out, whatever its payload: the size of a sample that isn't the last doesn't go by it
abbrev pub Leaves : Track → Bool → List ℕ → List ℕ → Bool → Type 0
Leaves t delta s x follow = (payload : ℕ) → follow ≡ (delta && ivs_follow t (get_or s last_at 0) (drop set_at s) x payload)

-- the bytes before the payload, by the plan
unfoldable pub front_bytes : List Row → Plan → ℕ
front_bytes F a = size_of F (header_of a.delta) + (size_of F a.block + a.block)

-- an object of the planned kind can be written, with a block of the planned length
pub record Sendable (F : List Row) (s c : List ℕ) (a : Plan) : Type 0 where
  pub held : Held a.delta s
  pub all-fit : is_some (block_items F s c a.delta) ≡ true
  pub block : a.block ≡ length (bytes_of F (block_items F s c a.delta))

-- what was planned was sent, and answered: the front is written, and the reference kept
pub record WrittenAs (F : List Row) (s c : List ℕ) (a : Plan) (k : Chunk) (x output : List ℕ) (r : Answer) (after words : List ℕ) : Type 0 where
  pub answer : r ≡ record { front = r.front; payload = k.payload }
  pub written : Wrote output 0 (object_of F s c a.delta) after r.front
  pub kept : words ≡ kept_words a.delta (get_or s accepted_at 0) k.prft x k.payload.len s

-- the plan of an object: its kind, and its block's length
pub record Planned (F : List Row) (s c : List ℕ) (wish : Bool) (a : Plan) : Type 0 where
  pub kind : a.delta ≡ gives_delta F s c wish
  pub all-fit : is_some (block_items F s c a.delta) ≡ true
  pub block : a.block ≡ length (bytes_of F (block_items F s c a.delta))
  pub small : a.block ≤ weight_most

-- a plan, or none: 9
pub record PlannedAs (F : List Row) (s c : List ℕ) (wish : Bool) (o : Option Plan) : Type 0 where
  pub answered : is_some o ≡ fits_ok F s c wish
  pub plan : IfSome o (Planned F s c wish)

-- the kind of object that was weighed last: the planned one, and a full one where none fits
abbrev pub planned_delta : Option Plan → Bool
planned_delta o = on_option o (λ a. a.delta) false

abbrev pub planned_follow : Option Plan → Bool
planned_follow o = on_option o (λ a. a.follow) false

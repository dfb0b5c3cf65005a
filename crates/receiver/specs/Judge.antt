-- What the code works out of an object before it acts.
-- ==== What only mirrors the code
use Rattle.std.specs.Prelude.{ℕ, ◌+◌, ◌-◌, ◌≤◌, ◌<◌, ◌≡◌, Bool, true, false, cond, not, ◌&&◌, ◌||◌, List, ◌++◌, eqb, leb, length, get_or, replicate, drop, set, Result, Ok}
use Rattle.std.proofs.Math.Seq.{slice}
use Rattle.laws.specs.Ladder.{Rung, ladder, Hold}
use Rattle.laws.specs.Tests.{◌and◌}
use Rattle.refusal.specs.declared.Refusal.{Refusal}
use Rattle.refusal.specs.Numbers.{number_in}
use Rattle.constants.specs.Maxima.{block_most, number_most, payload_most, brand_bytes_most, events_most, event_bytes_most}
use Rattle.wire.specs.declared.form.Row.{Row}
use Rattle.track.specs.declared.Track.{Track}
use Rattle.field_table.specs.Lines.{bmdt_at}
use Rattle.field_set.specs.Lawful.{has, lawful as lawful_set}
use Rattle.told_sizes.specs.Sums.{Summable}
use Rattle.effective.specs.Sums.{sizes_ok, protected_ok}
use Rattle.counters.specs.Follow.{derived_fit, with_derived}
use Rattle.slots.specs.declared.lawful.Side.TheVariants.{Receiver}
use Rattle.share_words.specs.Share.{share_len, last_at, set_at}
use Rattle.slots.specs.Share.{is_open, lawful}
use Rattle.locmaf_read_index.specs.Held.{Tells}
use Rattle.event_value.specs.Events.{events_len, events_of, EventsFit}
use Rattle.locmaf_read_index.specs.Places.{stands_at, number_at}
use Rattle.locmaf_read_set.specs.Read.{set_rungs, new_words}
use Rattle.cmaf_write_front.specs.Writable.{Writable}
use Rattle.locmaf_read_said.specs.Said.{says_in, scalar_in, Telling}
use Rattle.locmaf_read_head.specs.declared.head.Place.{Place}
use Rattle.locmaf_read_head.specs.Head.{place_of}
use Rattle.locmaf_read_times.specs.Bmdt.{bmdt_of}
use Rattle.locmaf_read_times.specs.Prft.{prft_of}
use Rattle.locmaf_read_events.specs.Events.{EventsRead, events_ok}
use Rattle.locmaf_read_events.specs.Values.{boxes}
use Rattle.byte_parts.specs.declared.Part.{Part}
use Rattle.receiver.specs.declared.judge.Judged.{Judged}
use Rattle.receiver.specs.declared.judge.Values.{Values}
use Rattle.receiver.specs.Object.{is_delta, block_at, block_end, block_length, saying, payload}
use Rattle.receiver.specs.Receive.{track, reference, bmdt, prft, events, brands, new_set, chunk, held_ok, split_rungs, value_rungs, judge_rungs}

-- the bytes of an odd id, by the index
unfoldable pub part_in : List ℕ → ℕ → Part
part_in index id =
    cond (eqb (get_or index (stands_at id) 0) 0) (record { at = 0; len = 0 })
    (record { at = get_or index (stands_at id) 0 - 1; len = get_or index (number_at id) 0 })

-- what the values of an object are by its index, and whether they are within their maxima, but for those of single events; a BMDT past its maximum may not be there
pub record ValuesTold (t : Track) (delta : Bool) (payload events : ℕ) (s index : List ℕ) (v : Values) : Type 0 where
  pub start : leb (bmdt_of t (scalar_in index 10) (drop set_at s)) number_most ≡ true → v.bmdt.0 ≡ bmdt_of t (scalar_in index 10) (drop set_at s)
  pub time : v.prft ≡ (prft_of delta (scalar_in index) s).prft
  pub named : v.brands ≡ part_in index 23
  pub tested : v.ok
      ≡ (leb (bmdt_of t (scalar_in index 10) (drop set_at s)) number_most
      && ((prft_of delta (scalar_in index) s).ok
      && (leb payload payload_most
      && (leb v.brands.len brand_bytes_most && (leb events events_most && leb (get_or index (number_at 25) 0) event_bytes_most)))))

-- whether sizes and protected sums agree, by the words of the set
abbrev pub sums_in : Track → List ℕ → ℕ → Bool
sums_in t x payload = sizes_ok t x payload and protected_ok t x payload

-- an object whose head was read, and the share that it is received on
pub record Judgeable (F : List Row) (o s : List ℕ) (t : Track) (p : Place) : Type 0 where
  pub share : length s ≡ share_len
  pub lawful : lawful Receiver s ≡ true
  pub opened : is_open s ≡ true
  pub held : held_ok F o s ≡ true
  pub track : t ≡ track F o s
  pub place : p ≡ place_of (is_delta F o) (block_at F o) (block_end F o)
  pub inside : block_end F o ≤ length o
  pub block : block_length F o ≤ block_most

-- a block was split: its index, and the words of its events
pub record Split (F : List Row) (o : List ℕ) (index events : List ℕ) : Type 0 where
  pub telling : Telling F o index
  pub says : says_in F o index ≡ saying F o
  pub list : Tells F o (block_end F o) index (replicate events_len 0) events 25 (saying F o 25)
  pub long : length events ≡ events_len

pub record SplitAs (F : List Row) (o s : List ℕ) (number : ℕ) (index events : List ℕ) : Type 0 where
  pub answered : number ≡ ladder (split_rungs F o s) (λ k. k) 0
  pub split : number ≡ 0 → Split F o index events

-- and the set of moof fields was read: every rule of it holds, and x has its words, but for BMDT
pub record SetRead (F : List Row) (o s : List ℕ) (t : Track) (p : Place) (index events x : List ℕ) : Type 0 where
  pub head : Judgeable F o s t p
  pub split : Split F o index events
  pub hold : Hold (set_rungs t (is_delta F o) (reference F o s) (saying F o))
  pub words : x ≡ new_words t (is_delta F o) (reference F o s) (saying F o) 0

-- the rules of the block and of its set
abbrev pub read_rungs : List Row → List ℕ → List ℕ → List Rung
read_rungs F o s = split_rungs F o s ++ set_rungs (track F o s) (is_delta F o) (reference F o s) (saying F o)

-- both were asked: the number, and what was read where it is 0
pub record BlockReadAs (F : List Row) (o s : List ℕ) (t : Track) (p : Place) (number : ℕ) (index events x : List ℕ) : Type 0 where
  pub answered : number ≡ ladder (read_rungs F o s) (λ k. k) 0
  pub read : number ≡ 0 → SetRead F o s t p index events x

-- what the rules on values and sums are asked of: what was told, the words of k events, and those of the set, which have no BMDT yet
pub record Testable (o : List ℕ) (v : Values) (payload : ℕ) (events : List ℕ) (k : ℕ) (x : List ℕ) : Type 0 where
  pub long : length events ≡ events_len
  pub room : bmdt_at < length x
  pub fit : v.ok ≡ true → EventsFit o events k
  pub summable : v.ok ≡ true → Summable (set x bmdt_at v.bmdt.0)
  pub small : v.ok ≡ true → payload ≤ payload_most

-- the number of the first that is broken, and what the words have become where the values are right
pub record TestedAs (t : Track) (o : List ℕ) (v : Values) (payload : ℕ) (events : List ℕ) (k : ℕ) (x : List ℕ) (number : ℕ) (ws y : List ℕ) : Type 0 where
  pub out : v.ok ≡ false → number ≡ 15
  pub read : v.ok ≡ true → EventsRead t v.bmdt.0 o events k (events_ok v.bmdt.0 o k events) ws
  pub event : v.ok ≡ true → events_ok v.bmdt.0 o k events ≡ false → number ≡ 15
  pub stored : v.ok ≡ true → events_ok v.bmdt.0 o k events ≡ true → y ≡ set x bmdt_at v.bmdt.0
  pub sums : v.ok ≡ true → events_ok v.bmdt.0 o k events ≡ true → number ≡ cond (sums_in t (set x bmdt_at v.bmdt.0) payload) 0 16

-- the IVs of the set x were left out, by the index
unfoldable pub left_in : Bool → List ℕ → List ℕ → List ℕ → Bool
left_in delta s index x = delta && (eqb (get_or index (stands_at 9) 0) 0 && (has 9 (drop set_at s) && has 9 x))

-- they were derived where they were left out: the number, and where it is 0 the words
pub record IvsAs (t : Track) (delta : Bool) (s index x : List ℕ) (payload number : ℕ) (after : List ℕ) : Type 0 where
  pub answered : number ≡ cond (not (left_in delta s index x) || derived_fit t (get_or s last_at 0) (drop set_at s) x payload) 0 21
  pub stored : number ≡ 0 → after ≡ cond (left_in delta s index x) (with_derived t (get_or s last_at 0) (drop set_at s) x payload) x
  pub long : length after ≡ length x

-- the scratch words have all that the front is made of
pub record Ready (F : List Row) (o s : List ℕ) (j : Judged) (ws x : List ℕ) : Type 0 where
  pub words : x ≡ new_set F o s
  pub time : j.prft ≡ (prft F o s).prft
  pub list : events_of o ws j.events ≡ boxes (track F o s) (bmdt F o s) (events F o s)
  pub inside : j.brands.at + j.brands.len ≤ length o
  pub named : slice j.brands.at (j.brands.at + j.brands.len) o ≡ brands F o s
  pub good : lawful_set (track F o s) x ≡ true
  pub writable : Writable (track F o s) x (length (payload F o)) j.prft o ws j.events (brands F o s)

-- and the object that it is made for can be accepted
pub record Acceptable (F : List Row) (o s : List ℕ) (t : Track) (p : Place) (j : Judged) (ws x : List ℕ) : Type 0 where
  pub head : Judgeable F o s t p
  pub ready : Ready F o s j ws x

-- and the output has room for the front, whose brands are lent as such
pub record Roomy (F : List Row) (o s : List ℕ) (t : Track) (p : Place) (j : Judged) (ws x names : List ℕ) (need : ℕ) (output : List ℕ) : Type 0 where
  pub acceptable : Acceptable F o s t p j ws x
  pub named : names ≡ brands F o s
  pub needed : need ≡ length (chunk F o s)
  pub room : need ≤ length output

pub record JudgedAs (rungs : List Rung) (F : List Row) (o s : List ℕ) (r : Result Judged Refusal) (ws x : List ℕ) : Type 0 where
  pub answered : number_in r ≡ ladder rungs (λ k. k) 0
  pub ready : (j : Judged) → r ≡ Ok j → Ready F o s j ws x

-- from the split of the block on, and from the values of what isn't a moof field on
abbrev pub AllJudged : List Row → List ℕ → List ℕ → Result Judged Refusal → List ℕ → List ℕ → Type 0
AllJudged F o s r ws x = JudgedAs (judge_rungs F o s) F o s r ws x

abbrev pub ValuesJudged : List Row → List ℕ → List ℕ → Result Judged Refusal → List ℕ → List ℕ → Type 0
ValuesJudged F o s r ws x = JudgedAs (value_rungs F o s) F o s r ws x

-- an object whose head was read, and of which every rule but that of room was asked
pub record Decided (F : List Row) (o s : List ℕ) (t : Track) (p : Place) (r : Result Judged Refusal) (ws x : List ℕ) : Type 0 where
  pub head : Judgeable F o s t p
  pub judged : AllJudged F o s r ws x

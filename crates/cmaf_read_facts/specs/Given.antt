-- What a chunk that no rule refuses gives: all that an object is made of.
use Rattle.std.specs.Prelude.{ℕ, ◌-◌, ◌%◌, ◌^◌, ◌≤◌, ◌≡◌, true, false, List, length, get_or}
use Rattle.constants.specs.Maxima.{brand_bytes_most, events_most, event_bytes_most, payload_most, number_most}
use Rattle.laws.specs.Tests.{all_le, no_zero}
use Rattle.laws.specs.Each.{AllOf}
use Rattle.laws.specs.Ladder.{Hold}
use Rattle.wire.specs.declared.form.Row.{Row}
use Rattle.wire.specs.declared.form.Form.TheVariants.{Rfc9000}
use Rattle.wire.specs.Form.{rows}
use Rattle.track.specs.declared.Track.{Track}
use Rattle.track.specs.Track.{u32, iv_ok}
use Rattle.field_table.specs.Lines.{set_len, bmdt_at}
use Rattle.field_set.specs.Lawful.{has, lawful, value_at, count_in}
use Rattle.prft_value.specs.declared.Prft.{Prft}
use Rattle.prft_value.specs.Prft.{absent_prft, media_most}
use Rattle.event_value.specs.Events.{Event as Box}
use Rattle.effective.specs.Sizes.{size_of}
use Rattle.cmaf_read_trun.specs.Samples.{each_from}
use Rattle.cmaf_read_samples.specs.Sizes.{all_same}
use Rattle.locmaf_write_events.specs.Records.{all_sent, list_bytes}
use Rattle.effective.specs.Sums.{sizes_ok, protected_ok}
use Rattle.cmaf_read_chunk.specs.Accepted.{bmdt, prft, brands, boxes, payload, fields, accept_rungs}

-- ==== The rules

-- the form of numbers on the wire
abbrev pub F : List Row
F = rows Rfc9000

-- ==== What only proofs need

-- a `prft` as its box has it; nothing is stored of one that doesn't stand
pub record BoxedPrft (p : Prft) : Type 0 where
  pub none : p.stands ≡ false → p ≡ absent_prft
  pub ntp : p.ntp.0 ≤ 2 ^ 64 - 1
  pub media : p.media.0 ≤ media_most p.version
  pub version : p.version ≤ 1
  pub flags : p.flags ≤ 2 ^ 24 - 1

-- an event as its box has it
pub record BoxedEvent (e : Box) : Type 0 where
  pub scale : e.timescale ≡ 0 → ⊥
  pub scale-low : e.timescale ≤ u32
  pub time : e.time ≤ 2 ^ 64 - 1
  pub duration : e.duration ≤ u32
  pub id : e.id ≤ u32
  pub scheme : no_zero e.scheme ≡ true
  pub value : no_zero e.value ≡ true
  pub scheme-bytes : all_le 255 e.scheme ≡ true
  pub value-bytes : all_le 255 e.value ≡ true
  pub message-bytes : all_le 255 e.message ≡ true

abbrev pub AllBoxed : List Box → Type 0
AllBoxed = AllOf BoxedEvent

-- a set that a chunk with n bytes of payload gives: a lawful one that says nothing that its absence would say
pub record Canonical (t : Track) (w : List ℕ) (n : ℕ) : Type 0 where
  pub long : length w ≡ set_len
  pub is_lawful : lawful t w ≡ true
  pub description : has 2 w ≡ true → value_at 2 0 w ≡ t.description → ⊥
  pub duration : has 4 w ≡ true → value_at 4 0 w ≡ t.duration → ⊥
  pub flags : has 8 w ≡ true → value_at 8 0 w ≡ t.flags → ⊥
  pub several : has 6 w ≡ true → 2 ≤ count_in w
  pub size : has 6 w ≡ true → value_at 6 0 w ≡ t.size → t.size ≡ 0
  pub unequal : has 1 w ≡ true → all_same (size_of t w n 0) (each_from (size_of t w n) (count_in w) 0) ≡ false
  pub no-iv-size : has 16 w ≡ false
  pub sizes : sizes_ok t w n ≡ true
  pub protected : protected_ok t w n ≡ true

-- all that an object is made of, with the maxima
pub record Given (t : Track) (w : List ℕ) (p : Prft) (es : List Box) (names bs : List ℕ) : Type 0 where
  pub set : Canonical t w (length bs)
  pub prft : BoxedPrft p
  pub boxed : AllBoxed es
  pub few : length es ≤ events_most
  pub names-few : length names ≤ brand_bytes_most
  pub fours : length names % 4 ≡ 0
  pub bytes : (all_le 255 names ≡ true) × (all_le 255 bs ≡ true)
  pub short : length bs ≤ payload_most
  pub list-short : list_bytes F (all_sent t (get_or w bmdt_at 0) es) ≤ event_bytes_most

-- of any chunk that no rule refuses
abbrev pub ChunkGives : Type 0
ChunkGives = (t : Track) (c : List ℕ) → all_le 255 c ≡ true → iv_ok t.protection t.iv_size ≡ true → Hold (accept_rungs F t c)
    → bmdt c ≤ number_most → Given t (fields t c) (prft c) (boxes c) (brands c) (payload c)

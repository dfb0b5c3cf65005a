-- A chunk as a list of boxes: what a front and its payload are; and that what it is written from fits these boxes.
-- ==== What only proofs need
use Rattle.std.specs.Prelude.{ℕ, ◌+◌, ◌^◌, ◌≤◌, ◌<◌, ◌≡◌, true, List, ◌++◌, length, get_or}
use Rattle.constants.specs.Maxima.{samples_most, payload_most, block_most, brand_bytes_most}
use Rattle.laws.specs.Each.{AllOf}
use Rattle.track.specs.declared.Track.{Track}
use Rattle.field_table.specs.Lines.{bmdt_at}
use Rattle.field_set.specs.Lawful.{has, value_at, count_in}
use Rattle.boxes.specs.Box.{box}
use Rattle.boxes.specs.Box as B
use Rattle.cmaf_write_senc.specs.Protection.{Protectable}
use Rattle.prft_value.specs.declared.Prft.{Prft}
use Rattle.event_value.specs.Events.{Event}
use Rattle.cmaf_write_prelude.specs.Prelude.{styp_box, prft_box}
use Rattle.cmaf_write_emsg.specs.Emsg.{emsg_boxes}
use Rattle.effective.specs.Sizes.{size_of}
use Rattle.cmaf_write_moof.specs.Moof.{moof_box, moof_whole}

-- the boxes of the chunk with the payload bs
unfoldable pub chunk_of : Track → ℕ → List ℕ → Prft → List Event → List ℕ → List ℕ → List ℕ
chunk_of t sequence w p events brands bs =
    styp_box brands ++ (prft_box t p ++ (emsg_boxes events ++ (moof_whole t sequence w (length bs) ++ box B.mdat bs)))

-- an event whose box has a size of 32 bits
pub record Short (e : Event) : Type 0 where
  pub scheme : length e.scheme ≤ block_most
  pub value : length e.value ≤ block_most
  pub message : length e.message ≤ block_most

abbrev pub AllShort : List Event → Type 0
AllShort = AllOf Short

-- what keeps every box's size within 32 bits
pub record Sizable (t : Track) (w : List ℕ) (p : Prft) (events : List Event) (brands bs : List ℕ) : Type 0 where
  pub set : Protectable t w
  pub events-short : AllShort events
  pub brands-few : length brands ≤ brand_bytes_most
  pub payload-few : length bs ≤ payload_most

-- numbers that fit the fields of the `tfhd`
pub record Narrow (t : Track) (w : List ℕ) : Type 0 where
  pub track : t.id < 2 ^ 32
  pub description : has 2 w ≡ true → value_at 2 0 w < 2 ^ 32
  pub duration : has 4 w ≡ true → value_at 4 0 w < 2 ^ 32

-- and the columns of the `trun`
pub record Columns (t : Track) (w : List ℕ) (payload : ℕ) : Type 0 where
  pub few : count_in w ≤ samples_most
  pub duration : has 3 w ≡ true → (i : ℕ) → i < count_in w → value_at 3 i w < 2 ^ 32
  pub size : (i : ℕ) → i < count_in w → size_of t w payload i < 2 ^ 32

-- every box has a size of 32 bits, and the numbers fit their fields
pub record Fits (t : Track) (sequence : ℕ) (w : List ℕ) (p : Prft) (es : List Event) (names bs : List ℕ) : Type 0 where
  pub sizable : Sizable t w p es names bs
  pub narrow : Narrow t w
  pub columns : Columns t w (length bs)
  pub time : get_or w bmdt_at 0 < 2 ^ 64
  pub offset : length (moof_box t sequence w (length bs) 0) + 8 < 2 ^ 31

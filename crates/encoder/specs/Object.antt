-- The object that a chunk becomes. 01, "Full objects", "Delta objects", "Events".
-- ==== The rules
use Rattle.std.specs.Prelude.{ℕ, Bool, true, false, cond, not, ◌&&◌, ◌||◌, List, [], ◌∷◌, ◌++◌, eqb, leb, length, get_or, drop, Some, None}
use Rattle.laws.specs.Tests.{◌and◌}
use Rattle.constants.specs.Ids.{full_id, delta_id}
use Rattle.constants.specs.Maxima.{number_most}
use Rattle.wire.specs.declared.form.Row.{Row}
use Rattle.wire.specs.Varint.{encode}
use Rattle.laws.specs.Options.{is_some}
use Rattle.block_items.specs.Events.{Event, enc_events}
use Rattle.block_items.specs.Items.{run}
use Rattle.track.specs.declared.Track.{Track}
use Rattle.prft_value.specs.declared.Prft.{Prft}
use Rattle.share_words.specs.Share.{held_at, prft_at, last_at, set_at}
use Rattle.slots.specs.Share.{track_of}
use Rattle.locmaf_write_events.specs.Records.{times_fit}
use Rattle.cmaf_read_chunk.specs.Accepted.{bmdt, prft, brands, events, payload, fields}
use Rattle.counters.specs.Follow.{ivs_follow}
use Rattle.locmaf_write_tuples.specs.Items.{Items, nothing, ◌before◌, items_if, bytes_of}
use Rattle.locmaf_write_block.specs.Fields.{field_items, deletion_items}
use Rattle.locmaf_write_prft.specs.Prft.{times_items, version_items, flags_items}

-- 01: "Id 23 from `styp`", in a full object; in a delta "Id 23 never" (D61)
unfoldable pub brand_items : Bool → List ℕ → Items
brand_items delta names = items_if (not delta && not (eqb (length names) 0)) (Some (run 23 names ∷ []))

-- 01: "25 from `emsg`"; in a delta "25 whole"
unfoldable pub event_items : List Row → List Event → Items
event_items F [] = nothing
event_items F (e ∷ es) = cond (times_fit F (e ∷ es)) (Some (run 25 (enc_events F (e ∷ es)) ∷ [])) None

-- 01: "Full objects (23)", "Delta objects (25)"
unfoldable pub header_of : Bool → ℕ
header_of delta = cond delta delta_id full_id

-- 01: "A wish for delta gives a delta exactly when a reference is held, a `prft` has one in that full object, .." (D62)
unfoldable pub may_delta : List ℕ → Prft → Bool → Bool
may_delta s p wish = wish && (not (eqb (get_or s held_at 0) 0) && (not p.stands || not (eqb (get_or s prft_at 0) 0)))

-- the chunk c on the share s
module _ (F : List Row) (s c : List ℕ) where
  abbrev pub track : Track
  track = track_of s

  -- the reference's set
  abbrev pub reference : List ℕ
  reference = drop set_at s

  -- 02, order 6: "For cenc, .. for deltas: if each IV follows, .. id 9 is omitted"; "in a full object, id 9 always stands" (D150)
  unfoldable pub leaves_out : Bool → Bool
  leaves_out delta = delta && ivs_follow track (get_or s last_at 0) reference (fields track c) (length (payload c))

  -- 01: "The encoder writes them ascending": ids 1 to 15, 18 and 20, 22, 23, 24, 25, 27 (D72)
  unfoldable pub block_items : Bool → Items
  block_items delta =
      field_items F track delta (leaves_out delta) reference (fields track c)
      before times_items F delta s (prft c)
      before version_items F delta s (prft c)
      before brand_items delta (brands c)
      before flags_items F delta s (prft c)
      before event_items F (events track c)
      before deletion_items F track delta (leaves_out delta) reference (fields track c)

  -- a header, the block's length, and the block
  unfoldable pub object_of : Bool → List ℕ
  object_of delta =
      let block = bytes_of F (block_items delta) in
      encode F (header_of delta) ++ (encode F (length block) ++ block)

  -- ".. and every number in it fits; otherwise a full object": any number that is too wide in the delta makes it a full object (D60)
  unfoldable pub gives_delta : Bool → Bool
  gives_delta wish = may_delta s (prft c) wish and is_some (block_items true)

  -- 9: "chunk: BMDT past its maximum, whatever the wish; or, where no delta is given, a number too wide in the full object" (D56, D58)
  unfoldable pub fits_ok : Bool → Bool
  fits_ok wish = leb (bmdt c) number_most and (gives_delta wish || is_some (block_items false))

  -- all of the object before the payload
  unfoldable pub front : Bool → List ℕ
  front wish = object_of (gives_delta wish)

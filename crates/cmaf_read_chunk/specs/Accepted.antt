-- A chunk for a track, by 01's order of answers: "Then the encoder: 5, 6, 8, 7". Each step looks at the whole chunk before the next.
-- ==== The rules
use Rattle.std.specs.Prelude.{ℕ, Bool, ◌&&◌, List, [], ◌∷◌, ◌++◌, leb, take, drop}
use Rattle.std.proofs.Math.Seq.{slice}
use Rattle.laws.specs.Tests.{◌and◌}
use Rattle.laws.specs.Ladder.{Rung, ◌else◌}
use Rattle.wire.specs.declared.form.Row.{Row}
use Rattle.constants.specs.Maxima.{samples_most, subsamples_most, events_most, event_bytes_most, payload_most, brands_most}
use Rattle.cmaf_read_tree.specs.Whole.{whole}
use Rattle.track.specs.declared.Track.{Track}
use Rattle.byte_parts.specs.declared.Part.{Part}
use Rattle.cmaf_read_shape.specs.declared.top.Top.{Top}
use Rattle.cmaf_read_shape.specs.declared.inner.Inner.{Inner}
use Rattle.cmaf_read_shape.specs.Parts.{body_of, end_of}
use Rattle.cmaf_read_shape.specs.Top.{top_of}
use Rattle.cmaf_read_shape.specs.Inner.{inner_of}
use Rattle.prft_value.specs.declared.Prft.{Prft}
use Rattle.event_value.specs.Events.{Event as Box, events_of}
use Rattle.cmaf_read_prelude.specs.Styp.{brands_in}
use Rattle.cmaf_read_prelude.specs.Prft.{prft_of}
use Rattle.cmaf_read_prelude.specs.Emsg.{emsg_words}
use Rattle.cmaf_read_moof.specs.Headers.{bmdt_of}
use Rattle.cmaf_read_trun.specs.Rows.{count_of}
use Rattle.cmaf_read_senc.specs.Entries.{senc_count, subsamples}
use Rattle.cmaf_read_senc.specs.Sizes.{saiz_count}
use Rattle.block_items.specs.Events.{Event}
use Rattle.locmaf_write_events.specs.Records.{all_sent, list_bytes}
use Rattle.cmaf_read_boxes.specs.Right.{boxes_ok}
use Rattle.cmaf_read_rules.specs.Rules.{rules_ok}
use Rattle.cmaf_read_set.specs.Set.{chunk_set}

-- the bytes of a part
abbrev pub bytes_at : List ℕ → Part → List ℕ
bytes_at c p = slice p.at (end_of p) c

-- the brands of a `styp` without its minor version: the major brand, and the compatible ones
unfoldable pub brands_of : List ℕ → List ℕ
brands_of body = take 4 body ++ drop 8 body

module _ (c : List ℕ) where
  -- what stands where
  abbrev pub top : Top
  top = top_of c

  abbrev pub inner : Inner
  inner = inner_of c top.moof

  -- ---- what the chunk says

  unfoldable pub bmdt : ℕ
  bmdt = bmdt_of c inner.tfdt

  -- the events as their boxes have them
  unfoldable pub boxes : List Box
  boxes = events_of c (emsg_words c top.events top.emsgs.at) top.events

  unfoldable pub prft : Prft
  prft = prft_of c top.prft

  unfoldable pub brands : List ℕ
  brands = brands_of (bytes_at c (body_of top.styp))

  unfoldable pub payload : List ℕ
  payload = bytes_at c (body_of top.mdat)

-- the events as they stand on the wire
unfoldable pub events : Track → List ℕ → List Event
events t c = all_sent t (bmdt c) (boxes c)

-- the set of moof fields
unfoldable pub fields : Track → List ℕ → List ℕ
fields t c = chunk_set t c (inner c)

-- ---- its number

-- 01: "Maxima: 64 samples and 256 subsamples a chunk; 16 brands; 16 emsg records in 4,096 list bytes; .. payload 16,777,216 bytes". 8: "a count or length past
-- its maximum", of every box that counts, whatever else is wrong with it (D23, D24, D31, D44)
abbrev pub samples_few : List ℕ → Inner → Bool
samples_few c f =
    leb (count_of c f.trun) samples_most && (leb (senc_count c f.senc) samples_most && leb (saiz_count c f.saiz) samples_most)

unfoldable pub counts_ok : Track → List ℕ → Bool
counts_ok t c =
    samples_few c (inner c)
    && (leb (subsamples t c (inner c).senc) subsamples_most
    && (leb (brands_in (top c).styp) brands_most && (leb (top c).events events_most && leb (body_of (top c).mdat).len payload_most)))

unfoldable pub maxima_ok : List Row → Track → List ℕ → Bool
maxima_ok F t c = counts_ok t c and leb (list_bytes F (events t c)) event_bytes_most

-- 8: "chunk: a count or length past its maximum"; 7: "chunk: any other rule of "The chunk accepted" broken"
unfoldable pub late_rungs : List Row → Track → List ℕ → List Rung
late_rungs F t c = (maxima_ok F t c else 8) ∷ (rules_ok t c (top c) (inner c) (boxes c) else 7) ∷ []

-- 5: "chunk: the tree of boxes is broken"; 6: "chunk: wrong box, order, version, flags or box length" (D21, D54)
unfoldable pub accept_rungs : List Row → Track → List ℕ → List Rung
accept_rungs F t c = (whole c else 5) ∷ (boxes_ok t c else 6) ∷ late_rungs F t c

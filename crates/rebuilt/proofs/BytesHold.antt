-- The chunk that is written is a list of bytes: each of its lists is put together from numbers as bytes and from texts. Assumes nothing.
use Prim.Native.Nat.{ℕ, zero, suc, ◌+◌, ◌≤◌}
use native.Mathlib.Omega.{arith}
use mathlib.Core.Path.{◌≡◌, refl, sym, ◌∙◌, ap}
use mathlib.Core.Bool.{Bool, true, false, cond, ◌||◌}
use mathlib.Core.List.{List, [], ◌∷◌, ◌++◌}
use borrow.Author.Tests.{le-leb}
use lib.ListN.{length, take, drop, take-append-drop}
use Rattle.laws.specs.Bytes.{be}
use Rattle.laws.specs.Tests.{all_le}
use Rattle.laws.proofs.TestLaws.{left, right, both, all_le-append}
use Rattle.track.specs.declared.Track.{Track}
use Rattle.track.specs.Track.{narrow}
use Rattle.field_set.specs.Lawful.{has, count_in, value_at}
use Rattle.boxes.specs.Box.{box, full_box, when, flag_when}
use Rattle.cmaf_write_senc.specs.Protection.{Protectable}
use Rattle.cmaf_write_senc.specs.Protected.{iv_bytes, subsamples, senc_entries, senc_box}
use Rattle.cmaf_write_saiz.specs.Saiz.{info_size, info_sizes, all_sized, saiz_box, saio_box}
use Rattle.cmaf_write_moof.specs.Moof.{protection, mfhd_box, tfhd_box, tfdt_box, trun_row, trun_rows, trun_box, plain, moof_box, moof_whole}
use Rattle.cmaf_write_saiz.proofs.InfoLaws.{info-small}
use Rattle.event_value.specs.Events.{Event}
use Rattle.cmaf_write_prelude.specs.Prelude.{styp_box, media_bytes, prft_box}
use Rattle.cmaf_write_emsg.specs.Emsg.{emsg_box, emsg_boxes}
use Rattle.cmaf_read_facts.specs.Given.{AllBoxed}
use Rattle.rebuilt.specs.Chunk.{chunk_of}
use Rattle.rebuilt.specs.Says.{FrontBytes}
use Rattle.rebuilt.proofs.FitLaws.{given-fits}

-- a record, so that the list is found from the fact
record Low (l : List ℕ) : Type 0 where
  low : all_le 255 l ≡ true

none-low : Low []
unfolding all_le
none-low = record { low = refl }

byte_low : (v : ℕ) (l : List ℕ) → v ≤ 255 → Low l → Low (v ∷ l)
unfolding all_le
byte_low v l b h = record { low = both _ _ (le-leb v 255 b) h.low }

zero-low : (l : List ℕ) → Low l → Low (0 ∷ l)
zero-low l h = byte_low 0 l (omega arith) h

be-low : (k v : ℕ) → Low (be k v)
unfolding be
be-low zero v = none-low
be-low (suc k) v = byte_low _ _ (omega arith) (be-low k v)

append-low : {xs ys : List ℕ} → Low xs → Low ys → Low (xs ++ ys)
append-low {xs} {ys} a b = record { low = all_le-append 255 xs ys ∙ both _ _ a.low b.low }

cond-low : (b : Bool) (xs ys : List ℕ) → Low xs → Low ys → Low (cond b xs ys)
cond-low true xs ys h k = h
cond-low false xs ys h k = k

box-low : (type : ℕ) (body : List ℕ) → Low body → Low (box type body)
unfolding box
box-low type body h = search (be-low, append-low)

full-low : (type version flags : ℕ) (body : List ℕ) → Low body → Low (full_box type version flags body)
unfolding full_box
full-low type version flags body h = search (be-low, append-low, box-low)

ruleset lows = (none-low, zero-low, be-low, append-low, cond-low, box-low, full-low)

-- ---- the boxes before the moof

styp-low : (bs : List ℕ) → all_le 255 bs ≡ true → Low (styp_box bs)
unfolding styp_box
styp-low [] h = none-low
styp-low (b ∷ bs) h =
    let e = sym (all_le-append 255 (take 4 (b ∷ bs)) (drop 4 (b ∷ bs))) ∙ ap (all_le 255) (take-append-drop 4 (b ∷ bs)) ∙ h in
    let front : Low (take 4 (b ∷ bs)) = record { low = left _ _ e } in
    let rest : Low (drop 4 (b ∷ bs)) = record { low = right _ _ e } in
    search lows

emsgs-low : (es : List Event) → AllBoxed es → Low (emsg_boxes es)
unfolding emsg_boxes emsg_box
emsgs-low [] h = none-low
emsgs-low (e ∷ es) h =
    let scheme : Low e.scheme = record { low = h.0.scheme-bytes } in
    let value : Low e.value = record { low = h.0.value-bytes } in
    let message : Low e.message = record { low = h.0.message-bytes } in
    let others = emsgs-low es h.1 in
    search lows depth 14

-- ---- the moof

rows-low : (t : Track) (w : List ℕ) (payload k i : ℕ) → Low (trun_rows t w payload k i)
unfolding trun_rows trun_row
rows-low t w payload zero i = none-low
rows-low t w payload (suc k) i = let later = rows-low t w payload k (suc i) in search lows depth 12

iv-low : (w : List ℕ) (k i : ℕ) → Low (iv_bytes w k i)
unfolding iv_bytes
iv-low w zero i = none-low
iv-low w (suc k) i = append-low (be-low 8 _) (iv-low w k (suc i))

pairs-low : (w : List ℕ) (k j : ℕ) → Low (subsamples w k j)
unfolding subsamples
pairs-low w zero j = none-low
pairs-low w (suc k) j = append-low (be-low 2 _) (append-low (be-low 4 _) (pairs-low w k (suc j)))

entries-low : (t : Track) (w : List ℕ) (k i j : ℕ) → Low (senc_entries t w k i j)
unfolding senc_entries
entries-low t w zero i j = none-low
entries-low t w (suc k) i j =
    let others = entries-low t w k (suc i) (j + flag_when (has 11 w) (value_at 11 i w)) in search (lows, iv-low, pairs-low) depth 9

module _ (t : Track) (w : List ℕ) (p : Protectable t w) where
  sizes-low : (k i : ℕ) → i + k ≤ count_in w → Low (info_sizes t w k i)
  unfolding info_sizes
  sizes-low zero i h = none-low
  sizes-low (suc k) i h = byte_low _ _ (omega (arith, info-small p i (omega arith))) (sizes-low k (suc i) (omega arith))

  saiz-low : 1 ≤ count_in w → Low (saiz_box t w)
  unfolding saiz_box
  saiz-low some =
      full-low _ 0 0 _
      (cond-low (all_sized t w (info_size t w 0) (count_in w) 0) _ _ (byte_low (info_size t w 0) _ (omega (arith, info-small p 0 some)) (be-low 4 (count_in w)))
      (zero-low _ (append-low (be-low 4 (count_in w)) (sizes-low (count_in w) 0 (omega arith)))))

  protection-low : (place : ℕ) → Low (protection t w place)
  unfolding protection senc_box saio_box
  protection-low place = by (has 9 w || has 11 w) refl
    where
      by : (b : Bool) → (has 9 w || has 11 w) ≡ b → Low (when b (senc_box t w ++ (saiz_box t w ++ saio_box (place + 16))))
      by true e = let sizes = saiz-low (p.some e) in search (lows, entries-low) depth 9
      by false e = none-low

  moof-low : (sequence payload offset : ℕ) → Low (moof_box t sequence w payload offset)
  unfolding moof_box plain mfhd_box tfhd_box tfdt_box trun_box
  moof-low sequence payload offset = search (lows, rows-low, protection-low) depth 16

-- the whole chunk
pub front-bytes : FrontBytes
unfolding chunk_of moof_whole prft_box media_bytes
front-bytes a sequence w p es names bs ok g =
    let moof = moof-low (narrow a) w (given-fits a sequence w p es names bs ok g).sizable.set sequence (length bs) in
    let brands = styp-low names g.bytes.0 in
    let events = emsgs-low es g.boxed in
    let payload : Low bs = record { low = g.bytes.1 } in
    let all : Low (chunk_of (narrow a) sequence w p es names bs) = search lows depth 14 in
    all.low

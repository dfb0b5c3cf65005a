-- The chunk that is written is a whole tree of boxes: each list in it is one box of its type, with a size that 32 bits have. Assumes nothing.
use Prim.Native.Nat.{ℕ, ◌+◌, ◌/◌, ◌≤◌}
use native.Mathlib.Omega.{arith}
use mathlib.Core.Path.{◌≡◌, refl, sym, ◌∙◌, ap}
use mathlib.Core.Bool.{Bool, true, false, ◌||◌}
use mathlib.Core.List.{List, [], ◌++◌, append_assoc, append-nil}
use lib.ListN.{length, length-append}
use Rattle.constants.specs.Maxima.{samples_most, payload_most}
use Rattle.laws.specs.Bytes.{be}
use Rattle.laws.proofs.BytesLaws.{length-be}
use Rattle.track.specs.declared.Track.{Track}
use Rattle.field_set.specs.Lawful.{has, count_in}
use Rattle.boxes.specs.Box.{box, flag_when}
use Rattle.boxes.specs.Box as B
use Rattle.boxes.proofs.BoxLaws.{length-box, length-full_box}
use Rattle.cmaf_read_tree.specs.Whole.{container, whole}
use Rattle.cmaf_read_tree.proofs.WholeLaws.{whole-empty}
use Rattle.cmaf_read_shape.proofs.OneBoxLaws.{OneBox, leaf-box, leaf-full, one-front, maybe-front}
use Rattle.cmaf_write_senc.specs.Protection.{Protectable}
use Rattle.cmaf_write_saiz.specs.Saiz.{info_size, all_sized, saiz_box, saio_box}
use Rattle.cmaf_write_senc.specs.Protected.{senc_box}
use Rattle.cmaf_write_moof.specs.Moof.{protection, mfhd_box, tfhd_flags, tfhd_box, tfdt_box, trun_flags, trun_box, plain, moof_box, moof_whole}
use Rattle.cmaf_write_saiz.proofs.SaizLaws.{saio-length, saiz-length-same, saiz-length-other}
use Rattle.cmaf_write_moof.proofs.ProtectionLaws.{protection-none, protection-all, protection-length}
use Rattle.cmaf_write_senc.proofs.SencLaws.{entry_head, senc-length, heads-small}
use Rattle.prft_value.specs.declared.Prft.{Prft}
use Rattle.event_value.specs.Events.{Event}
use Rattle.cmaf_write_front.specs.Front.{front}
use Rattle.cmaf_write_moof.specs.Lengths.{tfhd_length, row_length, trun_length, plain_length}
use Rattle.cmaf_write_moof.proofs.MoofLaws.{flag-low, tfhd-length, tfdt-length, trun-length, plain-length, rows-small}
use Rattle.rebuilt.specs.Chunk.{chunk_of, Sizable}
use Rattle.rebuilt.proofs.OuterRead.{styp-box, prft-box, emsgs-front}

-- a front and its payload are the boxes of the chunk
pub front-is : (t : Track) (sequence : ℕ) (w : List ℕ) (p : Prft) (events : List Event) (brands bs : List ℕ)
    → front t sequence w (length bs) p events brands ++ bs ≡ chunk_of t sequence w p events brands bs
unfolding front chunk_of box
front-is t sequence w p events brands bs = simp append_assoc

-- ---- the moof

-- each is one box, with a bound on its length
pub mfhd-box : (sequence : ℕ) → OneBox B.mfhd (mfhd_box sequence)
unfolding mfhd_box container
mfhd-box sequence = leaf-full B.mfhd 0 0 _ (simp (length-full_box, length-be) (omega arith)) (omega arith) refl

pub tfdt-box : (w : List ℕ) → OneBox B.tfdt (tfdt_box w)
unfolding tfdt_box container
tfdt-box w = leaf-full B.tfdt 1 0 _ (omega (arith, tfdt-length w)) (omega arith) refl

pub saio-box : (offset : ℕ) → OneBox B.saio (saio_box offset)
unfolding saio_box container
saio-box offset = leaf-full B.saio 0 0 _ (omega (arith, saio-length offset)) (omega arith) refl

tfhd-low : (w : List ℕ) → tfhd_length w ≤ 28
unfolding tfhd_length
tfhd-low w = omega (arith, flag-low (has 2 w) 4, flag-low (has 4 w) 4, flag-low (has 8 w) 4)

rows-low : (w : List ℕ) → row_length w ≤ 16
unfolding row_length
rows-low w = omega (arith, flag-low (has 3 w) 4, flag-low (has 7 w) 4, flag-low (has 5 w) 4)

trun-low : (w : List ℕ) → count_in w ≤ samples_most → trun_length w ≤ 1048
unfolding trun_length
trun-low w h = omega (arith, flag-low (has 12 w) 4, rows-small (count_in w) (row_length w) h (rows-low w))

module _ (t : Track) (w : List ℕ) (s : Protectable t w) where
  pub tfhd-box : OneBox B.tfhd (tfhd_box t w)
  unfolding tfhd_box container
  tfhd-box = leaf-full B.tfhd 0 (tfhd_flags w) _ (omega (arith, tfhd-length t w, tfhd-low w)) (omega arith) refl

  pub trun-box : (payload offset : ℕ) → OneBox B.trun (trun_box t w payload offset)
  unfolding trun_box container
  trun-box payload offset =
      leaf-full B.trun 1 (trun_flags w) _ (omega (arith, trun-length t w payload offset, trun-low w s.few)) (omega arith) refl

  senc-low : length (senc_box t w) ≤ 2704
  senc-low =
      let head : entry_head t w ≤ 18 = omega (arith, s.iv, flag-low (has 9 w) (t.iv_size / 8), flag-low (has 11 w) 2) in
      omega (arith, senc-length t w s.long s.few, heads-small {n = count_in w} {h = entry_head t w} s.few head, s.pairs)

  pub senc-box : OneBox B.senc (senc_box t w)
  unfolding senc_box container
  senc-box = leaf-full B.senc 0 (flag_when (has 11 w) 2) _ (omega (arith, senc-low)) (omega arith) refl

  saiz-low : length (saiz_box t w) ≤ 81
  saiz-low = by (all_sized t w (info_size t w 0) (count_in w) 0) refl
    where
      by : (b : Bool) → all_sized t w (info_size t w 0) (count_in w) 0 ≡ b → length (saiz_box t w) ≤ 81
      by true e = omega (arith, saiz-length-same t w {v = info_size t w 0} refl (sym e) refl)
      by false e = omega (arith, saiz-length-other t w {v = info_size t w 0} refl (sym e) refl, s.few)

  pub saiz-box : OneBox B.saiz (saiz_box t w)
  unfolding saiz_box container
  saiz-box = leaf-full B.saiz 0 0 _ (omega (arith, saiz-low)) (omega arith) refl

  -- the boxes of protected samples: three or none
  last-boxes : (place : ℕ) → (whole (protection t w place) ≡ true) × (length (protection t w place) ≤ 2805)
  last-boxes place = by (has 9 w || has 11 w) refl
    where
      by : (b : Bool) → (has 9 w || has 11 w) ≡ b → (whole (protection t w place) ≡ true) × (length (protection t w place) ≤ 2805)
      by true e = (
        rw (protection-all t w place e, ← append-nil (saio_box (place + 16)))
            (one-front senc-box _ ∙ one-front saiz-box _ ∙ one-front (saio-box (place + 16)) [] ∙ whole-empty [] refl),
        omega (arith, protection-length t w place e, senc-low, saiz-low),
      )
      by false e = rw (protection-none t w place e) (whole-empty [] refl, omega arith)

  module _ (sequence payload offset : ℕ) where
    abbrev place : ℕ
    place = 8 + (length (mfhd_box sequence) + (8 + length (plain t w payload offset)))

    abbrev inside : List ℕ
    inside = plain t w payload offset ++ protection t w place

    pub inside-low : length inside ≤ 3901
    unfolding plain_length
    inside-low =
        let n = length-append (plain t w payload offset) (protection t w place) in
        omega (arith, n, plain-length t w payload offset, tfhd-low w, trun-low w s.few, (last-boxes place).1)

    inside-whole : whole inside ≡ true
    unfolding plain
    inside-whole =
        simp append_assoc
        (one-front tfhd-box _ ∙ one-front (tfdt-box w) _ ∙ one-front (trun-box payload offset) _ ∙ (last-boxes place).0)

    traf-box : OneBox B.traf (box B.traf inside)
    traf-box =
        record { body = inside; is = refl; fits = omega (arith, length-box B.traf inside, inside-low); small = omega arith; inner = λ _. inside-whole }

    pub body-low : length (mfhd_box sequence ++ box B.traf inside) ≤ 3925
    unfolding mfhd_box
    body-low =
        let n = length-append (mfhd_box sequence) (box B.traf inside) in
        omega (arith, n, length-full_box B.mfhd 0 0 (be 4 sequence), length-be 4 sequence, length-box B.traf inside, inside-low)

    pub moof-box : OneBox B.moof (moof_box t sequence w payload offset)
    unfolding moof_box
    moof-box =
        record {
          body = mfhd_box sequence ++ box B.traf inside;
          is = refl;
          fits = omega (arith, length-box B.moof (mfhd_box sequence ++ box B.traf inside), body-low);
          small = omega arith;
          inner = λ _. one-front (mfhd-box sequence) _ ∙ ap whole (sym (append-nil (box B.traf inside))) ∙ one-front traf-box [] ∙ whole-empty [] refl;
        }

pub mdat-box : (bs : List ℕ) → length bs ≤ payload_most → OneBox B.mdat (box B.mdat bs)
unfolding container
mdat-box bs h = leaf-box B.mdat bs (omega (arith, length-box B.mdat bs)) (omega arith) refl

-- the chunk is whole
pub chunk_whole : (t : Track) (sequence : ℕ) (w : List ℕ) (p : Prft) (events : List Event) (brands bs : List ℕ)
    → Sizable t w p events brands bs → whole (chunk_of t sequence w p events brands bs) ≡ true
unfolding chunk_of moof_whole
chunk_whole t sequence w p events brands bs h =
    maybe-front (styp-box brands h.brands-few) _
    ∙ maybe-front (prft-box t p) _
    ∙ emsgs-front events _ h.events-short
    ∙ one-front (moof-box t w h.set sequence (length bs) _) (box B.mdat bs)
    ∙ ap whole (sym (append-nil (box B.mdat bs)))
    ∙ one-front (mdat-box bs h.payload-few) []
    ∙ whole-empty [] refl

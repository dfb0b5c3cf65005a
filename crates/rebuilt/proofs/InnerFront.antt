-- The boxes inside the `moof` that is written, and their places. Assumes nothing.
use Prim.Native.Nat.{ℕ, ◌+◌}
use native.Mathlib.Nat.{add-zero}
use native.Mathlib.Omega.{arith}
use mathlib.Core.Path.{◌≡◌, refl, subst}
use mathlib.Core.Bool.{Bool, true, false, ◌||◌}
use mathlib.Core.List.{List, [], ◌++◌, append_assoc, append-nil}
use lib.ListN.{length}
use Rattle.track.specs.declared.Track.{Track}
use Rattle.field_set.specs.Lawful.{has}
use Rattle.boxes.specs.Box.{box}
use Rattle.boxes.specs.Box as B
use Rattle.boxes.proofs.BoxLaws.{length-box}
use Rattle.byte_parts.specs.declared.Part.{Part}
use Rattle.cmaf_read_shape.specs.declared.inner.Inner.{Inner}
use Rattle.cmaf_read_shape.specs.Parts.{part}
use Rattle.cmaf_read_shape.specs.Inner.{pick_of, last_of, traf_of, inner_of}
use Rattle.cmaf_write_senc.specs.Protection.{Protectable}
use Rattle.cmaf_write_senc.specs.Protected.{senc_box}
use Rattle.cmaf_write_saiz.specs.Saiz.{saiz_box, saio_box}
use Rattle.cmaf_write_moof.specs.Moof.{protection, mfhd_box, tfhd_box, tfdt_box, trun_box, plain, moof_box}
use Rattle.cmaf_write_moof.proofs.ProtectionLaws.{protection-none, protection-all}
use Rattle.cmaf_read_shape.specs.Left.{Left}
use Rattle.cmaf_read_shape.proofs.LeftLaws.{left-past, left-box, left-none-any, left-inside, body-part}
use Rattle.cmaf_read_shape.proofs.OneBoxLaws.{one_found, one-any}
use Rattle.rebuilt.proofs.WholeFront.{mfhd-box, tfhd-box, tfdt-box, trun-box, senc-box, saiz-box, saio-box, inside-low}

-- ---- the boxes of protected samples: three or none

-- as the reader finds them
pub record Last : Type 0 where
  pub senc : Part
  pub saiz : Part
  pub saio : Part
  pub end : ℕ

module _ (t : Track) (w : List ℕ) (at place : ℕ) where
  abbrev pub last_by : Bool → Last
  last_by true =
      record {
        senc = part at (length (senc_box t w));
        saiz = part (at + length (senc_box t w)) (length (saiz_box t w));
        saio = part (at + length (senc_box t w) + length (saiz_box t w)) (length (saio_box (place + 16)));
        end = at + length (senc_box t w) + length (saiz_box t w) + length (saio_box (place + 16));
      }
  last_by false = record { senc = part at 0; saiz = part at 0; saio = part at 0; end = at + 0 + 0 + 0 }

  module _ {c : List ℕ} {end : ℕ} (h : Left c at end (protection t w place)) where
    -- what stands there, in each case
    pub left-three : (has 9 w || has 11 w) ≡ true → Left c at end (senc_box t w ++ (saiz_box t w ++ (saio_box (place + 16) ++ [])))
    left-three e = rw (append-nil, ← protection-all t w place e) h

    pub left-none : (has 9 w || has 11 w) ≡ false → Left c at end []
    left-none e = rw (protection-none t w place e) at h

    -- the reader finds them
    abbrev Finds : Bool → Type 0
    Finds b = last_of c at end ≡ record { senc = (last_by b).senc; saiz = (last_by b).saiz; saio = (last_by b).saio; end = (last_by b).end }

    last-is : Protectable t w → Finds (has 9 w || has 11 w)
    unfolding last_of pick_of
    last-is s = by (has 9 w || has 11 w) refl
      where
        by : (b : Bool) → (has 9 w || has 11 w) ≡ b → Finds b
        by true e =
            let l = left-three e in
            let l₁ = left-past (senc_box t w) _ l in
            rw (one-any (senc-box t w s) _ l, one-any (saiz-box t w s) _ l₁, one-any (saio-box (place + 16)) [] (left-past (saiz_box t w) _ l₁))
        by false e =
            let q = left-none-any (left-none e) in rw (q, add-zero at, q, add-zero at, q)

-- ---- all of them

module _ (at : ℕ) (t : Track) (sequence : ℕ) (w : List ℕ) (payload offset : ℕ) where
  -- where the boxes of protected samples stand, from the start of the `moof`
  abbrev pub place_of : ℕ
  place_of = 8 + (length (mfhd_box sequence) + (8 + length (plain t w payload offset)))

  abbrev pub inside_of : List ℕ
  inside_of = plain t w payload offset ++ protection t w place_of

  abbrev body : List ℕ
  body = mfhd_box sequence ++ box B.traf inside_of

  -- where each starts and where the lists end: the places are those that the reader adds up
  abbrev pub traf_at : ℕ
  traf_at = at + 8 + length (mfhd_box sequence)

  abbrev pub inside_end : ℕ
  inside_end = traf_at + 8 + length inside_of

  abbrev tfdt_at : ℕ
  tfdt_at = traf_at + 8 + length (tfhd_box t w)

  abbrev trun_at : ℕ
  trun_at = tfdt_at + length (tfdt_box w)

  abbrev pub last_at : ℕ
  last_at = trun_at + length (trun_box t w payload offset)

  -- all boxes, with those that are last
  abbrev pub inner_by : Last → Inner
  inner_by last =
      record {
        mfhd = part (at + 8) (length (mfhd_box sequence));
        traf = part traf_at (8 + length inside_of);
        tfhd = part (traf_at + 8) (length (tfhd_box t w));
        tfdt = part tfdt_at (length (tfdt_box w));
        trun = part trun_at (length (trun_box t w payload offset));
        senc = last.senc;
        saiz = last.saiz;
        saio = last.saio;
        end = last.end;
      }

  -- the `moof` by its body
  pub moof-long : length (moof_box t sequence w payload offset) ≡ 8 + length (mfhd_box sequence ++ box B.traf inside_of)
  unfolding moof_box
  moof-long = length-box B.moof (mfhd_box sequence ++ box B.traf inside_of)

  module _ {c : List ℕ} {end : ℕ} (ys : List ℕ) (h : Left c at end (moof_box t sequence w payload offset ++ ys)) where
    left_body : Left c (at + 8) (at + 8 + length body) body
    unfolding moof_box
    left_body = left-inside B.moof body ys h

    left-traf : Left c traf_at (at + 8 + length body) (box B.traf inside_of ++ [])
    left-traf = rw append-nil (left-past (mfhd_box sequence) (box B.traf inside_of) left_body)

    -- what is left from each of the boxes of the `traf` on
    pub left-tfhd : Left c (traf_at + 8) inside_end (tfhd_box t w ++ (tfdt_box w ++ (trun_box t w payload offset ++ protection t w place_of)))
    unfolding plain
    left-tfhd =
        let e : inside_of ≡ tfhd_box t w ++ (tfdt_box w ++ (trun_box t w payload offset ++ protection t w place_of)) = simp append_assoc in
        subst (λ (q : List ℕ). Left c (traf_at + 8) inside_end q) e (left-inside B.traf inside_of [] left-traf)

    pub left-tfdt : Left c tfdt_at inside_end (tfdt_box w ++ (trun_box t w payload offset ++ protection t w place_of))
    left-tfdt = left-past (tfhd_box t w) _ left-tfhd

    pub left-trun : Left c trun_at inside_end (trun_box t w payload offset ++ protection t w place_of)
    left-trun = left-past (tfdt_box w) _ left-tfdt

    pub left-last : Left c last_at inside_end (protection t w place_of)
    left-last = left-past (trun_box t w payload offset) _ left-trun

    -- the reader finds the boxes that were written
    pub inner-is : Protectable t w
        → inner_of c (part at (length (moof_box t sequence w payload offset))) ≡ inner_by (last_by t w last_at place_of (has 9 w || has 11 w))
    unfolding inner_of traf_of
    inner-is s =
        rw (
          moof-long,
          body-part at (length body),
          one_found (mfhd-box sequence) _ left_body,
          left-box B.traf inside_of [] (omega (arith, inside-low t w s sequence payload offset)) left-traf (omega arith),
          body-part traf_at (length inside_of),
          one_found (tfhd-box t w s) _ left-tfhd,
          one_found (tfdt-box w) _ left-tfdt,
          one_found (trun-box t w s payload offset) _ left-trun,
          last-is t w last_at place_of left-last s,
        )

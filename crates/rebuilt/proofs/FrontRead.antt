-- The boxes of the `moof` that is written, read: they say what the set has. Assumes nothing.
use Prim.Native.Nat.{ℕ, ◌+◌}
use native.Mathlib.Omega.{arith}
use mathlib.Core.Path.{◌≡◌, refl, ap}
use mathlib.Core.Bool.{Bool, true, false, ◌||◌}
use mathlib.Core.List.{List, ◌++◌}
use lib.ListN.{length}
use Rattle.track.specs.declared.Track.{Track}
use Rattle.field_set.specs.Lawful.{has}
use Rattle.boxes.specs.Box.{box}
use Rattle.boxes.specs.Box as B
use Rattle.cmaf_read_shape.specs.declared.inner.Inner.{Inner}
use Rattle.cmaf_read_shape.specs.Inner.{inner_of}
use Rattle.prft_value.specs.declared.Prft.{Prft}
use Rattle.event_value.specs.Events.{Event}
use Rattle.cmaf_write_moof.specs.Moof.{moof_box, moof_whole}
use Rattle.cmaf_read_moof.specs.declared.defaults.Defaults.{Defaults}
use Rattle.cmaf_read_shape.specs.Left.{Left}
use Rattle.rebuilt.specs.Chunk.{chunk_of, Fits}
use Rattle.rebuilt.specs.Read.{Senc, lacks, stands, Read}
use Rattle.rebuilt.proofs.InnerFront.{Last, last_by, left-three, place_of, last_at, inner_by, left-tfhd, left-tfdt, left-trun, left-last, inner-is}
use Rattle.rebuilt.proofs.TfhdBack.{tfhd-back, tfhd-right, tfdt-back, tfdt-right}
use Rattle.rebuilt.proofs.TrunBack.{trun-read}
use Rattle.rebuilt.proofs.TopFront.{left₃, written_top}

module _ (t : Track) (sequence : ℕ) (w : List ℕ) (p : Prft) (es : List Event) (names bs : List ℕ) (f : Fits t sequence w p es names bs) where
  abbrev c : List ℕ
  c = chunk_of t sequence w p es names bs

  abbrev n : ℕ
  n = length bs

  abbrev offset : ℕ
  offset = length (moof_box t sequence w n 0) + 8

  abbrev at : ℕ
  at = (written_top t sequence w p es names bs f.sizable).moof.at

  abbrev last : Bool → Last
  last = last_by t w (last_at at t sequence w n offset) (place_of at t sequence w n offset)

  -- the boxes that are found, and what is left from the `moof` on
  abbrev pub written_inner : Inner
  written_inner = inner_by at t sequence w n offset (last (has 9 w || has 11 w))

  pub left-moof : Left c at (length c) (moof_box t sequence w n offset ++ box B.mdat bs)
  unfolding written_top moof_whole
  left-moof = left₃ t sequence w p es names bs f.sizable

  pub inner-found : inner_of c (written_top t sequence w p es names bs f.sizable).moof ≡ written_inner
  unfolding written_top moof_whole
  inner-found = inner-is at t sequence w n offset _ left-moof f.sizable.set

  -- they say what the set has
  pub front_read : Read t c written_inner w n offset
  front_read =
      let tfhd = left-tfhd at t sequence w n offset _ left-moof in
      let tfdt = left-tfdt at t sequence w n offset _ left-moof in
      let back = tfhd-back t w _ tfhd f.narrow in
      record {
        time = tfdt-back w _ tfdt f.time;
        tfdt-right = tfdt-right w _ tfdt f.time;
        tfhd-right = tfhd-right t w _ tfhd f.narrow;
        track = ap (λ (d : Defaults). d.track) back;
        description = ap (λ (d : Defaults). d.description) back;
        duration = ap (λ (d : Defaults). d.duration) back;
        flags = ap (λ (d : Defaults). d.flags) back;
        trun = trun-read t w n offset _ (left-trun at t sequence w n offset _ left-moof) f.columns (omega (arith, f.offset));
        senc = by (has 9 w || has 11 w) refl;
      }
    where
      by : (b : Bool) → (has 9 w || has 11 w) ≡ b → Senc t c w (last b).senc
      by true e = stands _ _ _ e refl (left-three t w _ _ (left-last at t sequence w n offset _ left-moof) e)
      by false e = lacks e refl

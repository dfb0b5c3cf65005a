-- The front as its parts, and its length. Assumes nothing.
use Prim.Native.Nat.{ℕ, ◌+◌}
use native.Mathlib.Omega.{arith}
use mathlib.Core.Path.{◌≡◌, refl}
use mathlib.Core.List.{List, [], ◌∷◌, ◌++◌}
use lib.ListN.{length, length-append}
use Rattle.laws.specs.Bytes.{be}
use Rattle.laws.specs.Writes.{Wrote}
use Rattle.laws.proofs.BytesLaws.{length-be}
use Rattle.laws.proofs.PartLaws.{joined}
use Rattle.track.specs.declared.Track.{Track}
use Rattle.boxes.specs.Box.{words}
use Rattle.boxes.specs.Box as B
use Rattle.prft_value.specs.declared.Prft.{Prft}
use Rattle.event_value.specs.Events.{Event}
use Rattle.cmaf_write_prelude.specs.Prelude.{styp_box, prft_box}
use Rattle.cmaf_write_emsg.specs.Emsg.{emsg_boxes}
use Rattle.cmaf_write_moof.specs.Moof.{moof_box, moof_whole}
use Rattle.cmaf_write_emsg.proofs.EmsgLaws.{events-short}
use Rattle.cmaf_write_moof.proofs.MoofLaws.{moof-same}
use Rattle.cmaf_write_front.specs.Front.{front}
use Rattle.cmaf_write_front.specs.Writable.{Writable, Weighable}

-- what can be written can be weighed
pub weighable : {t : Track} {w : List ℕ} {payload : ℕ} {p : Prft} {o ws : List ℕ} {k : ℕ} {b : List ℕ} → Writable t w payload p o ws k b → Weighable t w ws k b
weighable h = record { set = h.set; events = events-short h.events; brands = h.brands }

abbrev pub front_parts : Track → ℕ → List ℕ → ℕ → Prft → List Event → List ℕ → List (List ℕ)
front_parts t sequence w payload p events brands =
    styp_box brands ∷ prft_box t p ∷ emsg_boxes events ∷ moof_whole t sequence w payload ∷ words ((8 + payload) ∷ B.mdat ∷ []) ∷ []

module _ (t : Track) (sequence : ℕ) (w : List ℕ) (payload : ℕ) (p : Prft) (events : List Event) (brands : List ℕ) where
  pub front-parts : joined (front_parts t sequence w payload p events brands) ≡ front t sequence w payload p events brands
  unfolding front words be
  front-parts = refl

  pub front_length : (styp prft emsgs moof : ℕ) → styp ≡ length (styp_box brands) → prft ≡ length (prft_box t p) → emsgs ≡ length (emsg_boxes events)
      → ((offset : ℕ) → moof ≡ length (moof_box t sequence w payload offset))
      → styp + (prft + (emsgs + (moof + 8))) ≡ length (front t sequence w payload p events brands)
  unfolding front moof_whole
  front_length styp prft emsgs moof a b c d =
      let m = moof_box t sequence w payload (length (moof_box t sequence w payload 0) + 8) in
      let mdat = be 4 (8 + payload) ++ be 4 B.mdat in
      omega (
        arith,
        d (length (moof_box t sequence w payload 0) + 8),
        length-append (styp_box brands) (prft_box t p ++ (emsg_boxes events ++ (m ++ mdat))),
        length-append (prft_box t p) (emsg_boxes events ++ (m ++ mdat)),
        length-append (emsg_boxes events) (m ++ mdat),
        length-append m mdat,
        length-append (be 4 (8 + payload)) (be 4 B.mdat),
        length-be 4 (8 + payload),
        length-be 4 B.mdat,
      )

  -- what the boxes before it leave for the `moof`, and for the head of the `mdat`
  pub left-for-moof : {l m n v : List ℕ} {a b c : ℕ} → Wrote l 0 (styp_box brands) m a → Wrote m a (prft_box t p) n b → Wrote n b (emsg_boxes events) v c
      → length (front t sequence w payload p events brands) ≡ c + (length (moof_whole t sequence w payload) + 8)
  unfolding moof_whole
  left-for-moof x y z =
      let e = front_length (length (styp_box brands)) (length (prft_box t p)) (length (emsg_boxes events)) (length (moof_whole t sequence w payload))
      refl refl refl (moof-same t sequence w payload _) in
      omega (arith, x.place, y.place, z.place)

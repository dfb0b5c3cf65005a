-- The boxes at the top of the chunk that is written, and their places. Assumes nothing.
use Prim.Native.Nat.{ℕ, ◌+◌}
use native.Mathlib.Nat.{add-sub_cancel_left}
use mathlib.Core.Path.{◌≡◌}
use mathlib.Core.List.{List, [], ◌++◌, append-nil}
use lib.ListN.{length}
use Rattle.track.specs.declared.Track.{Track}
use Rattle.boxes.specs.Box.{box}
use Rattle.boxes.specs.Box as B
use Rattle.boxes.proofs.BoxLaws.{length-box}
use Rattle.cmaf_read_tree.specs.Whole.{kind_of}
use Rattle.cmaf_read_shape.specs.declared.top.Top.{Top}
use Rattle.cmaf_read_shape.specs.Parts.{part}
use Rattle.cmaf_read_shape.specs.Top.{top_of}
use Rattle.prft_value.specs.declared.Prft.{Prft}
use Rattle.event_value.specs.Events.{Event}
use Rattle.cmaf_write_prelude.specs.Prelude.{styp_box, prft_box}
use Rattle.cmaf_write_emsg.specs.Emsg.{emsg_boxes}
use Rattle.cmaf_write_moof.specs.Moof.{moof_box, moof_whole}
use Rattle.cmaf_read_shape.specs.Left.{Left}
use Rattle.cmaf_read_shape.proofs.LeftLaws.{left-past}
use Rattle.cmaf_read_shape.proofs.OneBoxLaws.{OneBox, one-kind, one_found}
use Rattle.rebuilt.specs.Chunk.{chunk_of, Sizable}
use Rattle.rebuilt.proofs.WholeFront.{moof-box, mdat-box}
use Rattle.rebuilt.proofs.BeforeMoof.{left₁ as before₁, left₂ as before₂, left₃ as before₃, styp-found, prft-found, emsgs-found}

module _ (t : Track) (sequence : ℕ) (w : List ℕ) (p : Prft) (events : List Event) (brands bs : List ℕ) (h : Sizable t w p events brands bs) where
  abbrev c : List ℕ
  c = chunk_of t sequence w p events brands bs

  abbrev moof : List ℕ
  moof = moof_whole t sequence w (length bs)

  moof-one : OneBox B.moof moof
  unfolding moof_whole
  moof-one = moof-box t w h.set sequence (length bs) (length (moof_box t sequence w (length bs) 0) + 8)

  -- ---- what is left, box by box

  abbrev rest₃ : List ℕ
  rest₃ = moof ++ box B.mdat bs

  kind : kind_of rest₃ ≡ B.moof
  kind = one-kind moof-one (box B.mdat bs)

  -- where each starts: the places are those that the reader adds up
  abbrev at₁ : ℕ
  at₁ = 0 + length (styp_box brands)

  abbrev at₂ : ℕ
  at₂ = at₁ + length (prft_box t p)

  abbrev at₃ : ℕ
  at₃ = at₂ + length (emsg_boxes events)

  abbrev at₄ : ℕ
  at₄ = at₃ + length moof

  pub left₁ : Left c at₁ (length c) (prft_box t p ++ (emsg_boxes events ++ rest₃))
  unfolding chunk_of
  left₁ = before₁ t p events brands rest₃ kind h.brands-few h.events-short

  pub left₂ : Left c at₂ (length c) (emsg_boxes events ++ rest₃)
  unfolding chunk_of
  left₂ = before₂ t p events brands rest₃ kind h.brands-few h.events-short

  pub left₃ : Left c at₃ (length c) rest₃
  unfolding chunk_of
  left₃ = before₃ t p events brands rest₃ kind h.brands-few h.events-short

  pub left₄ : Left c at₄ (length c) (box B.mdat bs ++ [])
  left₄ = rw append-nil (left-past moof (box B.mdat bs) left₃)

  -- ---- which box is found there

  unfoldable pub written_top : Top
  written_top =
      record {
        styp = part 0 (length (styp_box brands));
        prft = part at₁ (length (prft_box t p));
        emsgs = part at₂ (length (emsg_boxes events));
        events = length events;
        moof = part at₃ (length moof);
        mdat = part at₄ (8 + length bs);
      }

  -- the reader finds the boxes that were written
  pub chunk-top : top_of c ≡ written_top
  unfolding top_of written_top chunk_of
  chunk-top =
      rw (
        styp-found t p events brands rest₃ kind h.brands-few h.events-short,
        prft-found t p events brands rest₃ kind h.brands-few h.events-short,
        emsgs-found t p events brands rest₃ kind h.brands-few h.events-short,
        one_found moof-one (box B.mdat bs) left₃,
        one_found (mdat-box bs h.payload-few) [] left₄,
        length-box B.mdat bs,
        add-sub_cancel_left at₂ (length (emsg_boxes events)),
      )

-- The boxes before the `moof`, whatever stands behind its type: the reader finds those that were written, and so the place of the `moof`. Assumes nothing.
use Prim.Native.Nat.{ℕ, suc, ◌+◌, ◌≤◌}
use native.Mathlib.Omega.{arith}
use mathlib.Core.Path.{◌≡◌, refl, sym, ◌∙◌, ap}
use mathlib.Core.Bool.{true, false, and-false}
use mathlib.Core.List.{List, [], ◌∷◌, ◌++◌, append_assoc}
use borrow.Author.Tests.{eq-eqb, ne_eqb}
use lib.ListN.{length, drop, length-append}
use lib.Seq.{take_all}
use Rattle.constants.specs.Maxima.{brand_bytes_most}
use Rattle.laws.proofs.TestLaws.{both, and_is}
use Rattle.track.specs.declared.Track.{Track}
use Rattle.boxes.specs.Box as B
use Rattle.cmaf_read_tree.specs.Whole.{kind_of, sized}
use Rattle.cmaf_read_shape.specs.Parts.{part, box_at}
use Rattle.cmaf_read_shape.specs.Top.{row, emsgs, emsgs_from, top_of}
use Rattle.cmaf_read_shape.proofs.RunLaws.{leads, emsgs-none, emsgs-more}
use Rattle.prft_value.specs.declared.Prft.{Prft}
use Rattle.event_value.specs.Events.{Event}
use Rattle.cmaf_write_prelude.specs.Prelude.{styp_box, prft_box}
use Rattle.cmaf_write_emsg.specs.Emsg.{emsg_box, emsg_boxes}
use Rattle.cmaf_read_shape.specs.Left.{Left}
use Rattle.cmaf_read_shape.proofs.LeftLaws.{left-all, left-past}
use Rattle.cmaf_read_shape.proofs.OneBoxLaws.{OneBox, one-kind, one-sized, one_size, one-after, maybe-not, maybe-found}
use Rattle.rebuilt.specs.Chunk.{AllShort}
use Rattle.rebuilt.proofs.OuterRead.{styp-box, prft-box, emsg-box}

-- ---- the run of events

-- no event stands at the front of the list
not-leads : (l : List ℕ) → (kind_of l ≡ B.emsg → ⊥) → leads l ≡ false
not-leads l h = rw (ne_eqb (kind_of l) B.emsg h, and_is (sized l) false, and-false (sized l))

run-written : (es : List Event) (l : List ℕ) → AllShort es → (kind_of l ≡ B.emsg → ⊥)
    → emsgs (emsg_boxes es ++ l) ≡ row (length (emsg_boxes es)) (length es)
unfolding emsg_boxes
run-written [] l h apart = emsgs-none l (not-leads l apart)
run-written (e ∷ es) l h apart =
    let b : OneBox B.emsg (emsg_box e) = emsg-box e h.0 in
    let rest : List ℕ = emsg_boxes es ++ l in
    let first : leads (emsg_box e ++ rest) ≡ true = both _ _ (one-sized b rest) (eq-eqb _ _ (one-kind b rest)) in
    rw (append_assoc (emsg_box e) (emsg_boxes es) l)
    (emsgs-more (emsg_box e ++ rest) first
    ∙ rw (one_size b rest, one-after b rest, run-written es l h.1 apart)
    (ap (λ (n : ℕ). row n (suc (length es))) (sym (length-append (emsg_box e) (emsg_boxes es)))))

-- of another type than an event's, if what follows is
run-not : (es : List Event) (l : List ℕ) {kind : ℕ} → AllShort es → (B.emsg ≡ kind → ⊥) → (kind_of l ≡ kind → ⊥) → kind_of (emsg_boxes es ++ l) ≡ kind → ⊥
unfolding emsg_boxes
run-not [] l h here behind e = behind e
run-not (x ∷ es) l h here behind e =
    here (sym (ap kind_of (append_assoc (emsg_box x) (emsg_boxes es) l) ∙ one-kind (emsg-box x h.0) (emsg_boxes es ++ l)) ∙ e)

-- the boxes, and the list l behind them, which begins as a `moof` does
module _ (t : Track) (p : Prft) (events : List Event) (brands l : List ℕ) (m : kind_of l ≡ B.moof) (few : length brands ≤ brand_bytes_most) (short : AllShort events) where
  -- what is left from each on
  abbrev rest₂ : List ℕ
  rest₂ = emsg_boxes events ++ l

  abbrev rest₁ : List ℕ
  rest₁ = prft_box t p ++ rest₂

  abbrev c : List ℕ
  c = styp_box brands ++ rest₁

  -- where each starts: the places are those that the reader adds up
  abbrev at₁ : ℕ
  at₁ = 0 + length (styp_box brands)

  abbrev at₂ : ℕ
  at₂ = at₁ + length (prft_box t p)

  abbrev at₃ : ℕ
  at₃ = at₂ + length (emsg_boxes events)

  pub left₁ : Left c at₁ (length c) rest₁
  left₁ = left-past (styp_box brands) rest₁ (left-all c)

  pub left₂ : Left c at₂ (length c) rest₂
  left₂ = left-past (prft_box t p) rest₂ left₁

  pub left₃ : Left c at₃ (length c) l
  left₃ = left-past (emsg_boxes events) l left₂

  -- none has a type that isn't an event's nor the `moof`'s
  events-not : {kind : ℕ} → (B.moof ≡ kind → ⊥) → (B.emsg ≡ kind → ⊥) → kind_of rest₂ ≡ kind → ⊥
  events-not n e = run-not events l short e (λ q. n (sym m ∙ q))

  pub styp-found : box_at c 0 (length c) B.styp ≡ part 0 (length (styp_box brands))
  styp-found =
      maybe-found rest₁ (styp-box brands few) (left-all c)
      (maybe-not rest₂ (prft-box t p) (λ q. omega arith) (events-not (λ q. omega arith) (λ q. omega arith)))

  pub prft-found : box_at c at₁ (length c) B.prft ≡ part at₁ (length (prft_box t p))
  prft-found = maybe-found rest₂ (prft-box t p) left₁ (events-not (λ q. omega arith) (λ q. omega arith))

  pub emsgs-found : emsgs_from c at₂ ≡ row at₃ (length events)
  unfolding emsgs_from
  emsgs-found =
      let d : drop at₂ c ≡ rest₂ = ap (drop at₂) (sym (take_all (length c) c (omega arith))) ∙ left₂.is in
      rw (d, run-written events l short (λ q. let z : B.moof ≡ B.emsg = sym m ∙ q in omega arith))

  -- a box is looked for where it is looked for
  looked-at : (at kind : ℕ) → (box_at c at (length c) kind).at ≡ at
  unfolding box_at
  looked-at at kind = refl

  pub moof-place : (top_of c).moof.at ≡ at₃
  unfolding top_of
  moof-place = rw (styp-found, prft-found, emsgs-found, looked-at at₃ B.moof)

-- What is known of a chunk that was accepted, as the encoder asks it. Assumes nothing.
use Prim.Native.Nat.{ℕ, ◌≤◌}
use native.Mathlib.Omega.{arith}
use mathlib.Core.Path.{◌≡◌, refl, subst}
use mathlib.Core.Logic.{◌⊎◌, inl, inr}
use mathlib.Core.Bool.{Bool, true, false}
use mathlib.Core.List.{List}
use borrow.Author.Tests.{eqb-true, eqb-false, eq-eqb}
use lib.Dec.{eqb}
use Rattle.constants.specs.Maxima.{number_most}
use Rattle.laws.specs.Tests.{all_le}
use Rattle.laws.specs.Ladder.{Hold}
use Rattle.laws.proofs.LadderLaws.{Numbered}
use Rattle.laws.proofs.BytesLaws.{bytes-are}
use Rattle.wire.specs.declared.form.Row.{Row}
use Rattle.track.specs.declared.Track.{Track}
use Rattle.byte_parts.specs.declared.Part.{Part}
use Rattle.cmaf_read_shape.specs.Parts.{body_of}
use Rattle.prft_value.specs.declared.Prft.{Prft}
use Rattle.cmaf_read_prelude.specs.Prft.{prft_of}
use Rattle.cmaf_read_prelude.proofs.PrftLaws.{prft-headed, prft-lacks, prft-ranges}
use Rattle.prft_value.specs.Prft.{InRange}
use Rattle.cmaf_read_chunk.specs.Accepted.{top, prft, late_rungs, accept_rungs}
use Rattle.cmaf_read_boxes.proofs.BoxLaws.{boxes-in}
use Rattle.cmaf_read_chunk.proofs.BrandLaws.{StypBytes, styp-body}
use Rattle.cmaf_read_chunk.proofs.LawfulSet.{boxes-held, counts-held}
use Rattle.encoder.specs.Planned.{BrandBytes}

-- none of the rungs refuses with 0
pub accept-numbered : (F : List Row) (t : Track) (c : List ℕ) → Numbered (accept_rungs F t c)
unfolding accept_rungs late_rungs
accept-numbered F t c = ((λ e. omega arith), ((λ e. omega arith), ((λ e. omega arith), ((λ e. omega arith), tt))))

-- a version that is at most 1: it is 1, or what is known of 0 holds
version-or : (v m : ℕ) → v ≤ 1 → (v ≡ 0 → m ≤ 0xffff_ffff) → (v ≡ 1) ⊎ (m ≤ 0xffff_ffff)
version-or v m h k = go (eqb v 0) refl
  where
    go : (z : Bool) → eqb v 0 ≡ z → (v ≡ 1) ⊎ (m ≤ 0xffff_ffff)
    go true q = inr (k (eqb-true v 0 q))
    go false q = let n : v ≡ 0 → ⊥ = eqb-false v 0 q in inl (omega arith)

module _ (F : List Row) (t : Track) (c : List ℕ) (h : Hold (accept_rungs F t c)) where
  -- what stands in its `styp`
  pub brands-sized : BrandBytes (body_of (top c).styp).len
  brands-sized = go (styp-body (top c).styp (boxes-held F t c h).styp-ok (counts-held F t c h).brands)
    where
      go : {n : ℕ} → StypBytes n → BrandBytes n
      go (inl e) = record { long = λ z. absurd (z e); few = omega arith }
      go (inr (a, (l, m))) = record { long = λ z. a; few = l }

  -- its `prft` keeps its ranges, where its times fit
  pub prft-ranged : all_le 255 c ≡ true → ((prft c).stands ≡ true → ((prft c).ntp.0 ≤ number_most) × ((prft c).media.0 ≤ number_most)) → InRange (prft c)
  unfolding prft
  prft-ranged low fit =
      let b : Part = (top c).prft in
      let ok = (boxes-held F t c h).prft-ok in
      let r = prft-ranges c b (bytes-are c low) (boxes-in c).prft-in ok in
      let none : (prft_of c b).stands ≡ false → ((prft_of c b).ntp.0 ≡ 0) × ((prft_of c b).media.0 ≡ 0) × ((prft_of c b).version ≡ 0) × ((prft_of c b).flags ≡ 0) =
      λ z. subst (λ (p : Prft). (p.ntp.0 ≡ 0) × (p.media.0 ≡ 0) × (p.version ≡ 0) × (p.flags ≡ 0)) (prft-lacks c b z) (refl, refl, refl, refl) in
      let short : (prft_of c b).version ≡ 0 → (prft_of c b).media.0 ≤ 0xffff_ffff = λ e. rw (eq-eqb _ 0 e) at r.2 in
      (none, (λ z. (r.0, version-or (prft_of c b).version (prft_of c b).media.0 r.0 short, (prft-headed c b ok).flags, (fit z).0, (fit z).1)))

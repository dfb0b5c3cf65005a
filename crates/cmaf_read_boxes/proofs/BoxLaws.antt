-- The boxes of a chunk lie in it, and what the tests of them say. Assumes nothing.
use Prim.Native.Nat.{ℕ, ◌≤◌}
use native.Mathlib.Omega.{arith}
use mathlib.Core.Path.{◌≡◌, refl, sym, ◌∙◌, ap}
use mathlib.Core.Bool.{Bool, true, false, not, ◌&&◌, and-false, false≢true}
use mathlib.Core.List.{List}
use lib.ListN.{length}
use Rattle.laws.specs.Tests.{◌and◌}
use Rattle.laws.proofs.GateLaws.{failed, held}
use Rattle.laws.proofs.TestLaws.{left, right, both_of}
use Rattle.track.specs.declared.Track.{Track}
use Rattle.cmaf_read_tree.specs.Whole.{whole}
use Rattle.cmaf_read_shape.specs.declared.top.Top.{Top}
use Rattle.cmaf_read_shape.specs.declared.inner.Inner.{Inner}
use Rattle.cmaf_read_shape.specs.Parts.{Inside}
use Rattle.cmaf_read_shape.specs.Top.{top_of, top_ok}
use Rattle.cmaf_read_shape.specs.Inner.{inner_of, inner_ok}
use Rattle.cmaf_read_shape.proofs.PartLaws.{body-in}
use Rattle.cmaf_read_shape.proofs.TopLaws.{TopIn, top_in, styp-inside, prft-inside, emsgs-inside, moof-inside, mdat-inside}
use Rattle.cmaf_read_shape.proofs.InnerLaws.{InnerIn, inner-in, mfhd-inside, traf-inside, tfhd-inside, tfdt-inside, trun-inside, senc-inside, saiz-inside, saio-inside}
use Rattle.cmaf_read_shape.proofs.WholeLaws.{shaped-whole}
use Rattle.cmaf_read_prelude.specs.Styp.{styp_ok}
use Rattle.cmaf_read_prelude.specs.Prft.{prft_ok}
use Rattle.cmaf_read_prelude.specs.Emsg.{emsgs_ok}
use Rattle.cmaf_read_moof.specs.Headers.{mfhd_ok, tfdt_ok}
use Rattle.cmaf_read_moof.specs.Defaults.{tfhd_ok}
use Rattle.cmaf_read_trun.specs.Rows.{trun_ok}
use Rattle.std.specs.Prelude.{Option, Some, None, is_some}
use Rattle.std.specs.Option.{unwrap_or}
use Rattle.cmaf_read_senc.specs.Entries.{senc_ok, subsamples}
use Rattle.cmaf_read_senc.specs.Sizes.{saiz_ok, saio_ok}
use Rattle.cmaf_read_boxes.specs.Right.{outer_right, samples_right, boxes_ok, PairsAs}

-- ---- where they lie

-- all lie in the chunk, and the `senc` not before the `moof`
pub record BoxesIn (c : List ℕ) (top : Top) (f : Inner) : Type 0 where
  pub styp-in : Inside c top.styp
  pub prft-in : Inside c top.prft
  pub emsgs-in : top.emsgs.at ≤ length c
  pub moof-in : Inside c top.moof
  pub mdat-in : Inside c top.mdat
  pub mfhd-in : Inside c f.mfhd
  pub traf-in : Inside c f.traf
  pub tfhd-in : Inside c f.tfhd
  pub tfdt-in : Inside c f.tfdt
  pub trun-in : Inside c f.trun
  pub senc-in : Inside c f.senc
  pub senc-after : top.moof.at ≤ f.senc.at
  pub saiz-in : Inside c f.saiz
  pub saio-in : Inside c f.saio

pub boxes-in : (c : List ℕ) → BoxesIn c (top_of c) (inner_of c (top_of c).moof)
boxes-in c =
    let h : TopIn c (top_of c) = top_in c in
    let m : Inside c (top_of c).moof = moof-inside h in
    let i : InnerIn c (top_of c).moof (inner_of c (top_of c).moof) = inner-in c (top_of c).moof m in
    let a = (body-in (top_of c).moof).starts in
    let b = (body-in (inner_of c (top_of c).moof).traf).starts in
    record {
      styp-in = styp-inside h;
      prft-in = prft-inside h;
      emsgs-in = omega (arith, (emsgs-inside h).within);
      moof-in = m;
      mdat-in = mdat-inside h;
      mfhd-in = mfhd-inside m i;
      traf-in = traf-inside m i;
      tfhd-in = tfhd-inside m i;
      tfdt-in = tfdt-inside m i;
      trun-in = trun-inside m i;
      senc-in = senc-inside m i;
      senc-after = omega (arith, a, b, i.mfhd-at, i.traf-at, i.tfhd-at, i.tfdt-at, i.trun-at, i.senc-in.after);
      saiz-in = saiz-inside m i;
      saio-in = saio-inside m i;
    }

-- of the boxes that the code has found
pub found_in : (c : List ℕ) (top : Top) (f : Inner) → top ≡ top_of c → f ≡ inner_of c top.moof → BoxesIn c top f
found_in c top f et ef = rw (ef, et) (boxes-in c)

pub moof-found : (c : List ℕ) (top : Top) → top ≡ top_of c → Inside c top.moof
moof-found c top et = rw et (boxes-in c).moof-in

-- ---- what the tests say

pub record BoxesHold (t : Track) (c : List ℕ) (top : Top) (f : Inner) : Type 0 where
  pub top-ok : top_ok c top ≡ true
  pub inner-ok : inner_ok top.moof f ≡ true
  pub styp-ok : styp_ok top.styp ≡ true
  pub prft-ok : prft_ok c top.prft ≡ true
  pub emsgs-ok : emsgs_ok c top.events top.emsgs.at ≡ true
  pub mfhd-ok : mfhd_ok c f.mfhd ≡ true
  pub tfhd-ok : tfhd_ok c f.tfhd ≡ true
  pub tfdt-ok : tfdt_ok c f.tfdt ≡ true
  pub trun-ok : trun_ok c f.trun ≡ true
  pub senc-ok : senc_ok t c f.senc ≡ true
  pub saiz-ok : saiz_ok c f.saiz ≡ true
  pub saio-ok : saio_ok c f.saio ≡ true

pub boxes-hold : (t : Track) (c : List ℕ) → boxes_ok t c ≡ true → BoxesHold t c (top_of c) (inner_of c (top_of c).moof)
unfolding boxes_ok
boxes-hold t c e =
    let top : Top = top_of c in
    let f : Inner = inner_of c top.moof in
    let r = right _ _ (right _ _ e) in
    let o = both_of (styp_ok top.styp) (prft_ok c top.prft && emsgs_ok c top.events top.emsgs.at) (left _ _ r) in
    let p = both_of (prft_ok c top.prft) (emsgs_ok c top.events top.emsgs.at) o.1 in
    let s = both_of (mfhd_ok c f.mfhd && tfhd_ok c f.tfhd) (tfdt_ok c f.tfdt && trun_ok c f.trun) (left _ _ (right _ _ r)) in
    let h = both_of (mfhd_ok c f.mfhd) (tfhd_ok c f.tfhd) s.0 in
    let d = both_of (tfdt_ok c f.tfdt) (trun_ok c f.trun) s.1 in
    let x = both_of (senc_ok t c f.senc) (saiz_ok c f.saiz && saio_ok c f.saio) (right _ _ (right _ _ r)) in
    let z = both_of (saiz_ok c f.saiz) (saio_ok c f.saio) x.1 in
    record {
      top-ok = left _ _ e;
      inner-ok = left _ _ (right _ _ e);
      styp-ok = o.0;
      prft-ok = p.0;
      emsgs-ok = p.1;
      mfhd-ok = h.0;
      tfhd-ok = h.1;
      tfdt-ok = d.0;
      trun-ok = d.1;
      senc-ok = x.0;
      saiz-ok = z.0;
      saio-ok = z.1;
    }

-- of the boxes that the code has found
pub found-hold : (t : Track) (c : List ℕ) (top : Top) (f : Inner) → top ≡ top_of c → f ≡ inner_of c top.moof → boxes_ok t c ≡ true
    → BoxesHold t c top f
found-hold t c top f et ef e = rw (ef, et) (boxes-hold t c e)

-- ---- what the code asks of them: first whether they stand where they must, and of the `senc` last

row-six : (a b o s n z : Bool) → ((a && b) && ((o && (s && z)) && n)) ≡ (a and b and o and s and (n && z))
unfolding ◌and◌
row-six true true true true true true = refl
row-six true true true true true false = refl
row-six true true true true false true = refl
row-six true true true true false false = refl
row-six true true true false n z = refl
row-six true true false s n z = refl
row-six true false o s n z = refl
row-six false b o s n z = refl

module _ (t : Track) (c : List ℕ) {top : Top} {f : Inner} (et : top ≡ top_of c) (ef : f ≡ inner_of c top.moof) where
  abbrev order : Bool
  order = top_ok c top && inner_ok top.moof f

  abbrev others : Bool
  others = outer_right c top && (samples_right c f && (saiz_ok c f.saiz && saio_ok c f.saio))

  boxes-are : boxes_ok t c ≡ (order && (others && senc_ok t c f.senc))
  unfolding boxes_ok
  boxes-are =
      sym
      (row-six (top_ok c top) (inner_ok top.moof f) (outer_right c top) (samples_right c f) (senc_ok t c f.senc) (saiz_ok c f.saiz && saio_ok c f.saio)
      ∙ rw (ef, et))

  -- a box doesn't stand where it must
  pub order-breaks : {x : Bool} → x ≡ order → not x ≡ true → boxes_ok t c ≡ false
  order-breaks q n = boxes-are ∙ ap (λ (x : Bool). x && (others && senc_ok t c f.senc)) (failed q n)

  -- one is wrong beside the `senc`
  pub pairs-wrong : {x : Bool} → x ≡ others → not x ≡ true → PairsAs t c None
  pairs-wrong q n =
      let z : boxes_ok t c ≡ false = boxes-are ∙ rw (failed q n) (and-false order) in
      record { right = sym z; counted = λ k. absurd (false≢true (sym z ∙ k)) }

  -- none is
  pub pairs-read : {x : Bool} {r : Option ℕ} → order ≡ true → x ≡ others → not x ≡ false
      → (is_some r ≡ senc_ok t c f.senc) × (unwrap_or r 0 ≡ subsamples t c f.senc) → PairsAs t c r
  pairs-read h q n e = record { right = e.0 ∙ sym (boxes-are ∙ rw (h, held q n)); counted = λ k. e.1 ∙ rw (ef, et) }

  -- boxes that stand where they must make a whole tree
  pub order-whole : {x : Bool} → x ≡ order → not x ≡ false → whole c ≡ true
  order-whole q n = shaped-whole c (rw (ef, et) at (held q n))

  -- all were answered to be right, with so many subsamples
  pub with-right : {n : ℕ} → PairsAs t c (Some n) → (boxes_ok t c ≡ true) × (n ≡ subsamples t c f.senc)
  with-right p =
      let b : boxes_ok t c ≡ true = sym p.right in
      (b, p.counted b ∙ sym (rw (ef, et)))

-- one was answered to be wrong
pub wrong-breaks : {t : Track} {c : List ℕ} → PairsAs t c None → boxes_ok t c ≡ false
wrong-breaks p = sym p.right

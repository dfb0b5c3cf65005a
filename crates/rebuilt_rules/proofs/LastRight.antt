-- The last three boxes of the `moof` that is written, or their absence: they are right, and the rule on them holds. Assumes nothing.
use Prim.Native.Nat.{ℕ, ◌+◌}
use native.Mathlib.Omega.{arith}
use mathlib.Core.Path.{◌≡◌, refl}
use mathlib.Core.Bool.{Bool, true, false, cond, ◌&&◌, ◌||◌, or-true}
use mathlib.Core.List.{List, []}
use borrow.Author.Tests.{eq-eqb, ne_eqb, le-leb}
use lib.Dec.{eqb, leb}
use lib.ListN.{length, length-append}
use Rattle.laws.proofs.TestLaws.{both}
use Rattle.track.specs.declared.Track.{Track}
use Rattle.track.specs.Track.{iv_ok}
use Rattle.field_set.specs.Lawful.{has, count_in}
use Rattle.cmaf_write_senc.specs.Protection.{Protectable}
use Rattle.cmaf_write_senc.specs.Protected.{senc_box}
use Rattle.cmaf_write_saiz.specs.Saiz.{saiz_box, saio_box}
use Rattle.cmaf_write_moof.specs.Moof.{protection}
use Rattle.cmaf_write_saiz.proofs.SaizLaws.{saio-length}
use Rattle.cmaf_read_shape.specs.declared.top.Top.{Top}
use Rattle.cmaf_read_shape.specs.declared.inner.Inner.{Inner}
use Rattle.cmaf_read_shape.specs.Inner.{three_or_none}
use Rattle.cmaf_read_shape.specs.Left.{Left}
use Rattle.cmaf_read_shape.proofs.LeftLaws.{left-past}
use Rattle.cmaf_read_senc.specs.Entries.{entries_of, senc_ok, senc_count, subsamples}
use Rattle.cmaf_read_senc.specs.Sizes.{saiz_ok, saiz_count, saio_ok}
use Rattle.cmaf_read_rules.specs.Rules.{counts_ok, unprotected_ok, protected_ok}
use Rattle.cmaf_read_facts.specs.Given.{Canonical}
use Rattle.rebuilt.proofs.InnerFront.{Last, last_by, left-three, left-none, place_of, last_at, inside_end, inner_by}
use Rattle.rebuilt.specs.Read.{Read}
use Rattle.rebuilt_rules.proofs.MoofRight.{traf_end, last-place, place-low}
use Rattle.rebuilt_rules.proofs.SampleRules.{unprotected-rule}
use Rattle.rebuilt_set.proofs.SizeLines.{size_back}
use Rattle.rebuilt_rules.proofs.SencRight.{senc-says}
use Rattle.rebuilt_rules.proofs.SaizSaioRight.{saiz-says, saio-right, saio-leads}
use Rattle.rebuilt_rules.proofs.EntriesRight.{all_right}

module _ (c : List ℕ) (top : Top) (t : Track) (sequence : ℕ) (w : List ℕ) (n offset : ℕ) where
  abbrev start : ℕ
  start = last_at top.moof.at t sequence w n offset

  abbrev stop : ℕ
  stop = inside_end top.moof.at t sequence w n offset

  abbrev place : ℕ
  place = place_of top.moof.at t sequence w n offset

  abbrev inner_with : Last → Inner
  inner_with = inner_by top.moof.at t sequence w n offset

  -- the last boxes as they are found; their rule goes by what the other boxes say
  pub record LastRight (l : Last) : Type 0 where
    pub stand : three_or_none (inner_with l) ≡ true
    pub right : (senc_ok t c l.senc && (saiz_ok c l.saiz && saio_ok c l.saio)) ≡ true
    pub samples : (leb (senc_count c l.senc) 64 && leb (saiz_count c l.saiz) 64) ≡ true
    pub pairs : leb (subsamples t c l.senc) 256 ≡ true
    pub rule : Read t c (inner_with l) w n offset → cond (eqb l.senc.len 0) (unprotected_ok t c top (inner_with l)) (protected_ok t c top (inner_with l)) ≡ true

  module _ (g : Canonical t w n) (s : Protectable t w) (ok : iv_ok t.protection t.iv_size ≡ true) (h : Left c start stop (protection t w place)) where
    -- none stand
    none_right : (has 9 w || has 11 w) ≡ false → LastRight (last_by t w start place false)
    unfolding three_or_none senc_ok saiz_ok saio_ok senc_count saiz_count subsamples
    none_right e =
        record {
          stand = rw (eq-eqb start (traf_end top.moof.at t sequence w n offset) (omega (arith, (left-none t w start place h e).room)));
          right = refl;
          samples = refl;
          pairs = refl;
          rule = λ k. unprotected-rule top k g e;
        }

    -- all three do
    three-right : (has 9 w || has 11 w) ≡ true → LastRight (last_by t w start place true)
    unfolding three_or_none protected_ok counts_ok entries_of
    three-right e =
        let l = left-three t w start place h e in
        let l₁ = left-past (senc_box t w) _ l in
        let l₂ = left-past (saiz_box t w) _ l₁ in
        let x = senc-says t c w g ok start stop _ e l in
        let y = saiz-says t w _ l₁ s (s.some e) x.some_bytes in
        let to = start + length (senc_box t w) + length (saiz_box t w) + length (saio_box (place + 16)) in
        record {
          stand =
              rw (
                ne_eqb (length (senc_box t w)) 0 (λ z. omega (arith, x.long, z)),
                ne_eqb (length (saiz_box t w)) 0 (λ z. omega (arith, y.long, z)),
                ne_eqb (length (saio_box (place + 16))) 0 (λ z. omega (arith, saio-length (place + 16), z)),
                eq-eqb to (traf_end top.moof.at t sequence w n offset) (omega (arith, l₂.room, length-append (saio_box (place + 16)) [])),
              )
              (or-true (eqb start (traf_end top.moof.at t sequence w n offset)));
          right = rw (x.right, y.right, saio-right (place + 16) [] l₂);
          samples = rw (x.count, y.count, le-leb (count_in w) 64 s.few);
          pairs = rw x.pairs (le-leb _ 256 s.pairs);
          rule = λ k.
              rw (ne_eqb (length (senc_box t w)) 0 (λ z. omega (arith, x.long, z)))
              (both _ _
              (rw (
                x.protected,
                k.trun.count,
                ne_eqb (count_in w) 0 (λ z. omega (arith, s.some e, z)),
                x.entered.count,
                y.count,
                eq-eqb (count_in w) (count_in w) refl,
              )
              x.has_either)
              (both _ _
              (saio-leads (place + 16) [] l₂ top.moof (start + 16) (omega (arith, place-low top.moof.at t sequence w n offset s))
              (omega (arith, last-place top.moof.at t sequence w n offset)))
              (all_right t c w _ x.entered g.long s.pairs n _ _ _ (size_back k _) y.says k.trun.count g.protected)));
        }

    pub last-right : LastRight (last_by t w start place (has 9 w || has 11 w))
    last-right = by (has 9 w || has 11 w) refl
      where
        by : (b : Bool) → (has 9 w || has 11 w) ≡ b → LastRight (last_by t w start place b)
        by true e = three-right e
        by false e = none_right e

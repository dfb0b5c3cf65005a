-- What follows of a chunk that keeps every rule. Assumes nothing.
use Prim.Native.Nat.{ℕ, ◌<◌}
use native.Mathlib.Omega.{arith}
use mathlib.Core.Path.{◌≡◌, sym, ◌∙◌, ap}
use mathlib.Core.Bool.{Bool, true, false, cond}
use mathlib.Core.List.{List}
use borrow.Author.Tests.{eq-eqb, ne_eqb}
use lib.Dec.{eqb}
use Rattle.laws.specs.Tests.{all_le}
use Rattle.laws.proofs.TestLaws.{left, right}
use Rattle.track.specs.declared.Track.{Track}
use Rattle.cmaf_read_shape.specs.declared.top.Top.{Top}
use Rattle.cmaf_read_shape.specs.declared.inner.Inner.{Inner}
use Rattle.event_value.specs.Events.{Event}
use Rattle.field_set.specs.Lawful.{saiz_ok}
use Rattle.cmaf_read_moof.specs.declared.defaults.Defaults.{Defaults}
use Rattle.cmaf_read_trun.specs.declared.rows.Run.{Run}
use Rattle.cmaf_read_senc.specs.declared.entries.Entries.{Entries}
use Rattle.cmaf_read_senc.specs.Sizes.{leads_to}
use Rattle.cmaf_read_rules.specs.Rules.{clocks_ok, outer_ok, offset_ok, flags_ok, offsets_ok, sizes_ok, unprotected_ok, entries_ok, protected_ok, rules_ok}
use Rattle.cmaf_read_rules.specs.Rules as R
use Rattle.cmaf_read_rules.proofs.CountLaws.{CountsHold, counts-hold}
use Rattle.cmaf_read_rules.proofs.InfoLaws.{counts_from, counts-keep}

module _ (t : Track) (c : List ℕ) (top : Top) (f : Inner) where
  abbrev defaults : Defaults
  defaults = R.defaults t c top f

  abbrev run : Run
  run = R.run t c top f

  abbrev entries : Entries
  entries = R.entries t c top f

  -- each rule by itself
  pub record RulesHold (events : List Event) : Type 0 where
    pub outer : outer_ok t c top defaults ≡ true
    pub clocks : clocks_ok events ≡ true
    pub offset : offset_ok t c top f ≡ true
    pub flags : flags_ok c f.trun defaults.flags run ≡ true
    pub offsets : offsets_ok c run ≡ true
    pub sizes : sizes_ok c top.mdat defaults.size run ≡ true
    pub protection : cond (eqb f.senc.len 0) (unprotected_ok t c top f) (protected_ok t c top f) ≡ true

  pub rules-hold : (events : List Event) → rules_ok t c top f events ≡ true → RulesHold events
  unfolding rules_ok
  rules-hold events h =
      let h1 = right _ _ h in
      let h2 = right _ _ h1 in
      let h3 = right _ _ h2 in
      let h4 = right _ _ h3 in
      let h5 = right _ _ h4 in
      record {
        outer = left _ _ h;
        clocks = left _ _ h1;
        offset = left _ _ h2;
        flags = left _ _ h3;
        offsets = left _ _ h4;
        sizes = left _ _ h5;
        protection = right _ _ h5;
      }

  module _ {events : List Event} (g : RulesHold events) where
    by : (b : Bool) → eqb f.senc.len 0 ≡ b → cond b (unprotected_ok t c top f) (protected_ok t c top f) ≡ true
    by b e = sym (ap (λ (x : Bool). cond x (unprotected_ok t c top f) (protected_ok t c top f)) e) ∙ g.protection

    -- a `senc` doesn't stand
    pub rules-unprotected : f.senc.len ≡ 0 → unprotected_ok t c top f ≡ true
    rules-unprotected h = by true (eq-eqb f.senc.len 0 h)

    -- it stands
    pub rules-protected : 0 < f.senc.len → protected_ok t c top f ≡ true
    rules-protected h = by false (ne_eqb f.senc.len 0 (λ z. omega arith))

  -- ---- a `senc` that stands

  pub record ProtectionHolds : Type 0 where
    pub counts : CountsHold t c top f
    pub leads : leads_to c f.saio top.moof entries.at ≡ true
    pub each : entries_ok c entries f.saiz run defaults.size run.count 0 entries.at ≡ true

  pub protection-holds : protected_ok t c top f ≡ true → ProtectionHolds
  unfolding protected_ok
  protection-holds h = record { counts = counts-hold t c top f (left _ _ h); leads = left _ _ (right _ _ h); each = right _ _ (right _ _ h) }

  -- with subsamples, no entry is longer than a `saiz` can say
  pub entries-keep : all_le 255 c ≡ true → ProtectionHolds → entries.map ≡ true
      → saiz_ok entries.iv (counts_from c entries run.count entries.at) ≡ true
  entries-keep low g m = counts-keep c low entries m _ _ _ _ _ _ g.each

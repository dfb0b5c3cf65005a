-- What a `senc` that stands must count, and the rules on it. Assumes nothing.
use Prim.Native.Nat.{ℕ, ◌+◌, ◌≤◌, ◌<◌}
use native.Mathlib.Omega.{arith}
use mathlib.Core.Path.{◌≡◌, refl, sym, ◌∙◌, ap, ap₂}
use mathlib.Core.Bool.{Bool, true, false, not, ◌&&◌, ◌||◌}
use mathlib.Core.List.{List}
use borrow.Author.Tests.{eqb-true, eqb-false, not-true, not-false}
use lib.Dec.{eqb}
use Rattle.laws.specs.Tests.{◌and◌}
use Rattle.laws.proofs.TestLaws.{and_left, and_right, and_is, and-true}
use Rattle.constants.specs.Maxima.{subsamples_most}
use Rattle.track.specs.declared.Track.{Track}
use Rattle.track.specs.Track.{none}
use Rattle.byte_parts.specs.declared.Part.{Part}
use Rattle.cmaf_read_shape.specs.declared.top.Top.{Top}
use Rattle.cmaf_read_shape.specs.declared.inner.Inner.{Inner}
use Rattle.cmaf_read_trun.specs.declared.rows.Run.{Run}
use Rattle.cmaf_read_senc.specs.declared.entries.Entries.{Entries}
use Rattle.cmaf_read_senc.specs.Entries.{senc_head, entries_of, FewPairs}
use Rattle.cmaf_read_senc.specs.Sizes.{saiz_count, leads_to}
use Rattle.cmaf_read_senc.proofs.SencLaws.{entries_at, senc-stands, senc-few}
use Rattle.cmaf_read_rules.specs.Rules.{counts_ok, entries_ok, protected_ok, Right}
use Rattle.cmaf_read_rules.specs.Rules as R

-- a test that fails says that two numbers differ
differ : (a b : ℕ) → not (eqb a b) ≡ true → a ≡ b → ⊥
differ a b h = eqb-false a b (not-true _ h)

-- the counts, by how many samples the `saiz` counts
pub counts-by : (t : Track) (c : List ℕ) (saiz : Part) (e : Entries) (r : Run) (k : ℕ) → k ≡ saiz_count c saiz
    → ((not (eqb t.protection none) && not (eqb r.count 0))
    && ((eqb e.count r.count && eqb k r.count) && (not (eqb e.iv 0) || e.map)))
    ≡ counts_ok t c saiz e r
unfolding counts_ok
counts-by t c saiz e r k p = λ j.
    (not (eqb t.protection none) && not (eqb r.count 0))
    && ((eqb e.count r.count && eqb (p j) r.count) && (not (eqb e.iv 0) || e.map))

module _ (t : Track) (c : List ℕ) (top : Top) (f : Inner) where
  abbrev run : Run
  run = R.run t c top f

  abbrev entries : Entries
  entries = R.entries t c top f

  abbrev counts : Bool
  counts = counts_ok t c f.saiz entries run

  -- what the counts say
  pub record CountsHold : Type 0 where
    pub protected : t.protection ≡ none → ⊥
    pub samples : run.count ≡ 0 → ⊥
    pub counted : entries.count ≡ run.count
    pub infos : saiz_count c f.saiz ≡ run.count
    pub some : (not (eqb entries.iv 0) || entries.map) ≡ true

  abbrev on : Bool
  on = not (eqb t.protection none) && not (eqb run.count 0)

  abbrev alike : Bool
  alike = eqb entries.count run.count && eqb (saiz_count c f.saiz) run.count

  abbrev some-kind : Bool
  some-kind = not (eqb entries.iv 0) || entries.map

  pub counts-hold : counts ≡ true → CountsHold
  unfolding counts_ok
  counts-hold h =
      let all : (on && (alike && some-kind)) ≡ true = h in
      let a : on ≡ true = and_left on (alike && some-kind) all in
      let b : (alike && some-kind) ≡ true = and_right on (alike && some-kind) all in
      let d : alike ≡ true = and_left alike some-kind b in
      record {
        protected = differ _ _ (and_left (not (eqb t.protection none)) (not (eqb run.count 0)) a);
        samples = differ _ _ (and_right (not (eqb t.protection none)) (not (eqb run.count 0)) a);
        counted = eqb-true _ _ (and_left (eqb entries.count run.count) (eqb (saiz_count c f.saiz) run.count) d);
        infos = eqb-true _ _ (and_right (eqb entries.count run.count) (eqb (saiz_count c f.saiz) run.count) d);
        some = and_right alike some-kind b;
      }

  -- ---- the rules on a `senc` that stands

  -- the counts are wrong, or right, by what code found of them
  module _ {e : Entries} {r : Run} (p : e ≡ entries) (q : r ≡ run) (x : Bool) (w : x ≡ counts_ok t c f.saiz e r) where
    found : counts ≡ x
    found = sym (w ∙ ap₂ (counts_ok t c f.saiz) p q)

    pub protected-not : not x ≡ true → false ≡ protected_ok t c top f
    unfolding protected_ok ◌and◌
    protected-not h = rw (found ∙ not-true x h)

    pub counts-right : not x ≡ false → counts ≡ true
    counts-right h = found ∙ not-false x h

  -- by what was read
  abbrev protected_by : Entries → Run → ℕ → Bool
  protected_by e r default = leads_to c f.saio top.moof e.at and entries_ok c e f.saiz r default r.count 0 e.at

  pub protected-by : (e : Entries) (r : Run) (default : ℕ) (l b : Bool) → counts ≡ true → e ≡ entries → r ≡ run
      → default ≡ (R.defaults t c top f).size → l ≡ leads_to c f.saio top.moof e.at
      → b ≡ entries_ok c e f.saiz r default r.count 0 e.at → (l && b) ≡ protected_ok t c top f
  unfolding protected_ok
  protected-by e r default l b h p q s u v =
      sym (and_is l b)
      ∙ ap₂ (λ (x y : Bool). x and y) u v
      ∙ ap₂ (λ (x : Entries) (y : Run). protected_by x y default) p q
      ∙ ap (protected_by entries run) s
      ∙ sym (and-true (protected_by entries run (R.defaults t c top f).size) h)

-- where the first entry stands
pub leads-first : (t : Track) (c : List ℕ) (senc saio moof : Part) {e : Entries} {l : Bool} → e ≡ entries_of t c senc
    → l ≡ leads_to c saio moof (senc.at + senc_head) → l ≡ leads_to c saio moof e.at
leads-first t c senc saio moof p h = h ∙ ap (leads_to c saio moof) (sym (ap (λ (x : Entries). x.at) p ∙ entries_at t c senc))

-- ---- what stands in a chunk whose boxes are right, with a `senc`

module _ {t : Track} {c : List ℕ} {top : Top} {f : Inner} (g : Right t c top f) where
  -- the head of the box
  module _ (w : 0 < f.senc.len) where
    pub senc-head : 16 ≤ f.senc.len
    senc-head = senc-stands t c f.senc g.senc-ok w

    -- as many entries as samples
    pub senc-walk : {e : Entries} {r : Run} → e ≡ R.entries t c top f → r ≡ R.run t c top f → counts t c top f ≡ true
        → FewPairs c e r.count subsamples_most
    senc-walk p q h =
        rw (p, q, ← (counts-hold t c top f h).counted) (senc-few t c f.senc g.senc-in g.senc-ok w g.subsamples refl)

  -- and a number for each in the `saiz`
  pub infos-here : {r : Run} → r ≡ R.run t c top f → counts t c top f ≡ true → r.count ≤ saiz_count c f.saiz
  infos-here q h = omega (arith, (counts-hold t c top f h).infos, ap (λ (x : Run). x.count) q)

-- The rules on samples hold of boxes that say what a canonical set has, wherever those boxes stand. Assumes nothing.
use Prim.Native.Nat.{ℕ, zero, suc, ◌+◌, ◌%◌, ◌≤◌, ◌<◌}
use native.Mathlib.Omega.{arith}
use mathlib.Core.Path.{◌≡◌, refl, sym, ◌∙◌, ap}
use mathlib.Core.Bool.{Bool, true, false, cond, not, ◌&&◌, ◌||◌}
use mathlib.Core.List.{List, []}
use borrow.Author.Tests.{eq-eqb, eqb-true}
use lib.Dec.{eqb}
use Rattle.constants.specs.Maxima.{payload_most}
use Rattle.laws.proofs.TestLaws.{both, neither}
use Rattle.media.specs.Flags.{wide_of, five_of, only}
use Rattle.media.proofs.FlagLaws.{wide-only}
use Rattle.track.specs.declared.Track.{Track}
use Rattle.track.specs.Track.{cenc}
use Rattle.field_set.specs.Lawful.{has, value_at, count_in}
use Rattle.field_set.proofs.LawfulLaws.{lawful-facts}
use Rattle.cmaf_read_shape.specs.declared.top.Top.{Top}
use Rattle.cmaf_read_shape.specs.declared.inner.Inner.{Inner}
use Rattle.cmaf_read_shape.specs.Parts.{body_of}
use Rattle.cmaf_read_shape.specs.Words.{word_of}
use Rattle.cmaf_read_trun.specs.Rows.{sample_flags, count_of, run_of, cell}
use Rattle.cmaf_read_trun.specs.Samples.{each_from, column_of}
use Rattle.cmaf_read_trun.specs.Columns.{all_only}
use Rattle.cmaf_read_rules.specs.Rules.{defaults, run, flags_ok, sizes_ok, unprotected_ok}
use Rattle.cmaf_read_facts.specs.Given.{Canonical}
use Rattle.rebuilt.specs.Read.{Read}
use Rattle.field_rules.proofs.Bounds.{Bounded, bounded}
use Rattle.field_set.proofs.RuleLaws.{ruled}
use Rattle.rebuilt_set.proofs.SizeLines.{sizes-are}
use Rattle.rebuilt_rules.proofs.SizesAdd.{sizes-add}

-- flags that have no other bit, one by one
each-only : (f : ℕ → ℕ) (n : ℕ) → ((i : ℕ) → i < n → only (f i) ≡ true) → (k i : ℕ) → i + k ≤ n → all_only (each_from f k i) ≡ true
unfolding each_from all_only
each-only f n h zero i lt = refl
each-only f n h (suc k) i lt = both _ _ (h i (omega arith)) (each-only f n h k (suc i) (omega arith))

-- flags that a field has, or else others
only_one : (a : Bool) (v other : ℕ) → (a ≡ true → v ≤ 31) → only other ≡ true → only (cond a (wide_of v) other) ≡ true
only_one true v other h e = wide-only v (let q = h refl in omega arith)
only_one false v other h e = e

-- no flags
only_none : only 0 ≡ true
unfolding only wide_of five_of
only_none = refl

module _ {t : Track} {c : List ℕ} {f : Inner} {w : List ℕ} {n offset : ℕ} (top : Top) (k : Read t c f w n offset) (g : Canonical t w n) where
  -- no flag stands that a chunk can't have
  pub flags-rule : t.iv_size ≤ 16 → t.flags ≤ 31 → flags_ok c f.trun (defaults t c top f).flags (run t c top f) ≡ true
  unfolding flags_ok column_of all_only
  flags-rule iv own =
      rw (k.flags, k.trun.first-is, k.trun.has-flags)
      (rw (
        only_one (has 8 w) (value_at 8 0 w) (wide_of t.flags) (λ e. bounds.flags e 0 (omega arith)) (wide-only t.flags (omega arith)),
        only_one (has 12 w) (value_at 12 0 w) 0 (λ e. bounds.first e 0 (omega arith)) only_none,
      )
      (both _ _ refl (by (has 7 w) refl)))
    where
      bounds : Bounded t w
      bounds = bounded t w g.long iv g.is_lawful

      by : (a : Bool) → has 7 w ≡ a → all_only (cond a (each_from (cell c (run_of c f.trun) sample_flags) (count_of c f.trun) 0) []) ≡ true
      by true e =
          each-only (cell c (run_of c f.trun) sample_flags) (count_in w)
          (λ i lt. ap only (k.trun.flags-at e i lt) ∙ wide-only (value_at 7 i w) (let q = bounds.all-flags e i lt in omega arith))
          (count_of c f.trun) 0 (omega (arith, k.trun.count))
      by false e = refl

  -- sizes sum to the payload; a `trun` without samples has its data offset alone
  pub sizes-rule : n ≤ payload_most → (body_of top.mdat).len ≡ n → (count_in w ≡ 0 → word_of c f.trun % 0x100_0000 ≡ 1)
      → sizes_ok c top.mdat (defaults t c top f).size (run t c top f) ≡ true
  unfolding sizes_ok
  sizes-rule short body alone =
      rw (sizes-are k, sizes-add t w n g.long (lawful-facts t w g.is_lawful).count short g.sizes, body, eq-eqb n n refl, k.trun.count)
      (by (eqb (count_in w) 0) refl)
    where
      by : (z : Bool) → eqb (count_in w) 0 ≡ z → (not z || eqb (word_of c f.trun % 0x100_0000) 0x1) ≡ true
      by true e = eq-eqb _ _ (alone (eqb-true _ _ e))
      by false e = refl

  -- without IVs and subsamples there is no protection, or no sample
  pub unprotected-rule : (has 9 w || has 11 w) ≡ false → unprotected_ok t c top f ≡ true
  unfolding unprotected_ok
  unprotected-rule e =
      rw k.trun.count (by (eqb t.protection cenc) (eqb (count_in w) 0) (sym (neither (has 9 w) (has 11 w) e).0 ∙ (ruled t w g.is_lawful).ivs))
    where
      by : (b d : Bool) → false ≡ (b && not d) → (not b || d) ≡ true
      by true true r = refl
      by true false r = r
      by false d r = refl

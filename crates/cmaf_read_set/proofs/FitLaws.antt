-- Every field of a chunk's set has room in it. Assumes nothing.
use Prim.Native.Nat.{ℕ, zero, suc, ◌-◌, ◌/◌, ◌≤◌, ◌<◌}
use native.Mathlib.Nat.{not-suc-le-zero, le_of_suc-le-suc, mul-le-mul}
use native.Mathlib.Omega.{arith}
use mathlib.Core.Path.{◌≡◌, refl}
use mathlib.Core.Bool.{Bool, true, false, false≢true, not, ◌&&◌}
use mathlib.Core.List.{List, [], ◌∷◌, map}
use borrow.Author.Tests.{eqb-false}
use lib.Dec.{eqb}
use lib.ListN.{length, get_or, take, length-map, length-take}
use Rattle.constants.specs.Maxima.{samples_most, subsamples_most}
use Rattle.laws.specs.Tests.{sum}
use Rattle.laws.proofs.TestLaws.{and_left}
use Rattle.track.specs.declared.Track.{Track}
use Rattle.cmaf_read_shape.specs.declared.inner.Inner.{Inner}
use Rattle.field_table.specs.declared.lines.Line.{Line}
use Rattle.field_table.specs.Lines.{lines, spare}
use Rattle.field_table.proofs.LineLaws.{line-count}
use Rattle.cmaf_read_trun.specs.declared.rows.Run.{Run}
use Rattle.cmaf_read_trun.specs.Rows.{has_column, durations, offsets, sample_flags}
use Rattle.cmaf_read_trun.specs.Samples.{column_of, sizes_of}
use Rattle.cmaf_read_senc.specs.declared.entries.Entries.{Entries}
use Rattle.cmaf_read_senc.proofs.SencLaws.{senc-stands, entries-iv}
use Rattle.field_rules.proofs.SetLaws.{Fits, AllFit}
use Rattle.cmaf_read_set.specs.Entries.{all_ivs, all_counts, all_clear, all_protected}
use Rattle.cmaf_read_samples.specs.Held.{held_if}
use Rattle.cmaf_read_set.specs.Set.{held_for, field_of, run, entries}
use Rattle.cmaf_read_set.specs.Gatherable.{Gatherable}
use Rattle.cmaf_read_trun.proofs.EachLaws.{each-length}
use Rattle.cmaf_read_set.proofs.EntryLengths.{ivs-length, counts-length, all-clear-length, all-protected-length, senc-counts}

-- what holds of each line of a run, holds of the one at an index
abbrev pub Each : (Line → Type 0) → List Line → Type 0
Each P [] = Unit {0}
Each P (l ∷ ls) = P l × Each P ls

pub each_at : (P : Line → Type 0) (ls : List Line) → Each P ls → (i : ℕ) → i < length ls → P (get_or ls i spare)
each_at P [] h i lt = absurd (not-suc-le-zero lt)
each_at P (l ∷ ls) h zero lt = h.0
each_at P (l ∷ ls) h (suc i) lt = each_at P ls h.1 i (le_of_suc-le-suc lt)

-- the line with the number i
abbrev line : ℕ → Line
line i = get_or lines i spare

-- a field fits if its values do where it stands; one value always does
held_fits : (l : Line) (b : Bool) (vs : List ℕ) → (b ≡ true → length vs ≤ l.room) → Fits l (held_if b vs)
unfolding held_if
held_fits l true vs h = h refl
held_fits l false vs h = tt

one-fits : (l : Line) (b : Bool) (v : ℕ) → 1 ≤ l.room → Fits l (held_if b (v ∷ []))
one-fits l b v h = held_fits l b (v ∷ []) (λ _. h)

-- the values of a column, and the sizes of all but the last
pub column-length : (c : List ℕ) (r : Run) (column : ℕ) → has_column r column ≡ true → length (column_of c r column) ≡ r.count
unfolding column_of
column-length c r column h = rw h (each-length _ r.count 0)

sizes-length : (c : List ℕ) (r : Run) (default : ℕ) → r.count ≤ samples_most → length (take (r.count - 1) (sizes_of c r default)) ≤ 63
unfolding sizes_of
sizes-length c r default h = omega (arith, length-take (r.count - 1) (sizes_of c r default))

-- something stands
pub some_bytes : (n : ℕ) (b : Bool) → (not (eqb n 0) && b) ≡ true → 0 < n
some_bytes n b h = by (eqb n 0) refl (and_left (not (eqb n 0)) b h)
  where
    by : (t : Bool) → eqb n 0 ≡ t → not t ≡ true → 0 < n
    by true e k = absurd (false≢true k)
    by false e k = let z : n ≡ 0 → ⊥ = eqb-false n 0 e in omega arith

module _ (t : Track) (c : List ℕ) (f : Inner) (g : Gatherable t c f) where
  abbrev e : Entries
  e = entries t c f

  -- at most two words of an IV for each of at most 64 entries
  ivs-fit : 0 < f.senc.len → length (all_ivs c e e.count e.at) ≤ 128
  ivs-fit h =
      let n : e.count ≤ samples_most = g.entries h in
      let w : e.iv / 8 ≤ 2 = omega (arith, entries-iv t c f.senc, g.iv) in
      omega (arith, ivs-length c e e.count e.at, mul-le-mul n w)

  -- a count for each of them
  counts-fit : 0 < f.senc.len → length (all_counts c e e.count e.at) ≤ samples_most
  counts-fit h = omega (arith, counts-length c e e.count e.at, g.entries h)

  -- the counts add up to the subsamples, and there are so many clear and protected bytes
  sum_fits : 0 < f.senc.len → sum (all_counts c e e.count e.at) ≤ subsamples_most
  sum_fits h = omega (arith, senc-counts t c f.senc g.senc-in (senc-stands t c f.senc g.senc-ok h) g.senc-ok, g.subsamples)

  clear-fit : 0 < f.senc.len → length (all_clear c e e.count e.at) ≤ subsamples_most
  clear-fit h = omega (arith, all-clear-length c e e.count e.at, sum_fits h)

  protected-fit : 0 < f.senc.len → length (all_protected c e e.count e.at) ≤ subsamples_most
  protected-fit h = omega (arith, all-protected-length c e e.count e.at, sum_fits h)

  -- a column, as it is or in another form
  column_fits : (column : ℕ) → has_column (run t c f) column ≡ true → length (column_of c (run t c f) column) ≤ samples_most
  column_fits column h = omega (arith, column-length c (run t c f) column h, g.samples)

  mapped-fits : (p : ℕ → ℕ) (column : ℕ) → has_column (run t c f) column ≡ true → length (map p (column_of c (run t c f) column)) ≤ samples_most
  mapped-fits p column h = omega (arith, length-map (column_of c (run t c f) column) p, column_fits column h)

  -- line by line; id 16 never stands
  table_fits : Each (λ l. Fits l (field_of t c f l)) lines
  unfolding lines held_for
  table_fits = (
    held_fits (line 0) _ _ (λ _. sizes-length c (run t c f) _ g.samples),
    (
      one-fits (line 1) _ _ (omega arith),
      (
        held_fits (line 2) _ _ (λ h. column_fits durations h),
        (
          one-fits (line 3) _ _ (omega arith),
          (
            held_fits (line 4) _ _ (λ h. mapped-fits _ offsets h),
            (
              one-fits (line 5) _ _ (omega arith),
              (
                held_fits (line 6) _ _ (λ h. mapped-fits _ sample_flags h),
                (
                  one-fits (line 7) _ _ (omega arith),
                  (
                    held_fits (line 8) _ _ (λ h. ivs-fit (some_bytes _ _ h)),
                    (
                      held_fits (line 9) _ _ (λ h. counts-fit (some_bytes _ _ h)),
                      (
                        one-fits (line 10) _ _ (omega arith),
                        (
                          held_fits (line 11) _ _ (λ h. clear-fit (some_bytes _ _ h)),
                          (
                            held_fits (line 12) _ _ (λ h. protected-fit (some_bytes _ _ h)),
                            (
                              tt,
                              tt,
                            ),
                          ),
                        ),
                      ),
                    ),
                  ),
                ),
              ),
            ),
          ),
        ),
      ),
    ),
  )

  -- every field has room
  pub all-fit : AllFit (field_of t c f)
  all-fit i lt = each_at (λ l. Fits l (field_of t c f l)) lines table_fits i (omega (arith, line-count))

-- Duration, offset and flags of a sample are what the set says. Assumes nothing.
use Prim.Native.Nat.{ℕ, ◌/◌, ◌≤◌, ◌<◌}
use native.Mathlib.Nat.{zero-add}
use native.Mathlib.Omega.{arith}
use mathlib.Core.Path.{◌≡◌, refl, sym, ◌∙◌, ap}
use mathlib.Core.Bool.{Bool, true, false, cond, ◌&&◌, ◌||◌}
use mathlib.Core.List.{List, map}
use lib.Dec.{eqb}
use lib.IntN.{pos, ◌-ℤ◌}
use lib.ListN.{length, get_or, length-map, get_or-map}
use Rattle.laws.specs.Tests.{all_le}
use Rattle.laws.proofs.ListLaws.{get_d-in}
use Rattle.laws.proofs.RowLaws.{row-each}
use Rattle.laws.proofs.TestLaws.{left, right, both_of, le-at}
use Rattle.media.specs.Flags.{wide_of, five_of, only}
use Rattle.media.proofs.FlagLaws.{only-wide}
use Rattle.track.specs.declared.Track.{Track}
use Rattle.field_set.specs.Lawful.{has, value_at}
use Rattle.cmaf_read_moof.specs.declared.defaults.Defaults.{Defaults}
use Rattle.cmaf_read_trun.specs.declared.rows.Run.{Run}
use Rattle.cmaf_read_shape.specs.Words.{bit_of}
use Rattle.cmaf_read_trun.specs.Rows.{durations, offsets, sample_flags, first, has_column, cell, first_flags}
use Rattle.cmaf_read_trun.specs.Samples.{column_of}
use Rattle.cmaf_read_trun.proofs.EachLaws.{column-at}
use Rattle.cmaf_read_samples.specs.Held.{raised}
use Rattle.cmaf_read_set.specs.Set.{defaults, run, chunk_set}
use Rattle.cmaf_read_set.proofs.FitLaws.{column-length}
use Rattle.cmaf_read_set.proofs.SetSays.{says-value, says-choice, says_other}
use Rattle.cmaf_read_rules.specs.Rules.{flags_ok, offsets_ok}
use Rattle.cmaf_read_trun.proofs.SampleLaws.{flags-row, column-some}
use Rattle.cmaf_read_chunk.specs.Accepted.{inner}
use Rattle.cmaf_read_chunk.proofs.ChunkFacts.{Facts}
use Rattle.cmaf_read_chunk.proofs.SetValues.{column-le}
use Rattle.meaning.specs.Meaning.{column_at, flags_at, offset_at, signed}
use Rattle.meant.proofs.OffsetMeans.{raised-low, raised-signed}

module _ (t : Track) (c : List ℕ) (a : Facts t c) (i : ℕ) (lt : i < (run t c (inner c)).count) where
  abbrev w : List ℕ
  w = chunk_set t c (inner c)

  abbrev r : Run
  r = run t c (inner c)

  abbrev d : Defaults
  d = defaults t c (inner c)

  -- it has a number in each column
  here : (column : ℕ) → has_column r column ≡ true → i < length (column_of c r column)
  here column h = omega (arith, column-length c r column h)

  -- which the set has in another form
  mapped-here : (g : ℕ → ℕ) (column : ℕ) → has_column r column ≡ true → i < length (map g (column_of c r column))
  mapped-here g column h = omega (arith, here column h, length-map (column_of c r column) g)

  mapped_at : (g : ℕ → ℕ) (column : ℕ) → has_column r column ≡ true → get_or (map g (column_of c r column)) i 0 ≡ g (cell c r column i)
  mapped_at g column h =
      get_d-in (map g (column_of c r column)) i 0 (g 0) (mapped-here g column h)
      ∙ get_or-map g (column_of c r column) i 0
      ∙ ap g (column-at c r column i lt h)

  -- ---- the duration

  pub duration-means : column_at t c (inner c) durations d.duration i ≡ cond (has 3 w) (value_at 3 i w) (cond (has 4 w) (value_at 4 0 w) t.duration)
  unfolding column_at
  duration-means =
      sym
      (ap (cond (has 3 w) (value_at 3 i w)) (says_other t.duration a.said.duration)
      ∙ says-choice a.said.each-duration i (cell c r durations i) d.duration (here durations) (column-at c r durations i lt))

  -- ---- flags

  -- those that a sample has in its row or by default, of 32 bits; and what the set says of it, in five
  abbrev own : ℕ
  own = cond (has_column r sample_flags) (cell c r sample_flags i) d.flags

  abbrev later : ℕ
  later = cond (has 7 w) (value_at 7 i w) (cond (has 8 w) (value_at 8 0 w) t.flags)

  own-means : own ≡ wide_of later
  unfolding flags_ok
  own-means = by (has_column r sample_flags) refl ∙ ap wide_of (sym said)
    where
      said : later ≡ cond (has_column r sample_flags) (five_of (cell c r sample_flags i)) (five_of d.flags)
      said =
          ap (cond (has 7 w) (value_at 7 i w)) (says_other t.flags a.said.flags)
          ∙ says-choice a.said.each-flags i (five_of (cell c r sample_flags i)) (five_of d.flags) (mapped-here five_of sample_flags)
          (mapped_at five_of sample_flags)

      by : (x : Bool) → has_column r sample_flags ≡ x
          → cond x (cell c r sample_flags i) d.flags ≡ wide_of (cond x (five_of (cell c r sample_flags i)) (five_of d.flags))
      by true e =
          let all = rw (column-some c r sample_flags e) at (right _ _ a.rules.flags) in
          only-wide (cell c r sample_flags i) (rw zero-add at (row-each (flags-row (cell c r sample_flags)) r.count 0 i all lt))
      by false e = only-wide d.flags (both_of (only d.flags) (only (first_flags c (inner c).trun)) (left _ _ a.rules.flags)).0

  -- the first sample may have its own
  pub flags-means : flags_at t c (inner c) i ≡ wide_of (cond (eqb i 0 && has 12 w) (value_at 12 0 w) later)
  unfolding flags_at column_at flags_ok
  flags-means = by (eqb i 0)
    where
      b : Bool
      b = eqb (bit_of r.word first) 1

      ones : ℕ
      ones = first_flags c (inner c).trun

      of-first : (x : Bool) → cond x ones own ≡ wide_of (cond x (five_of ones) later)
      of-first true = only-wide ones (both_of (only d.flags) (only ones) (left _ _ a.rules.flags)).1
      of-first false = own-means

      by : (x : Bool) → cond (x && b) ones own ≡ wide_of (cond (x && has 12 w) (value_at 12 0 w) later)
      by true = of-first b ∙ ap wide_of (sym (says-choice a.said.first-flags 0 (five_of ones) later (λ _. omega arith) (λ _. refl)))
      by false = own-means

  -- ---- the composition offset

  pub offset-means : offset_at t c (inner c) i ≡ cond (has 5 w) (pos (value_at 5 i w) -ℤ pos 0x8000_0000) (pos 0)
  unfolding offset_at offsets_ok
  offset-means =
      by (has_column r offsets) refl
      ∙ sym (ap (λ (x : Bool). cond x (pos (value_at 5 i w) -ℤ pos 0x8000_0000) (pos 0)) a.said.each-offset.stands)
    where
      v : ℕ
      v = cell c r offsets i

      within : (m : ℕ) → has_column r offsets ≡ true → all_le m (column_of c r offsets) ≡ true → v ≤ m
      within m e h = let q : get_or (column_of c r offsets) i 0 ≡ v = column-at c r offsets i lt e in omega (arith, le-at m (column_of c r offsets) i h)

      version : has_column r offsets ≡ true → (x : Bool) → eqb (r.word / 0x100_0000) 1 ≡ x → cond x (signed v) (pos v) ≡ pos (raised v) -ℤ pos 0x8000_0000
      version e true q = sym (raised-signed v (omega (arith, within _ e (column-le c a.bytes r offsets))))
      version e false q =
          let k : v ≤ 0x7fff_ffff = within 0x7fff_ffff e (sym (ap (λ (x : Bool). x || all_le 0x7fff_ffff (column_of c r offsets)) q) ∙ a.rules.offsets) in
          sym (raised-low v (omega arith))

      by : (x : Bool) → has_column r offsets ≡ x
          → cond x (cond (eqb (r.word / 0x100_0000) 1) (signed v) (pos v)) (pos 0) ≡ cond x (pos (value_at 5 i w) -ℤ pos 0x8000_0000) (pos 0)
      by true e =
          version e (eqb (r.word / 0x100_0000) 1) refl
          ∙ ap (λ (x : ℕ). pos x -ℤ pos 0x8000_0000)
          (sym (says-value a.said.each-offset (a.said.each-offset.stands ∙ e) i (mapped-here raised offsets e) ∙ mapped_at raised offsets e))
      by false e = refl

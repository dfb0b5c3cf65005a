-- What the code does: the words x with what it has read stored at its place, one field after another, and of a `senc` one entry after another.
-- ==== What only mirrors the code
use Rattle.std.specs.Prelude.{ℕ, zero, suc, ◌+◌, ◌*◌, ◌/◌, Bool, cond, not, List, [], ◌∷◌, eqb, set}
use Rattle.std.proofs.lemmas.List.Edits.{sets}
use Rattle.field_table.specs.declared.lines.Line.{Line}
use Rattle.field_table.specs.Lines.{sizes_at, description_at, durations_at, duration_at, offsets_at, size_at, flags_at, default_flags_at}
use Rattle.field_table.specs.Lines.{ivs_at, subsamples_at, clear_at, protected_at, lines, line_for}
use Rattle.media.specs.Flags.{five_of}
use Rattle.track.specs.declared.Track.{Track}
use Rattle.field_rules.specs.Fields.{words_of}
use Rattle.cmaf_read_moof.specs.declared.defaults.Defaults.{Defaults}
use Rattle.cmaf_read_trun.specs.declared.rows.Run.{Run}
use Rattle.cmaf_read_trun.specs.Rows.{durations, offsets, sample_flags}
use Rattle.cmaf_read_samples.specs.declared.cells.Way.TheVariants.{Plain, Raised, Five}
use Rattle.cmaf_read_samples.specs.Held.{held_if}
use Rattle.cmaf_read_samples.specs.Ways.{column_words}
use Rattle.cmaf_read_samples.specs.Sizes.{sizes_held, size_held}
use Rattle.cmaf_read_senc.specs.declared.entries.Entries.{Entries}
use Rattle.cmaf_read_senc.specs.Entries.{pairs_at, length_at}
use Rattle.cmaf_read_set.specs.Entries.{iv_words, clear_bytes, protected_bytes}

-- ---- the fields by what was read: d the defaults of the `tfhd`, r the rows of the `trun`, `equal` whether all samples have one size

module _ (t : Track) (c : List ℕ) (d : Defaults) (r : Run) (equal : Bool) where
  -- ids 1 to 4
  unfoldable pub stored_low : List ℕ → List ℕ
  stored_low x =
      let sizes = sets x sizes_at (words_of (sizes_held c r d.size equal)) in
      let description = sets sizes description_at (words_of (held_if (not (eqb d.description t.description)) (d.description ∷ []))) in
      let each = sets description durations_at (column_words Plain c r durations) in
      sets each duration_at (words_of (held_if (not (eqb d.duration t.duration)) (d.duration ∷ [])))

  -- ids 5 to 8
  unfoldable pub stored_high : List ℕ → List ℕ
  stored_high x =
      let each = sets x offsets_at (column_words Raised c r offsets) in
      let size = sets each size_at (words_of (size_held c r d.size t.size equal)) in
      let flags = sets size flags_at (column_words Five c r sample_flags) in
      let five = five_of d.flags in
      sets flags default_flags_at (words_of (held_if (not (eqb five t.flags)) (five ∷ [])))

-- ---- the entries of a `senc`

-- the fields that a `senc` has
abbrev pub protection_lines : List Line
protection_lines = line_for 9 lines ∷ line_for 11 lines ∷ line_for 13 lines ∷ line_for 15 lines ∷ []

unfoldable pub stored_marks : Entries → List ℕ → List ℕ
stored_marks e x =
    let y = cond (eqb e.iv 0) x (set x ivs_at 1) in
    cond e.map (set (set (set y subsamples_at 1) clear_at 1) protected_at 1) y

-- k subsamples from a place on, the first of which has the number i
abbrev pub stored_pairs : List ℕ → ℕ → ℕ → ℕ → List ℕ → List ℕ
stored_pairs c k at i x = sets (sets x (clear_at + 1 + i) (clear_bytes c k at)) (protected_at + 1 + i) (protected_bytes c k at)

-- an entry at a place, of the sample i, the first of whose subsamples has the number j
unfoldable pub stored_entry : List ℕ → Entries → ℕ → ℕ → ℕ → List ℕ → List ℕ
stored_entry c e at i j x =
    let k = pairs_at c e at in
    let y = sets x (ivs_at + 1 + e.iv / 8 * i) (iv_words c (e.iv / 8) at) in
    cond e.map
    (stored_pairs c k (at + e.iv + 2) j (set y (subsamples_at + 1 + i) k))
    y

-- k entries from a place on
unfoldable pub stored_entries : List ℕ → Entries → ℕ → ℕ → ℕ → ℕ → List ℕ → List ℕ
stored_entries c e zero at i j x = x
stored_entries c e (suc k) at i j x = stored_entries c e k (at + length_at c e at) (suc i) (j + pairs_at c e at) (stored_entry c e at i j x)

-- The set of moof fields of a chunk: which ids stand, and their values. 01, "Full objects".
-- ==== The rules
use Rattle.std.specs.Prelude.{ℕ, Bool, cond, not, ◌&&◌, List, [], ◌∷◌, map, eqb, leb, None}
use Rattle.media.specs.Flags.{five_of}
use Rattle.track.specs.declared.Track.{Track}
use Rattle.cmaf_read_shape.specs.declared.inner.Inner.{Inner}
use Rattle.field_table.specs.declared.lines.Line.{Line}
use Rattle.field_rules.specs.Fields.{Held}
use Rattle.field_rules.specs.Words.{set_words}
use Rattle.cmaf_read_moof.specs.declared.defaults.Defaults.{Defaults}
use Rattle.cmaf_read_trun.specs.declared.rows.Run.{Run}
use Rattle.cmaf_read_shape.specs.Words.{bit_of}
use Rattle.cmaf_read_moof.specs.Headers.{bmdt_of}
use Rattle.cmaf_read_moof.specs.Defaults.{defaults_of}
use Rattle.cmaf_read_trun.specs.Rows.{durations, offsets, sample_flags, first, run_of, has_column, first_flags}
use Rattle.cmaf_read_trun.specs.Samples.{column_of, sizes_of}
use Rattle.cmaf_read_senc.specs.declared.entries.Entries.{Entries}
use Rattle.cmaf_read_senc.specs.Entries.{entries_of}
use Rattle.cmaf_read_samples.specs.Held.{held_if, raised}
use Rattle.cmaf_read_samples.specs.Sizes.{first_size, equal_sizes, sizes_held, size_held}
use Rattle.cmaf_read_set.specs.Entries.{all_ivs, all_counts, all_clear, all_protected}

module _ (t : Track) (c : List ℕ) (f : Inner) where
  abbrev pub defaults : Defaults
  defaults = defaults_of t c f.tfhd

  abbrev pub run : Run
  run = run_of c f.trun

  abbrev pub sizes : List ℕ
  sizes = sizes_of c run defaults.size

  -- the size that all samples have, if they are equal
  abbrev pub size : ℕ
  size = first_size c run defaults.size

  abbrev pub equal : Bool
  equal = equal_sizes c run defaults.size

  abbrev pub several : Bool
  several = leb 2 run.count

  abbrev pub entries : Entries
  entries = entries_of t c f.senc

  -- a `senc` stands, and has IVs; or subsamples
  abbrev pub has_ivs : Bool
  has_ivs = not (eqb f.senc.len 0) && not (eqb entries.iv 0)

  abbrev pub has_map : Bool
  has_map = not (eqb f.senc.len 0) && entries.map

  -- 01: "Id 2, 4, 8: `tfhd` has it and it differs from trex. Id 3, 5, 7, 12: `trun` has it. Samples above 1: sizes unequal, id 1 with all but the last;
  -- equal, id 6, unless trex is that size and not 0 .. Ids 9, 11, 13, 15 as `senc` has them." (D51, D69, D70, D71) And of id 16 02, order 9: "no accepted chunk
  -- reaches the encoder's case for id 16. Show that, and take the case out." It is shown by `no-iv-size` of crate `cmaf_read_chunk` (D142).
  unfoldable pub held_for : ℕ → Held
  held_for id =
      cond (eqb id 1) (sizes_held c run defaults.size equal)
      (cond (eqb id 2) (held_if (not (eqb defaults.description t.description)) (defaults.description ∷ []))
      (cond (eqb id 3) (held_if (has_column run durations) (column_of c run durations))
      (cond (eqb id 4) (held_if (not (eqb defaults.duration t.duration)) (defaults.duration ∷ []))
      (cond (eqb id 5) (held_if (has_column run offsets) (map raised (column_of c run offsets)))
      (cond (eqb id 6) (size_held c run defaults.size t.size equal)
      (cond (eqb id 7) (held_if (has_column run sample_flags) (map five_of (column_of c run sample_flags)))
      (cond (eqb id 8) (held_if (not (eqb (five_of defaults.flags) t.flags)) (five_of defaults.flags ∷ []))
      (cond (eqb id 9) (held_if has_ivs (all_ivs c entries entries.count entries.at))
      (cond (eqb id 11) (held_if has_map (all_counts c entries entries.count entries.at))
      (cond (eqb id 12) (held_if (eqb (bit_of run.word first) 1) (five_of (first_flags c f.trun) ∷ []))
      (cond (eqb id 13) (held_if has_map (all_clear c entries entries.count entries.at))
      (cond (eqb id 15) (held_if has_map (all_protected c entries entries.count entries.at))
      None))))))))))))

  abbrev pub field_of : Line → Held
  field_of l = held_for l.id

  -- the words of the set
  unfoldable pub chunk_set : List ℕ
  chunk_set = set_words (bmdt_of c f.tfdt) run.count field_of

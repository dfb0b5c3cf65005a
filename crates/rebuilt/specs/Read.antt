-- The boxes of a `moof` as they are read, and that they say what a set w has, with n bytes of payload.
-- ==== What only proofs need
use Rattle.std.specs.Prelude.{ℕ, ◌+◌, ◌*◌, ◌^◌, ◌<◌, ◌≡◌, Bool, true, false, cond, ◌||◌, List, ◌++◌, eqb, ltb, length, get_or}
use Rattle.track.specs.declared.Track.{Track}
use Rattle.media.specs.Flags.{wide_of}
use Rattle.field_table.specs.Lines.{bmdt_at}
use Rattle.field_set.specs.Lawful.{has, value_at, count_in}
use Rattle.byte_parts.specs.declared.Part.{Part}
use Rattle.cmaf_read_shape.specs.declared.inner.Inner.{Inner}
use Rattle.cmaf_read_shape.specs.Parts.{part}
use Rattle.boxes.specs.Box.{flag_when}
use Rattle.cmaf_write_senc.specs.Protected.{senc_box}
use Rattle.effective.specs.Sizes.{size_of}
use Rattle.cmaf_write_moof.specs.Moof.{offset_field}
use Rattle.cmaf_read_shape.specs.Words.{word_of, bit_of}
use Rattle.cmaf_read_moof.specs.Headers.{tfdt_ok, bmdt_of}
use Rattle.cmaf_read_moof.specs.Defaults.{tfhd_ok, field_of, defaults_of}
use Rattle.cmaf_read_trun.specs.Rows.{durations, sizes, sample_flags, offsets, first, count_of, data_offset, run_of, first_flags, has_column, cell}
use Rattle.cmaf_read_shape.specs.Left.{Left}

-- the `senc` that was found: none, or the one that was written
pub data Senc (t : Track) (c w : List ℕ) (b : Part) : Type 0 where
  lacks : (has 9 w || has 11 w) ≡ false → b.len ≡ 0 → Senc t c w b
  stands : (at end : ℕ) (ys : List ℕ) → (has 9 w || has 11 w) ≡ true → b ≡ part at (length (senc_box t w)) → Left c at end (senc_box t w ++ ys) → Senc t c w b

-- version and flags of a `trun`: flags of the first sample, durations, sizes, flags, offsets
abbrev pub trun_word : Bool → Bool → Bool → Bool → Bool → ℕ
trun_word u a n f o =
    1 * 2 ^ 24 + (0x1 + (flag_when u 0x4 + (flag_when a 0x100 + (flag_when n 0x200 + (flag_when f 0x400 + flag_when o 0x800)))))

-- the `trun`, with its data offset
pub record TrunRead (t : Track) (c : List ℕ) (b : Part) (w : List ℕ) (n offset : ℕ) : Type 0 where
  pub word : word_of c b ≡ trun_word (has 12 w) (has 3 w) (ltb 0 (count_in w)) (has 7 w) (has 5 w)
  pub count : count_of c b ≡ count_in w
  pub data-offset : data_offset c b ≡ offset
  pub has_first : eqb (bit_of (word_of c b) first) 1 ≡ has 12 w
  pub first-is : first_flags c b ≡ cond (has 12 w) (wide_of (value_at 12 0 w)) 0
  pub has-durations : has_column (run_of c b) durations ≡ has 3 w
  pub has-sizes : 0 < count_in w → has_column (run_of c b) sizes ≡ true
  pub has-flags : has_column (run_of c b) sample_flags ≡ has 7 w
  pub has-offsets : has_column (run_of c b) offsets ≡ has 5 w
  pub duration-at : has 3 w ≡ true → (i : ℕ) → i < count_in w → cell c (run_of c b) durations i ≡ value_at 3 i w
  pub size-at : (i : ℕ) → i < count_in w → cell c (run_of c b) sizes i ≡ size_of t w n i
  pub flags-at : has 7 w ≡ true → (i : ℕ) → i < count_in w → cell c (run_of c b) sample_flags i ≡ wide_of (value_at 7 i w)
  pub offset-at : has 5 w ≡ true → (i : ℕ) → i < count_in w → cell c (run_of c b) offsets i ≡ offset_field (value_at 5 i w)

-- all of them; `tfhd` and `tfdt` are right, too
pub record Read (t : Track) (c : List ℕ) (f : Inner) (w : List ℕ) (n offset : ℕ) : Type 0 where
  pub time : bmdt_of c f.tfdt ≡ get_or w bmdt_at 0
  pub tfdt-right : tfdt_ok c f.tfdt ≡ true
  pub tfhd-right : tfhd_ok c f.tfhd ≡ true
  pub track : (defaults_of t c f.tfhd).track ≡ t.id
  pub description : field_of c f.tfhd 0x2 t.description ≡ cond (has 2 w) (value_at 2 0 w) t.description
  pub duration : field_of c f.tfhd 0x8 t.duration ≡ cond (has 4 w) (value_at 4 0 w) t.duration
  pub flags : field_of c f.tfhd 0x20 (wide_of t.flags) ≡ cond (has 8 w) (wide_of (value_at 8 0 w)) (wide_of t.flags)
  pub trun : TrunRead t c f.trun w n offset
  pub senc : Senc t c w f.senc

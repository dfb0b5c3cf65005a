-- The `tfhd` and the `tfdt` that are written, read. Assumes nothing.
use Prim.Native.Nat.{ℕ, ◌+◌, ◌*◌, ◌%◌, ◌^◌, ◌<◌}
use native.Mathlib.Nat.{add-zero, add_assoc}
use native.Mathlib.Omega.{arith}
use mathlib.Core.Path.{◌≡◌, refl, ◌∙◌}
use mathlib.Core.Bool.{Bool, true, false, cond, false≢true}
use mathlib.Core.List.{List, ◌++◌}
use borrow.Author.Tests.{eq-eqb}
use lib.ListN.{length, get_or}
use Rattle.laws.specs.Bytes.{be}
use Rattle.laws.proofs.TestLaws.{both}
use Rattle.track.specs.declared.Track.{Track}
use Rattle.media.specs.Flags.{wide_of}
use Rattle.media.proofs.FlagLaws.{wide_at}
use Rattle.field_set.specs.Lawful.{has, value_at}
use Rattle.boxes.specs.Box as B
use Rattle.cmaf_read_tree.specs.Numbers.{u32}
use Rattle.byte_parts.specs.declared.Part.{Part}
use Rattle.cmaf_read_shape.specs.Parts.{part}
use Rattle.boxes.specs.Box.{when, flag_when}
use Rattle.cmaf_write_moof.specs.Moof.{tfhd_flags, tfhd_box, tfdt_box}
use Rattle.cmaf_write_moof.specs.Lengths.{tfhd_length}
use Rattle.cmaf_write_moof.proofs.MoofLaws.{tfhd-length, flag-low, tfdt-length}
use Rattle.cmaf_read_shape.specs.Words.{word_of, bit_of}
use Rattle.cmaf_read_moof.specs.Defaults.{fields_in, tfhd_ok, field_of, defaults_of}
use Rattle.cmaf_read_shape.specs.Left.{Left}
use Rattle.cmaf_read_shape.proofs.LeftLaws.{left-on, left-number, last-number}
use Rattle.rebuilt.specs.Chunk.{Narrow}
use Rattle.rebuilt.proofs.Bits.{tfhd_word, TfhdBits, tfhd-bits}
use Rattle.rebuilt.proofs.FullBoxes.{full-word, full_body, when-past, when-number, when-last}
use Rattle.laws.specs.Tests.{◌and◌}
use Rattle.field_table.specs.Lines.{bmdt_at}
use Rattle.cmaf_read_moof.specs.Headers.{tfdt_ok, bmdt_of}

module _ {c : List ℕ} {at end : ℕ} (t : Track) (w ys : List ℕ) (h : Left c at end (tfhd_box t w ++ ys)) (k : Narrow t w) where
  abbrev b : Part
  b = part at (length (tfhd_box t w))

  abbrev word : ℕ
  word = tfhd_word (has 2 w) (has 4 w) (has 8 w)

  bits : TfhdBits (has 2 w) (has 4 w) (has 8 w)
  bits = tfhd-bits (has 2 w) (has 4 w) (has 8 w)

  abbrev fields : List ℕ
  fields = when (has 2 w) (be 4 (value_at 2 0 w)) ++ (when (has 4 w) (be 4 (value_at 4 0 w)) ++ when (has 8 w) (be 4 (wide_of (value_at 8 0 w))))

  word-is : word_of c b ≡ word
  unfolding tfhd_box tfhd_flags
  word-is =
      let m : 0 * 2 ^ 24 + tfhd_flags w ≡ word = omega arith in
      full-word B.tfhd 0 (tfhd_flags w) _ ys h (omega (arith, flag-low (has 2 w) 0x2, flag-low (has 4 w) 0x8, flag-low (has 8 w) 0x20)) ∙ m

  abbrev last : ℕ
  last = at + 12 + length (be 4 t.id ++ fields)

  body : Left c (at + 12) last (be 4 t.id ++ fields)
  unfolding tfhd_box
  body = full_body B.tfhd 0 (tfhd_flags w) (be 4 t.id ++ fields) ys h

  left-2 : Left c (at + 16) last fields
  left-2 = left-on 4 t.id fields (omega arith) body

  left-4 : Left c (at + 16 + flag_when (has 2 w) 4) last (when (has 4 w) (be 4 (value_at 4 0 w)) ++ when (has 8 w) (be 4 (wide_of (value_at 8 0 w))))
  left-4 = when-past (has 2 w) (value_at 2 0 w) _ left-2

  -- a field that stands, or another value
  field-by : (a : Bool) (flag other v place : ℕ) → bit_of word flag ≡ flag_when a 1 → 4 * fields_in (word % flag) ≡ place
      → (a ≡ true → u32 c (at + 16 + place) ≡ v) → field_of c b flag other ≡ cond a v other
  unfolding field_of
  field-by true flag other v place e f g = rw (word-is, e, f) (g refl)
  field-by false flag other v place e f g = rw (word-is, e)

  -- the reader's defaults
  pub tfhd-back : defaults_of t c b
      ≡ record {
        track = t.id;
        description = cond (has 2 w) (value_at 2 0 w) t.description;
        duration = cond (has 4 w) (value_at 4 0 w) t.duration;
        size = t.size;
        flags = cond (has 8 w) (wide_of (value_at 8 0 w)) (wide_of t.flags);
      }
  tfhd-back =
      rw (
        left-number 4 t.id fields k.track body,
        field-by (has 2 w) 0x2 t.description (value_at 2 0 w) 0 bits.description bits.before-description
            (λ e. rw add-zero (when-number (has 2 w) (value_at 2 0 w) _ left-2 e (k.description e))),
        field-by (has 4 w) 0x8 t.duration (value_at 4 0 w) (flag_when (has 2 w) 4) bits.duration bits.before-duration
            (λ e. when-number (has 4 w) (value_at 4 0 w) _ left-4 e (k.duration e)),
        field-by false 0x10 t.size 0 (4 * fields_in (word % 0x10)) bits.size refl (λ e. absurd (false≢true e)),
        field-by (has 8 w) 0x20 (wide_of t.flags) (wide_of (value_at 8 0 w)) (flag_when (has 2 w) 4 + flag_when (has 4 w) 4) bits.flags bits.before-flags
            (λ e. rw (← add_assoc) (when-last (has 8 w) _ (when-past (has 4 w) (value_at 4 0 w) _ left-4) e (omega (arith, wide_at (value_at 8 0 w))))),
      )

  -- its flags and length are right
  pub tfhd-right : tfhd_ok c b ≡ true
  unfolding tfhd_ok tfhd_length
  tfhd-right = rw (word-is, tfhd-length t w) (both _ _ bits.right (eq-eqb (tfhd_length w) (16 + 4 * fields_in word) (omega (arith, bits.fields))))

module _ {c : List ℕ} {at end : ℕ} (w ys : List ℕ) (h : Left c at end (tfdt_box w ++ ys)) (small : get_or w bmdt_at 0 < 2 ^ 64) where
  abbrev time : Part
  time = part at (length (tfdt_box w))

  tfdt-word : word_of c time ≡ 0x100_0000
  unfolding tfdt_box
  tfdt-word = full-word B.tfdt 1 0 _ ys h (omega arith)

  -- the decode time
  pub tfdt-back : bmdt_of c time ≡ get_or w bmdt_at 0
  unfolding bmdt_of tfdt_box
  tfdt-back = rw tfdt-word (last-number 8 (get_or w bmdt_at 0) small (full_body B.tfdt 1 0 (be 8 (get_or w bmdt_at 0)) ys h))

  -- version, flags and length are right
  pub tfdt-right : tfdt_ok c time ≡ true
  unfolding tfdt_ok ◌and◌
  tfdt-right = rw (tfdt-word, tfdt-length w)

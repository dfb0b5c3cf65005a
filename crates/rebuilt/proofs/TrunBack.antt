-- The `trun` that is written, read. Assumes nothing.
use Prim.Native.Nat.{ℕ, zero, suc, ◌+◌, ◌-◌, ◌*◌, ◌%◌, ◌^◌, ◌<◌}
use native.Mathlib.Nat.{mul-suc}
use native.Mathlib.Omega.{arith}
use mathlib.Core.Path.{◌≡◌, refl, ◌∙◌, subst}
use mathlib.Core.Bool.{Bool, true, false, cond}
use mathlib.Core.List.{List, ◌++◌, append_assoc}
use borrow.Author.Tests.{lt-ltb}
use lib.Dec.{eqb, ltb}
use lib.ListN.{length}
use Rattle.laws.specs.Bytes.{be}
use Rattle.track.specs.declared.Track.{Track}
use Rattle.media.specs.Flags.{wide_of}
use Rattle.media.proofs.FlagLaws.{wide_at}
use Rattle.field_set.specs.Lawful.{has, value_at, count_in}
use Rattle.boxes.specs.Box as B
use Rattle.cmaf_read_tree.specs.Numbers.{u32}
use Rattle.byte_parts.specs.declared.Part.{Part}
use Rattle.cmaf_read_shape.specs.Parts.{part}
use Rattle.boxes.specs.Box.{when, flag_when}
use Rattle.effective.specs.Sizes.{size_of}
use Rattle.cmaf_write_moof.specs.Moof.{offset_field, trun_row, trun_rows, trun_flags, trun_box}
use Rattle.cmaf_write_moof.specs.Lengths.{row_length}
use Rattle.cmaf_write_moof.proofs.MoofLaws.{row-length}
use Rattle.cmaf_read_shape.specs.Words.{word_of, bit_of}
use Rattle.cmaf_read_trun.specs.Rows.{durations, sizes, sample_flags, offsets, columns_in, run_head, run_width, run_of, first_flags, has_column, cell}
use Rattle.cmaf_read_shape.specs.Left.{Left}
use Rattle.cmaf_read_shape.proofs.LeftLaws.{left-to, left-on, left-number}
use Rattle.rebuilt.proofs.Bits.{flag_is, flag-four, TrunBits, trun-bits}
use Rattle.rebuilt.specs.Chunk.{Columns}
use Rattle.rebuilt.specs.Read.{trun_word, TrunRead}
use Rattle.rebuilt.proofs.FullBoxes.{full-word, full_body, when-past, when-number}

module _ {c : List ℕ} {at end : ℕ} (t : Track) (w : List ℕ) (payload offset : ℕ) (ys : List ℕ) (h : Left c at end (trun_box t w payload offset ++ ys))
    (k : Columns t w payload) (small : offset < 2 ^ 32) where
  abbrev b : Part
  b = part at (length (trun_box t w payload offset))

  abbrev word : ℕ
  word = trun_word (has 12 w) (has 3 w) (ltb 0 (count_in w)) (has 7 w) (has 5 w)

  bits : TrunBits (has 12 w) (has 3 w) (ltb 0 (count_in w)) (has 7 w) (has 5 w)
  bits = trun-bits (has 12 w) (has 3 w) (ltb 0 (count_in w)) (has 7 w) (has 5 w)

  abbrev after : List ℕ
  after = when (has 12 w) (be 4 (wide_of (value_at 12 0 w))) ++ trun_rows t w payload (count_in w) 0

  abbrev last : ℕ
  last = at + 12 + length (be 4 (count_in w) ++ (be 4 offset ++ after))

  -- version and flags, count, data offset, and the flags of the first sample
  word-is : word_of c b ≡ word
  unfolding trun_box trun_flags
  word-is = full-word B.trun 1 (trun_flags w) _ ys h bits.small

  body : Left c (at + 12) last (be 4 (count_in w) ++ (be 4 offset ++ after))
  unfolding trun_box
  body = full_body B.trun 1 (trun_flags w) (be 4 (count_in w) ++ (be 4 offset ++ after)) ys h

  left-offset : Left c (at + 16) last (be 4 offset ++ after)
  left-offset = left-on 4 (count_in w) (be 4 offset ++ after) (omega arith) body

  left-first : Left c (at + 20) last after
  left-first = left-on 4 offset after (omega arith) left-offset

  first-by : (a : Bool) → has 12 w ≡ a → cond (eqb (flag_when a 1) 0) 0 (u32 c (at + 20)) ≡ cond a (wide_of (value_at 12 0 w)) 0
  first-by true e = when-number (has 12 w) (wide_of (value_at 12 0 w)) _ left-first e (omega (arith, wide_at (value_at 12 0 w)))
  first-by false e = refl

  -- a column stands where its flag does
  has-column : (column : ℕ) (a : Bool) → bit_of word column ≡ flag_when a 1 → has_column (run_of c b) column ≡ a
  unfolding has_column
  has-column column a e = rw (word-is, e) (flag_is a)

  -- ---- the rows

  abbrev start : ℕ
  start = at + 20 + flag_when (has 12 w) 4

  left-rows : (i j : ℕ) → i + j ≡ count_in w → Left c (start + row_length w * i) last (trun_rows t w payload j i)
  unfolding trun_rows
  left-rows zero j e =
      let n : start + row_length w * 0 ≡ start = omega arith in
      let m : count_in w ≡ j = omega arith in
      rw n (subst (λ (q : ℕ). Left c start last (trun_rows t w payload q 0)) m (when-past (has 12 w) (wide_of (value_at 12 0 w)) _ left-first))
  left-rows (suc i) j e =
      left-to (trun_row w (size_of t w payload i) i) (trun_rows t w payload j (suc i)) (rw (row-length w (size_of t w payload i) i, mul-suc) (omega arith))
      (left-rows i (suc j) (omega arith))

  rows_at : start ≡ at + run_head (word_of c b)
  unfolding run_head
  rows_at = rw (word-is, bits.first) (omega (arith, flag-four (has 12 w)))

  module _ (i : ℕ) (lt : i < count_in w) where
    abbrev row_at : ℕ
    row_at = start + row_length w * i

    some-four : flag_when (ltb 0 (count_in w)) 4 ≡ 4
    some-four = rw (lt-ltb 0 (count_in w) (omega arith))

    width_is : run_width (word_of c b) ≡ row_length w
    unfolding run_width row_length
    width_is = rw word-is (bits.columns ∙ omega (arith, some-four))

    -- the row: each cell stands behind those before it
    abbrev behind : List ℕ
    behind =
        when (has 7 w) (be 4 (wide_of (value_at 7 i w)))
        ++ (when (has 5 w) (be 4 (offset_field (value_at 5 i w))) ++ trun_rows t w payload (count_in w - suc i) (suc i))

    left-row : Left c row_at last (when (has 3 w) (be 4 (value_at 3 i w)) ++ (be 4 (size_of t w payload i) ++ behind))
    unfolding trun_rows trun_row
    left-row =
        let e : count_in w - i ≡ suc (count_in w - suc i) = omega arith in
        simp append_assoc at (rw e at (left-rows i (count_in w - i) (omega arith)))

    left-size : Left c (row_at + flag_when (has 3 w) 4) last (be 4 (size_of t w payload i) ++ behind)
    left-size = when-past (has 3 w) (value_at 3 i w) _ left-row

    left-flags : Left c (row_at + flag_when (has 3 w) 4 + 4) last behind
    left-flags = left-on 4 (size_of t w payload i) behind refl left-size

    -- where a column's value is looked for
    cell_at : (column place : ℕ) → row_at + 4 * columns_in (word % column) ≡ place → cell c (run_of c b) column i ≡ u32 c place
    unfolding cell
    cell_at column place e = rw (width_is, ← rows_at, word-is, e)

  -- all that it says
  pub trun-read : TrunRead t c b w payload offset
  unfolding first_flags
  trun-read =
      record {
        word = word-is;
        count = left-number 4 (count_in w) (be 4 offset ++ after) (omega (arith, k.few)) body;
        data-offset = left-number 4 offset after small left-offset;
        has_first = rw (word-is, bits.first) (flag_is (has 12 w));
        first-is = rw (word-is, bits.first) (first-by (has 12 w) refl);
        has-durations = has-column durations (has 3 w) bits.durations;
        has-sizes = λ z. has-column sizes (ltb 0 (count_in w)) bits.sizes ∙ lt-ltb 0 (count_in w) z;
        has-flags = has-column sample_flags (has 7 w) bits.flags;
        has-offsets = has-column offsets (has 5 w) bits.offsets;
        duration-at = λ e i lt.
            cell_at i lt durations (row_at i lt) (omega (arith, bits.before-durations))
            ∙ when-number (has 3 w) (value_at 3 i w) _ (left-row i lt) e (k.duration e i lt);
        size-at = λ i lt.
            cell_at i lt sizes (row_at i lt + flag_when (has 3 w) 4) (omega (arith, bits.before-sizes))
            ∙ left-number 4 (size_of t w payload i) _ (k.size i lt) (left-size i lt);
        flags-at = λ e i lt.
            cell_at i lt sample_flags (row_at i lt + flag_when (has 3 w) 4 + 4) (omega (arith, bits.before-flags, some-four i lt))
            ∙ when-number (has 7 w) (wide_of (value_at 7 i w)) _ (left-flags i lt) e (omega (arith, wide_at (value_at 7 i w)));
        offset-at = λ e i lt.
            cell_at i lt offsets (row_at i lt + flag_when (has 3 w) 4 + 4 + flag_when (has 7 w) 4) (omega (arith, bits.before-offsets, some-four i lt))
            ∙ when-number (has 5 w) (offset_field (value_at 5 i w)) _ (when-past (has 7 w) (wide_of (value_at 7 i w)) _ (left-flags i lt)) e (omega arith);
      }

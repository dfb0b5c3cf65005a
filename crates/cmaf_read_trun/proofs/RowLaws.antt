-- `trun`: its length, and that its rows, and each cell of them, lie in it. Assumes nothing.
use Prim.Native.Nat.{ℕ, suc, ◌+◌, ◌*◌, ◌/◌, ◌%◌, ◌^◌, ◌≤◌, ◌<◌}
use native.Mathlib.Nat.{mul-le-mul, mul-le-mul_left}
use native.Mathlib.Omega.{arith}
use mathlib.Core.Path.{◌≡◌, refl, sym, ◌∙◌, ap, ap₂}
use mathlib.Core.Bool.{Bool, true, false, ◌&&◌, ◌||◌}
use mathlib.Core.List.{List}
use borrow.Author.Tests.{eqb-true, eq-eqb, ne_eqb}
use lib.Dec.{eqb, leb}
use lib.ListN.{length}
use Rattle.laws.proofs.TestLaws.{right, and_is, either}
use Rattle.byte_parts.specs.declared.Part.{Part}
use Rattle.cmaf_read_shape.specs.Parts.{Inside}
use Rattle.cmaf_read_shape.specs.Words.{word_of, bit_of}
use Rattle.cmaf_read_tree.specs.Numbers.{u32}
use Rattle.cmaf_read_trun.specs.declared.rows.Run.{Run}
use Rattle.cmaf_read_trun.specs.Rows.{columns_in, run_flags_ok, run_head, run_width, count_of, trun_ok, run_of, RowsIn}
use Rattle.cmaf_read_trun.specs.Rows.{first_flags, is_column, has_column, cell, size_at, durations, sizes, sample_flags, offsets, first}
use Rattle.cmaf_read_shape.proofs.WordLaws.{fails, and-three, four-less}

-- ---- the four columns

-- what holds of each of the four holds of any
each : (P : ℕ → Type 0) → P durations → P sizes → P sample_flags → P offsets → (column : ℕ) → is_column column ≡ true → P column
unfolding is_column
each P d s f o column =
    either (P column) (eqb column durations) (eqb column sizes || (eqb column sample_flags || eqb column offsets)) (at durations d)
    (either (P column) (eqb column sizes) (eqb column sample_flags || eqb column offsets) (at sizes s)
    (either (P column) (eqb column sample_flags) (eqb column offsets) (at sample_flags f) (at offsets o)))
  where
    at : (n : ℕ) → P n → eqb column n ≡ true → P column
    at n p e = rw (eqb-true column n e) p

pub column-some : (column : ℕ) → is_column column ≡ true → 0 < column
column-some = each (λ (n : ℕ). 0 < n) (omega arith) (omega arith) (omega arith) (omega arith)

-- a column that is there counts one more than those of the flags below
pub column-counts : (word column : ℕ) → is_column column ≡ true → bit_of word column ≡ 1 → columns_in (word % column) < columns_in word
unfolding columns_in
column-counts word =
    each (λ (n : ℕ). bit_of word n ≡ 1 → columns_in (word % n) < columns_in word)
    (λ h. four-less durations sizes sample_flags offsets word durations 1 0 0 0 (omega arith) (omega arith) (omega arith) (omega arith) refl)
    (λ h. four-less durations sizes sample_flags offsets word sizes 0 1 0 0 (omega arith) (omega arith) (omega arith) (omega arith) refl)
    (λ h. four-less durations sizes sample_flags offsets word sample_flags 0 0 1 0 (omega arith) (omega arith) (omega arith) (omega arith) refl)
    (λ h. four-less durations sizes sample_flags offsets word offsets 0 0 0 1 (omega arith) (omega arith) (omega arith) (omega arith) refl)

-- each of the four is one
pub durations-column : is_column durations ≡ true
unfolding is_column
durations-column = refl

pub sizes-column : is_column sizes ≡ true
unfolding is_column
sizes-column = refl

pub flags-column : is_column sample_flags ≡ true
unfolding is_column
flags-column = refl

pub offsets-column : is_column offsets ≡ true
unfolding is_column
offsets-column = refl

-- ---- the word

-- the three tests of code, by the bits that it has found
pub flags-are : (word f g d s o : ℕ) → f ≡ bit_of word first → g ≡ bit_of word sample_flags → d ≡ bit_of word durations → s ≡ bit_of word sizes
    → o ≡ bit_of word offsets
    → (leb (word / 0x100_0000) 1
    && (eqb (word % 0x100_0000) (0x1 + (first * f + (durations * d + (sizes * s + (sample_flags * g + offsets * o))))) && leb (f + g) 1))
    ≡ run_flags_ok word
unfolding run_flags_ok
flags-are word f g d s o hf hg hd hs ho = rw (hf, hg, hd, hs, ho) (and-three _ _ _)

-- ---- the box

-- the bytes of all rows: at most 16 for each of fewer than 2^32 samples
pub rows-small : (width count : ℕ) → width ≤ 16 → count < 2 ^ 32 → width * count ≤ 16 * 2 ^ 32
rows-small width count h k = let l : count ≤ 2 ^ 32 = omega arith in mul-le-mul h l

module _ (c : List ℕ) (b : Part) where
  pub trun-short : b.len < 20 → false ≡ trun_ok c b
  unfolding trun_ok run_head
  trun-short h = fails _ _ (ne_eqb b.len (run_head (word_of c b) + run_width (word_of c b) * count_of c b) (λ e. omega arith))

  pub trun-is : (word count head width : ℕ) (flags : Bool) → word ≡ word_of c b → count ≡ count_of c b → flags ≡ run_flags_ok word
      → head ≡ run_head word → width ≡ run_width word → (flags && eqb b.len (head + width * count)) ≡ trun_ok c b
  unfolding trun_ok
  trun-is word count head width flags e n f h k =
      ap₂ (λ (x y : ℕ). flags && eqb b.len (x + y * count)) h k
      ∙ ap₂ (λ (t : Bool) (m : ℕ). t && eqb b.len (run_head word + run_width word * m)) f n
      ∙ ap (λ (w : ℕ). run_flags_ok w && eqb b.len (run_head w + run_width w * count_of c b)) e
      ∙ sym (and_is (run_flags_ok (word_of c b)) (eqb b.len (run_head (word_of c b) + run_width (word_of c b) * count_of c b)))

  module _ (ok : trun_ok c b ≡ true) where
    pub trun-length : b.len ≡ run_head (word_of c b) + run_width (word_of c b) * count_of c b
    unfolding trun_ok
    trun-length = eqb-true _ _ (right _ _ ok)

    pub trun-long : 20 ≤ b.len
    unfolding run_head
    trun-long = omega (arith, trun-length)

    -- the first sample's flags lie in the box
    pub first-in : (word : ℕ) → word ≡ word_of c b → (bit_of word first ≡ 0 → ⊥) → 24 ≤ b.len
    unfolding run_head
    first-in word e h =
        let l : bit_of word first ≡ bit_of (word_of c b) first = ap (λ (w : ℕ). bit_of w first) e in
        omega (arith, trun-length)

    -- the rows lie in the chunk
    pub rows_in : Inside c b → RowsIn c (run_of c b)
    rows_in i = record { wide = refl; within = omega (arith, i, trun-length) }

  pub first-none : (word : ℕ) → word ≡ word_of c b → bit_of word first ≡ 0 → 0 ≡ first_flags c b
  unfolding first_flags
  first-none word e h = sym (simp (sym e, eq-eqb (bit_of word first) 0 h))

  pub first-own : (word r : ℕ) → word ≡ word_of c b → (bit_of word first ≡ 0 → ⊥) → r ≡ u32 c (b.at + 20) → r ≡ first_flags c b
  unfolding first_flags
  first-own word r e h s = s ∙ sym (simp (sym e, ne_eqb (bit_of word first) 0 h))

-- ---- a cell

module _ (c : List ℕ) (r : Run) (rows : RowsIn c r) (i : ℕ) (lt : i < r.count) where
  -- the row of a sample lies in the chunk
  pub row_in : r.rows + r.width * i + r.width ≤ length c
  row_in =
      let m : r.width * suc i ≤ r.width * r.count = mul-le-mul_left r.width (omega arith) in
      omega (arith, rows)

  -- and so does the cell of a column that is there
  pub cell_in : (column : ℕ) → is_column column ≡ true → has_column r column ≡ true
      → r.rows + r.width * i + 4 * columns_in (r.word % column) + 4 ≤ length c
  unfolding has_column run_width
  cell_in column k h =
      let s : columns_in (r.word % column) < columns_in r.word = column-counts r.word column k (eqb-true _ _ h) in
      omega (arith, row_in, rows)

pub size-own : (c : List ℕ) (r : Run) (default i v : ℕ) → has_column r sizes ≡ true → v ≡ cell c r sizes i → v ≡ size_at c r default i
unfolding size_at
size-own c r default i v h e = e ∙ sym (simp h)

pub size-default : (c : List ℕ) (r : Run) (default i : ℕ) → has_column r sizes ≡ false → default ≡ size_at c r default i
unfolding size_at
size-default c r default i h = sym (simp h)

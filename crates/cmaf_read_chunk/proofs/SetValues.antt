-- The numbers that a chunk's set has of its boxes keep the bounds of their fields. Assumes nothing.
use Prim.Native.Nat.{ℕ, zero, suc, ◌+◌, ◌-◌, ◌*◌, ◌/◌, ◌%◌, ◌^◌, ◌≤◌, ◌<◌}
use native.Mathlib.Nat.{mul-le-mul_left, mul-one, lt_of_lt_of_le}
use native.Mathlib.Omega.{arith}
use mathlib.Core.Path.{◌≡◌, refl, sym, ◌∙◌, ap}
use mathlib.Core.Bool.{Bool, true, false, false≢true, cond, not, ◌&&◌}
use mathlib.Core.List.{List, [], ◌∷◌, map}
use mathlib.Core.Logic.{◌⊎◌, inl, inr}
use borrow.Author.Tests.{le-leb, eq-eqb, eqb-true}
use lib.Dec.{eqb}
use lib.ListN.{length, get_or, take, length-take, length-drop}
use lib.Pow.{pow-add}
use lib.Seq.{slice}
use Rattle.laws.specs.Bytes.{de}
use Rattle.laws.specs.Tests.{all_le}
use Rattle.laws.proofs.BytesLaws.{pow_pos, bytes_take, bytes_drop, de-lt, bytes-are}
use Rattle.laws.proofs.TestLaws.{both, all_le-append, one-le}
use Rattle.media.specs.Flags.{five_of}
use Rattle.media.proofs.FlagLaws.{five-lt}
use Rattle.cmaf_read_tree.specs.Numbers.{u16, u32, u64}
use Rattle.track.specs.Track.{u32 as most32}
use Rattle.byte_parts.specs.declared.Part.{Part}
use Rattle.cmaf_read_trun.specs.declared.rows.Run.{Run}
use Rattle.cmaf_read_shape.specs.Words.{word_of, bit_of}
use Rattle.cmaf_read_moof.specs.Defaults.{fields_in, field_of}
use Rattle.cmaf_read_trun.specs.Rows.{sizes, columns_in, has_column, cell, size_at}
use Rattle.cmaf_read_trun.specs.Samples.{each_from, column_of, sizes_of}
use Rattle.cmaf_read_senc.specs.declared.entries.Entries.{Entries}
use Rattle.cmaf_read_senc.specs.Entries.{pairs_at, length_at}
use Rattle.cmaf_read_samples.proofs.SizeLaws.{same-all}
use Rattle.cmaf_read_set.specs.Entries.{iv_words, clear_bytes, protected_bytes, all_from, all_ivs, all_counts, all_clear, all_protected}
use Rattle.cmaf_read_samples.specs.Sizes.{all_same}
use Rattle.cmaf_read_samples.specs.Held.{raised}
use Rattle.cmaf_read_trun.proofs.EachLaws.{each_take}

-- ---- lists of numbers within a bound

-- what a function says of some numbers
each-le : (b : ℕ) (f : ℕ → ℕ) → ((i : ℕ) → f i ≤ b) → (k i : ℕ) → all_le b (each_from f k i) ≡ true
unfolding each_from all_le
each-le b f h zero i = refl
each-le b f h (suc k) i = both _ _ (le-leb _ _ (h i)) (each-le b f h k (suc i))

-- and of a list
pub map-le : (b : ℕ) (g : ℕ → ℕ) → ((v : ℕ) → g v ≤ b) → (s : List ℕ) → all_le b (map g s) ≡ true
unfolding all_le
map-le b g h [] = refl
map-le b g h (x ∷ s) = both _ _ (le-leb _ _ (h x)) (map-le b g h s)

-- what stands for each entry of a `senc`
entries-le : (b : ℕ) (c : List ℕ) (e : Entries) (of : ℕ → List ℕ) → ((p : ℕ) → all_le b (of p) ≡ true) → (k at : ℕ)
    → all_le b (all_from c e of k at) ≡ true
unfolding all_from all_le
entries-le b c e of h zero at = refl
entries-le b c e of h (suc k) at =
    all_le-append b (of at) (all_from c e of k (at + length_at c e at)) ∙ both _ _ (h at) (entries-le b c e of h k (at + length_at c e at))

-- flags have five bits, and raised offsets 32
pub five-le : (v : ℕ) → five_of v ≤ 31
five-le v = omega (arith, five-lt v)

pub raised-le : (v : ℕ) → raised v ≤ most32
raised-le v = omega arith

-- a value that is the track's own or small, where it isn't the track's own, or is 0
pub other-le : (v own : ℕ) → (v ≡ own) ⊎ (v ≤ most32) → not (eqb v own) ≡ true → v ≤ most32
other-le v own (inl e) h = absurd (false≢true (sym (ap not (eq-eqb v own e)) ∙ h))
other-le v own (inr l) h = l

pub zero-or-other-le : (v own : ℕ) → (v ≡ own) ⊎ (v ≤ most32) → not (eqb v own && not (eqb v 0)) ≡ true → v ≤ most32
zero-or-other-le v own (inr l) h = l
zero-or-other-le v own (inl e) h = go (eqb v 0) refl (sym (ap (λ (x : Bool). not (x && not (eqb v 0))) (eq-eqb v own e)) ∙ h)
  where
    go : (x : Bool) → eqb v 0 ≡ x → not (true && not x) ≡ true → v ≤ most32
    go true q k = let z : v ≡ 0 = eqb-true v 0 q in omega arith
    go false q k = absurd (false≢true k)

-- ---- sizes that differ have a column

-- a function that says the same of all numbers
same_first : (f : ℕ → ℕ) (v : ℕ) → ((i : ℕ) → f i ≡ v) → (k : ℕ) → all_same (get_or (each_from f k 0) 0 0) (each_from f k 0) ≡ true
unfolding each_from all_same
same_first f v h zero = refl
same_first f v h (suc k) =
    both _ _ (eq-eqb (f 0) (f 0) refl) (ap (λ (w : ℕ). all_same w (each_from f k 1)) (h 0) ∙ same-all f v h k 1)

unequal-column : (c : List ℕ) (r : Run) (default : ℕ) → all_same (get_or (sizes_of c r default) 0 0) (sizes_of c r default) ≡ false
    → has_column r sizes ≡ true
unfolding sizes_of size_at
unequal-column c r default h = by (has_column r sizes) refl
  where
    by : (b : Bool) → has_column r sizes ≡ b → has_column r sizes ≡ true
    by true e = e
    by false e =
        absurd (false≢true (sym h ∙ same_first (size_at c r default) default (λ i. ap (λ (b : Bool). cond b (cell c r sizes i) default) e) r.count))

-- ---- numbers of a chunk

less-wide : (j k : ℕ) → j ≤ k → 256 ^ j ≤ 256 ^ k
less-wide j k h =
    let e : j + (k - j) ≡ k = omega arith in
    rw (← e, pow-add 256 j (k - j)) (rw (mul-one (256 ^ j)) at (mul-le-mul_left (256 ^ j) (pow_pos (k - j))))

module _ (c : List ℕ) (low : all_le 255 c ≡ true) where
  -- k bytes spell a number of k bytes
  spelled : (k at : ℕ) → de (slice at (at + k) c) < 256 ^ k
  spelled k at =
      let n : length (slice at (at + k) c) ≤ k = simp (length-drop, length-take) (omega arith) in
      lt_of_lt_of_le (de-lt (slice at (at + k) c) (bytes_drop at (take (at + k) c) (bytes_take (at + k) c (bytes-are c low))))
      (less-wide (length (slice at (at + k) c)) k n)

  u16-le : (at : ℕ) → u16 c at ≤ 0xffff
  u16-le at = omega (arith, spelled 2 at)

  u32-le : (at : ℕ) → u32 c at ≤ most32
  u32-le at = omega (arith, spelled 4 at)

  u64-le : (at : ℕ) → u64 c at ≤ 0xffff_ffff_ffff_ffff
  u64-le at = omega (arith, spelled 8 at)

  -- a column
  cell-le : (r : Run) (column i : ℕ) → cell c r column i ≤ most32
  unfolding cell
  cell-le r column i = u32-le (r.rows + r.width * i + 4 * columns_in (r.word % column))

  cells-le : (r : Run) (column k : ℕ) → all_le most32 (each_from (cell c r column) k 0) ≡ true
  cells-le r column k = each-le most32 (cell c r column) (cell-le r column) k 0

  pub column-le : (r : Run) (column : ℕ) → all_le most32 (column_of c r column) ≡ true
  unfolding column_of all_le
  column-le r column = by (has_column r column)
    where
      by : (b : Bool) → all_le most32 (cond b (each_from (cell c r column) r.count 0) []) ≡ true
      by true = cells-le r column r.count
      by false = refl

  -- sizes that differ
  pub sizes-le : (r : Run) (default : ℕ) → all_same (get_or (sizes_of c r default) 0 0) (sizes_of c r default) ≡ false
      → all_le most32 (take (r.count - 1) (sizes_of c r default)) ≡ true
  unfolding sizes_of size_at
  sizes-le r default h =
      let y : has_column r sizes ≡ true = unequal-column c r default h in
      ap (all_le most32) (each_take (size_at c r default) (r.count - 1) r.count 0 (omega arith))
      ∙ ap (λ (b : Bool). all_le most32 (each_from (λ i. cond b (cell c r sizes i) default) (r.count - 1) 0)) y
      ∙ cells-le r sizes (r.count - 1)

  -- a field of the `tfhd` is the track's own, or a number of the chunk
  pub field-le : (b : Part) (flag own : ℕ) → (field_of c b flag own ≡ own) ⊎ (field_of c b flag own ≤ most32)
  unfolding field_of
  field-le b flag own =
      let place : ℕ = b.at + 16 + 4 * fields_in (word_of c b % flag) in
      by (eqb (bit_of (word_of c b) flag) 0) (u32 c place) (u32-le place)
    where
      by : (x : Bool) (v : ℕ) → v ≤ most32 → (cond x own v ≡ own) ⊎ (cond x own v ≤ most32)
      by true v h = inl refl
      by false v h = inr h

  -- and so is the size of the first sample
  pub size-le : (r : Run) (default own : ℕ) → (default ≡ own) ⊎ (default ≤ most32)
      → (get_or (sizes_of c r default) 0 0 ≡ own) ⊎ (get_or (sizes_of c r default) 0 0 ≤ most32)
  unfolding sizes_of size_at each_from
  size-le r default own h = first r.count
    where
      by : (x : Bool) (v : ℕ) → v ≤ most32 → (cond x v default ≡ own) ⊎ (cond x v default ≤ most32)
      by true v l = inr l
      by false v l = h

      first : (n : ℕ) → (get_or (each_from (size_at c r default) n 0) 0 0 ≡ own) ⊎ (get_or (each_from (size_at c r default) n 0) 0 0 ≤ most32)
      first zero = inr (omega arith)
      first (suc n) = by (has_column r sizes) (cell c r sizes 0) (cell-le r sizes 0)

  -- what the entries of a `senc` say
  module _ (e : Entries) (k at : ℕ) where
    pub ivs-le : all_le 0xffff_ffff_ffff_ffff (all_ivs c e k at) ≡ true
    unfolding iv_words
    ivs-le = entries-le _ c e _ (λ p. each-le _ (λ j. u64 c (p + 8 * j)) (λ j. u64-le (p + 8 * j)) (e.iv / 8) 0) k at

    pub counts-le : all_le 0xffff (all_counts c e k at) ≡ true
    unfolding pairs_at
    counts-le = entries-le _ c e _ (λ p. one-le _ (pairs_at c e p) (by e.map (u16 c (p + e.iv)) (u16-le (p + e.iv)))) k at
      where
        by : (x : Bool) (v : ℕ) → v ≤ 0xffff → cond x v 0 ≤ 0xffff
        by true v h = h
        by false v h = omega arith

    pub clear-le : all_le 0xffff (all_clear c e k at) ≡ true
    unfolding clear_bytes
    clear-le =
        entries-le _ c e _ (λ p. each-le _ (λ j. u16 c (p + e.iv + 2 + 6 * j)) (λ j. u16-le (p + e.iv + 2 + 6 * j)) (pairs_at c e p) 0) k at

    pub protected-le : all_le most32 (all_protected c e k at) ≡ true
    unfolding protected_bytes
    protected-le =
        entries-le _ c e _
        (λ p. each-le _ (λ j. u32 c (p + e.iv + 2 + 6 * j + 2)) (λ j. u32-le (p + e.iv + 2 + 6 * j + 2)) (pairs_at c e p) 0) k at

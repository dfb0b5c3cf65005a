-- No entry is longer than a `saiz` can say: what it says of a sample is a byte. Assumes nothing.
use Prim.Native.Nat.{ℕ, zero, suc, ◌+◌, ◌*◌, ◌≤◌, ◌<◌}
use native.Mathlib.Omega.{arith}
use mathlib.Core.Path.{◌≡◌, refl}
use mathlib.Core.Bool.{Bool, true, false, cond}
use mathlib.Core.List.{List, [], ◌∷◌}
use borrow.Author.Tests.{le-leb, eqb-true}
use lib.Dec.{eqb}
use lib.ListN.{length, take, length-take, length-drop}
use lib.Seq.{slice}
use Rattle.laws.specs.Bytes.{de, Bytes}
use Rattle.laws.specs.Tests.{all_le}
use Rattle.laws.proofs.BytesLaws.{bytes_take, bytes_drop, bytes-are}
use Rattle.laws.proofs.TestLaws.{left, right, both, and_right}
use Rattle.cmaf_read_tree.specs.Numbers.{u8}
use Rattle.byte_parts.specs.declared.Part.{Part}
use Rattle.field_set.specs.Lawful.{saiz_ok}
use Rattle.cmaf_read_trun.specs.declared.rows.Run.{Run}
use Rattle.cmaf_read_trun.specs.Rows.{size_at}
use Rattle.cmaf_read_senc.specs.declared.entries.Entries.{Entries}
use Rattle.cmaf_read_senc.specs.Entries.{pairs_at, length_at}
use Rattle.cmaf_read_senc.specs.Sizes.{info_size}
use Rattle.cmaf_read_senc.proofs.EntryLaws.{map-yes}
use Rattle.cmaf_read_rules.specs.Rules.{entry_ok, entries_ok}

-- ---- a byte of a chunk

one_byte : (s : List ℕ) → Bytes s → length s ≤ 1 → de s ≤ 255
unfolding de
one_byte [] h n = omega arith
one_byte (b ∷ []) h n = let k : b < 256 = h.0 in omega arith
one_byte (b ∷ d ∷ s) h n = absurd (omega arith)

module _ (c : List ℕ) (low : all_le 255 c ≡ true) where
  byte_low : (at : ℕ) → u8 c at ≤ 255
  byte_low at =
      one_byte (slice at (at + 1) c) (bytes_drop at (take (at + 1) c) (bytes_take (at + 1) c (bytes-are c low)))
      (simp (length-drop, length-take) (omega arith))

  info-low : (b : Part) (i : ℕ) → info_size c b i ≤ 255
  unfolding info_size
  info-low b i = by (eqb (u8 c (b.at + 12)) 0)
    where
      by : (t : Bool) → cond t (u8 c (b.at + 17 + i)) (u8 c (b.at + 12)) ≤ 255
      by true = byte_low (b.at + 17 + i)
      by false = byte_low (b.at + 12)

-- ---- the entries

-- the numbers of subsamples of k entries, one after another from a place on
unfoldable pub counts_from : List ℕ → Entries → ℕ → ℕ → List ℕ
counts_from c e zero at = []
counts_from c e (suc k) at = pairs_at c e at ∷ counts_from c e k (at + length_at c e at)

-- a set keeps its rule on the lengths of entries if it has those of entries that the `saiz` counts right
pub counts-keep : (c : List ℕ) → all_le 255 c ≡ true → (e : Entries) → e.map ≡ true → (saiz : Part) (r : Run) (default k i at : ℕ)
    → entries_ok c e saiz r default k i at ≡ true → saiz_ok e.iv (counts_from c e k at) ≡ true
unfolding entries_ok counts_from saiz_ok
counts-keep c low e m saiz r default zero i at h = refl
counts-keep c low e m saiz r default (suc k) i at h =
    let z : info_size c saiz i ≡ length_at c e at =
    eqb-true _ _ (and_right (entry_ok c e at (size_at c r default i)) (eqb (info_size c saiz i) (length_at c e at)) (left _ _ h)) in
    both _ _ (le-leb (e.iv + (2 + 6 * pairs_at c e at)) 255 (omega (arith, z, info-low c low saiz i, map-yes e (pairs_at c e at) m)))
    (counts-keep c low e m saiz r default k (suc i) (at + length_at c e at) (right _ _ h))

-- The loop of `put_entries`: what is left to store gives the whole. Assumes nothing.
use Prim.Native.Nat.{ℕ, suc, ◌+◌, ◌-◌, ◌≤◌, ◌<◌}
use native.Mathlib.Nat.{sub-zero}
use native.Mathlib.Omega.{arith}
use mathlib.Core.Path.{◌≡◌, ◌∙◌, ap}
use mathlib.Core.Bool.{true}
use mathlib.Core.List.{List}
use lib.ListN.{length}
use Rattle.constants.specs.Maxima.{samples_most, subsamples_most}
use Rattle.track.specs.declared.Track.{Track}
use Rattle.byte_parts.specs.declared.Part.{Part}
use Rattle.cmaf_read_shape.specs.Parts.{Inside}
use Rattle.field_table.specs.Lines.{set_len}
use Rattle.cmaf_read_senc.specs.declared.entries.Entries.{Entries}
use Rattle.cmaf_read_senc.specs.Entries.{pairs_at, length_at, map_length, entries_of, senc_ok, subsamples, FewPairs}
use Rattle.cmaf_read_senc.proofs.EntryLaws.{Left, left-few, left-head, left-pairs, left-next, length-is, left-whole}
use Rattle.cmaf_read_senc.proofs.SencLaws.{senc-left, senc-stands}
use Rattle.cmaf_read_set.specs.Entries.{all_clear}
use Rattle.cmaf_read_set.specs.Stored.{stored_entry, stored_entries}
use Rattle.cmaf_read_set.proofs.EntryStores.{entry_length}
use Rattle.cmaf_read_set.proofs.EntryLengths.{all-clear-length, counts-sum}

-- i entries are stored, with j of all subsamples, and the next stands at p
pub record Entering (c : List ℕ) (e : Entries) (x₀ : List ℕ) (x : List ℕ) (i j p : ℕ) : Type 0 where
  pub end : ℕ
  pub all : ℕ
  pub left : Left c e end (e.count - i) p (all - j)
  pub some : j ≤ all
  pub most : all ≤ subsamples_most
  pub many : e.count ≤ samples_most
  pub iv : e.iv ≤ 16
  pub begun : length x₀ ≡ set_len
  pub long : length x ≡ set_len
  pub stored : stored_entries c e (e.count - i) p i j x ≡ stored_entries c e e.count e.at 0 0 x₀

pub walk_start : (c : List ℕ) (e : Entries) (x₀ : List ℕ) → (e.count ≤ samples_most) × (e.iv ≤ 16) × FewPairs c e e.count subsamples_most
    → length x₀ ≡ set_len → Entering c e x₀ x₀ 0 0 e.at
walk_start c e x₀ h l =
    record {
      end = h.2.end;
      all = h.2.pairs;
      left = rw (sub-zero e.count, sub-zero h.2.pairs) (left-few h.2);
      some = omega arith;
      most = h.2.few;
      many = h.0;
      iv = h.1;
      begun = l;
      long = l;
      stored = rw sub-zero;
    }

-- so many subsamples has the box
pub all-clear : (t : Track) (c : List ℕ) (b : Part) → Inside c b → senc_ok t c b ≡ true → 0 < b.len → subsamples t c b ≤ subsamples_most
    → length (all_clear c (entries_of t c b) (entries_of t c b).count (entries_of t c b).at) ≤ subsamples_most
all-clear t c b i k h s = omega (arith, s, all-clear-length c (entries_of t c b) (entries_of t c b).count (entries_of t c b).at, counts-sum c (entries_of t c b) _ _ _ _ (senc-left t c b i (senc-stands t c b k h) k))

module _ {c : List ℕ} {e : Entries} {x₀ x : List ℕ} {i j p : ℕ} (g : Entering c e x₀ x i j p) where
  pub walk_end : e.count ≤ i → x ≡ stored_entries c e e.count e.at 0 0 x₀
  unfolding stored_entries
  walk_end h = let z : e.count - i ≡ 0 = omega arith in rw z at g.stored

  module _ (h : i < e.count) where
    some_left : 0 < e.count - i
    some_left = omega arith

    -- the entry lies in the chunk: its head, and then all of it
    pub walk-head : p + (e.iv + map_length e 0) ≤ length c
    walk-head = left-head some_left g.left

    pub walk_here : p + length_at c e p ≤ length c
    walk_here = left-whole some_left g.left

    pub walk-pairs : {k : ℕ} → k ≡ pairs_at c e p → j + k ≤ subsamples_most
    walk-pairs q = omega (arith, q, left-pairs some_left g.left, g.some, g.most)

    pub walk-fits : {k len : ℕ} → k ≡ pairs_at c e p → len ≡ map_length e k → p + (e.iv + len) ≤ length c
    walk-fits q r = omega (arith, length-is c e p q r, walk_here)

    stored_on : (n m : ℕ) → m < n
        → stored_entries c e (n - (m + 1)) (p + length_at c e p) (m + 1) (j + pairs_at c e p) (stored_entry c e p m j x)
        ≡ stored_entries c e (n - m) p m j x
    unfolding stored_entries
    stored_on n m k =
        let a : n - m ≡ suc (n - (m + 1)) = omega arith in
        let b : m + 1 ≡ suc m = omega arith in
        rw (a, b)

    pub walk-next : (k len : ℕ) (y : List ℕ) → k ≡ pairs_at c e p → len ≡ map_length e k → y ≡ stored_entry c e p i j x
        → Entering c e x₀ y (i + 1) (j + k) (p + (e.iv + len))
    walk-next k len y q r w =
        let l : e.iv + len ≡ length_at c e p = length-is c e p q r in
        let z : e.count - (i + 1) ≡ e.count - i - 1 = omega arith in
        let s : g.all - (j + k) ≡ g.all - j - pairs_at c e p = omega (arith, q) in
        record {
          end = g.end;
          all = g.all;
          left = rw (l, z, s) (left-next some_left g.left);
          some = omega (arith, q, left-pairs some_left g.left, g.some);
          most = g.most;
          many = g.many;
          iv = g.iv;
          begun = g.begun;
          long = ap length w ∙ entry_length c e p i j x ∙ g.long;
          stored = rw (l, w, q) (stored_on e.count i h ∙ g.stored);
        }

-- The entries of a `senc` against the samples: the subsamples of each add up to its sample's size, and the `saiz` has its length. Assumes nothing.
use Prim.Native.Nat.{ℕ, zero, suc, ◌+◌, ◌-◌, ◌*◌, ◌≤◌, ◌<◌}
use native.Mathlib.Omega.{arith}
use mathlib.Core.Path.{◌≡◌, refl, sym, ◌∙◌, ap, ap₂}
use mathlib.Core.Bool.{Bool, true, false, not, ◌&&◌, ◌||◌}
use mathlib.Core.List.{List}
use lib.Dec.{eqb}
use lib.ListN.{length}
use Rattle.laws.specs.Tests.{◌and◌}
use Rattle.laws.proofs.TestLaws.{and-next, and-end}
use Rattle.constants.specs.Maxima.{subsamples_most}
use Rattle.byte_parts.specs.declared.Part.{Part}
use Rattle.cmaf_read_trun.specs.declared.rows.Run.{Run}
use Rattle.cmaf_read_trun.specs.Rows.{size_at}
use Rattle.cmaf_read_senc.specs.declared.entries.Entries.{Entries}
use Rattle.cmaf_read_senc.specs.Entries.{map_length, pairs_at, length_at}
use Rattle.cmaf_read_senc.specs.Sizes.{info_size}
use Rattle.cmaf_read_senc.proofs.EntryLaws.{map-yes, Left, left-head, left-pairs, left-next, length-is, left-whole}
use Rattle.cmaf_read_rules.specs.Rules.{pairs_sum, entry_ok, entries_ok}

-- ---- an entry

module _ (c : List ℕ) (e : Entries) (at size : ℕ) where
  -- without subsamples
  pub entry-plain : e.map ≡ false → true ≡ entry_ok c e at size
  unfolding entry_ok
  entry-plain h = sym (ap (λ (t : Bool). not t || eqb (pairs_sum c (pairs_at c e at) (at + e.iv + 2)) size) h)

  -- with subsamples: by what they add up to, and that they lie in the chunk
  module _ (h : e.map ≡ true) (k : ℕ) (p : k ≡ pairs_at c e at) where
    pub entry-sum : (v : ℕ) → v ≡ pairs_sum c k (at + e.iv + 2) → eqb v size ≡ entry_ok c e at size
    unfolding entry_ok
    entry-sum v q =
        ap (λ (n : ℕ). eqb n size) (q ∙ ap (λ (n : ℕ). pairs_sum c n (at + e.iv + 2)) p)
        ∙ sym (ap (λ (t : Bool). not t || eqb (pairs_sum c (pairs_at c e at) (at + e.iv + 2)) size) h)

    pub entry-room : at + length_at c e at ≤ length c → at + e.iv + 2 + 6 * k ≤ length c
    entry-room w = omega (arith, map-yes e (pairs_at c e at) h)

-- ---- the walk over the entries

module _ (c : List ℕ) (e : Entries) (saiz : Part) (r : Run) (default : ℕ) where
  entries_none : (k i at : ℕ) → k ≡ 0 → entries_ok c e saiz r default k i at ≡ true
  unfolding entries_ok
  entries_none zero i at h = refl
  entries_none (suc k) i at h = absurd (omega arith)

  entries-more : (k i at : ℕ) → 0 < k
      → ((entry_ok c e at (size_at c r default i) && eqb (info_size c saiz i) (length_at c e at))
      and entries_ok c e saiz r default (k - 1) (suc i) (at + length_at c e at))
      ≡ entries_ok c e saiz r default k i at
  unfolding entries_ok
  entries-more zero i at h = absurd (omega arith)
  entries-more (suc k) i at h =
      let z : suc k - 1 ≡ k = omega arith in
      ap
      (λ (n : ℕ).
      (entry_ok c e at (size_at c r default i) && eqb (info_size c saiz i) (length_at c e at))
      and entries_ok c e saiz r default n (suc i) (at + length_at c e at))
      z

  -- after i of n entries: the test so far, with those of the entries that are left, which end with the box and have few subsamples, is the test
  -- of all
  pub record Checking (n : ℕ) (ok : Bool) (p i : ℕ) : Type 0 where
    pub end : ℕ
    pub pairs : ℕ
    pub few : pairs ≤ subsamples_most
    pub left : Left c e end (n - i) p pairs
    pub rest : (ok and entries_ok c e saiz r default (n - i) i p) ≡ entries_ok c e saiz r default n 0 e.at

  pub checking-start : (n : ℕ) {end pairs : ℕ} → Left c e end n e.at pairs → pairs ≤ subsamples_most → Checking n true e.at 0
  unfolding ◌and◌
  checking-start n {end} {pairs} l h =
      let z : n - 0 ≡ n = omega arith in
      record {
        end = end;
        pairs = pairs;
        few = h;
        left = rw z l;
        rest = ap (λ (k : ℕ). entries_ok c e saiz r default k 0 e.at) z;
      }

  module _ {n : ℕ} {ok : Bool} {p i : ℕ} (g : Checking n ok p i) where
    module _ (h : i < n) where
      some_left : 0 < n - i
      some_left = omega arith

      -- the next entry lies in the chunk, its IV and the number of its subsamples with it
      pub checking-head : p + (e.iv + map_length e 0) ≤ length c
      checking-head = left-head some_left g.left

      pub checking-pairs : pairs_at c e p ≤ subsamples_most
      checking-pairs = omega (arith, left-pairs some_left g.left, g.few)

      pub checking-here : p + length_at c e p ≤ length c
      checking-here = left-whole some_left g.left

      -- by what was found of it: the number of its subsamples, and the bytes after its IV
      module _ (k len : ℕ) (x : k ≡ pairs_at c e p) (y : len ≡ map_length e k) where
        pub checking-len : p + (e.iv + len) ≤ length c
        checking-len = omega (arith, length-is c e p x y, checking-here)

        pub checking-next : (a : Bool) (size v : ℕ) → a ≡ entry_ok c e p size → size ≡ size_at c r default i → v ≡ info_size c saiz i
            → Checking n (ok && (a && eqb v (e.iv + len))) (p + (e.iv + len)) (i + 1)
        checking-next a size v q s w =
            let z : n - i - 1 ≡ n - (i + 1) = omega arith in
            let u : suc i ≡ i + 1 = omega arith in
            let t : (a && eqb v (e.iv + len)) ≡ (entry_ok c e p (size_at c r default i) && eqb (info_size c saiz i) (length_at c e p)) =
            ap₂ (λ (b d : Bool). b && d) (q ∙ ap (entry_ok c e p) s) (ap₂ eqb w (length-is c e p x y)) in
            record {
              end = g.end;
              pairs = g.pairs - pairs_at c e p;
              few = omega (arith, g.few);
              left = rw (← z, length-is c e p x y) (left-next some_left g.left);
              rest =
                  and-next ok (a && eqb v (e.iv + len)) _
                  ∙ ap
                  (λ (b : Bool). ok and (b and entries_ok c e saiz r default (n - (i + 1)) (i + 1) (p + (e.iv + len))))
                  t
                  ∙ ap
                  (λ (b : Bool). ok and ((entry_ok c e p (size_at c r default i) && eqb (info_size c saiz i) (length_at c e p)) and b))
                  (rw (← z, ← u, length-is c e p x y))
                  ∙ ap (λ (b : Bool). ok and b) (entries-more (n - i) i p some_left)
                  ∙ g.rest;
            }

    -- no entry is left
    pub checking-end : n ≤ i → ok ≡ entries_ok c e saiz r default n 0 e.at
    checking-end h = sym (ap (λ (b : Bool). ok and b) (entries_none (n - i) i p (omega arith)) ∙ and-end ok) ∙ g.rest

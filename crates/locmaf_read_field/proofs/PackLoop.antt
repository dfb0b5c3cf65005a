-- The loops of `word_at` and `pack`: what is left to read gives the whole. Assumes nothing.
use Prim.Native.Nat.{ℕ, suc, ◌+◌, ◌-◌, ◌*◌, ◌^◌, ◌≤◌, ◌<◌}
use native.Mathlib.Nat.{add-zero, sub-zero, mul-zero, zero-mul, zero-add, add_assoc, add-sub_cancel_left}
use native.Mathlib.Omega.{arith}
use mathlib.Core.Path.{◌≡◌, refl, ◌∙◌}
use mathlib.Core.List.{List, ◌∷◌}
use lib.ListN.{length, get_or, set, length-set}
use lib.Seq.{slice, sets}
use Rattle.laws.specs.Bytes.{de}
use Rattle.laws.proofs.SliceLaws.{take-slice, drop-slice}
use Rattle.wire.proofs.JoinLoop.{Joined, next, joined}
use Rattle.field_rules.specs.Fields.{packed}

-- the first i of eight bytes are read
pub record Reading (o : List ℕ) (at v i : ℕ) : Type 0 where
  pub count : i ≤ 8
  pub inside : at + 8 ≤ length o
  pub joined : Joined o at (at + 8) 0 v (at + i)

module _ (o : List ℕ) (at : ℕ) where
  pub read_none : at + 8 ≤ length o → Reading o at 0 0
  read_none h =
      record {
        count = omega arith;
        inside = h;
        joined =
            record {
              low = omega arith;
              high = omega arith;
              inside = h;
              room = rw (add-zero, add-sub_cancel_left) (omega arith);
              whole = rw add-zero;
            };
      }

  module _ (v i : ℕ) (h : Reading o at v i) where
    -- a byte more has room
    pub read-room : i < 8 → (v + 1) * 256 ≤ 2 ^ 64
    read-room lt = Rattle.wire.proofs.JoinLoop.next-room o at (at + 8) 0 v (at + i) h.joined (omega arith)

    pub read_more : i < 8 → get_or o (at + i) 0 < 256 → Reading o at (v * 256 + get_or o (at + i) 0) (i + 1)
    read_more lt b =
        record {
          count = omega arith;
          inside = h.inside;
          joined = rw (← add_assoc) (next o at (at + 8) 0 v (at + i) h.joined (omega arith) b);
        }

    pub read_all : 8 ≤ i → v ≡ de (slice at (at + 8) o)
    read_all le = joined o at (at + 8) 0 v (at + i) h.joined (omega arith) ∙ rw (zero-mul, zero-add)

-- i of k words are stored
pub record Packing (o : List ℕ) (at k : ℕ) (x₀ : List ℕ) (to : ℕ) (x : List ℕ) (i : ℕ) : Type 0 where
  pub count : i ≤ k
  pub source : at + 8 * k ≤ length o
  pub room : to + k ≤ length x₀
  pub same : length x ≡ length x₀
  pub left : sets x (to + i) (packed (k - i) (slice (at + 8 * i) (at + 8 * k) o)) ≡ sets x₀ to (packed k (slice at (at + 8 * k) o))

module _ (o : List ℕ) (at k : ℕ) (x₀ : List ℕ) (to : ℕ) where
  pub pack-none : (at + 8 * k ≤ length o) × (to + k ≤ length x₀) → Packing o at k x₀ to x₀ 0
  pack-none h = record { count = omega arith; source = h.0; room = h.1; same = refl; left = rw (sub-zero, mul-zero, add-zero, add-zero) }

  module _ (x : List ℕ) (i : ℕ) (h : Packing o at k x₀ to x i) where
    pub pack-all : k ≤ i → x ≡ sets x₀ to (packed k (slice at (at + 8 * k) o))
    unfolding packed
    pack-all le = let e : k - i ≡ 0 = omega arith in rw e at h.left

    module _ (lt : i < k) where
      one : packed (k - i) (slice (at + 8 * i) (at + 8 * k) o)
          ≡ de (slice (at + 8 * i) (at + 8 * i + 8) o) ∷ packed (k - (i + 1)) (slice (at + 8 * (i + 1)) (at + 8 * k) o)
      unfolding packed
      one =
          let e : k - i ≡ suc (k - (i + 1)) = omega arith in
          let q : at + 8 * i + 8 ≡ at + 8 * (i + 1) = omega arith in
          rw (e, take-slice (at + 8 * i) (at + 8 * k) 8 o (omega arith) h.source, drop-slice (at + 8 * i) (at + 8 * k) 8 o, q)

      pub pack-more : Packing o at k x₀ to (set x (to + i) (de (slice (at + 8 * i) (at + 8 * i + 8) o))) (i + 1)
      pack-more =
          let q : to + (i + 1) ≡ suc (to + i) = omega arith in
          record {
            count = omega arith;
            source = h.source;
            room = h.room;
            same = length-set x (to + i) _ ∙ h.same;
            left = rw q (rw one at h.left);
          }

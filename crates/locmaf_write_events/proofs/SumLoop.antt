-- The loop that adds up the bytes of records: what is left to be added. Assumes nothing.
use Prim.Native.Nat.{ℕ, suc, ◌+◌, ◌-◌, ◌*◌, ◌^◌, ◌≤◌, ◌<◌}
use native.Mathlib.Nat.{sub-zero, zero-add}
use native.Mathlib.Numerals.{add-one}
use native.Mathlib.Omega.{arith}
use mathlib.Core.Path.{◌≡◌}
use mathlib.Core.List.{List}
use Rattle.wire.specs.declared.form.Row.{Row}
use Rattle.track.specs.declared.Track.{Track}
use Rattle.locmaf_write_events.specs.Records.{words_bytes, all_bytes}

pub record Adding (F : List Row) (t : Track) (bmdt : ℕ) (ws : List ℕ) (k sum i : ℕ) : Type 0 where
  pub all : sum + all_bytes F t bmdt ws (k - i) i ≡ all_bytes F t bmdt ws k 0
  pub small : sum ≤ 2 ^ 36 * i

module _ (F : List Row) (t : Track) (bmdt : ℕ) (ws : List ℕ) (k : ℕ) where
  pub adding-none : Adding F t bmdt ws k 0 0
  adding-none = record { all = rw (sub-zero, zero-add); small = omega arith }

  module _ (sum i : ℕ) (h : Adding F t bmdt ws k sum i) where
    next : i < k → all_bytes F t bmdt ws (k - i) i ≡ words_bytes F t bmdt ws i + all_bytes F t bmdt ws (k - (i + 1)) (i + 1)
    unfolding all_bytes
    next lt = let e : k - i ≡ suc (k - (i + 1)) = omega arith in rw (e, add-one)

    pub adding-next : (r : ℕ) → i < k → r ≡ words_bytes F t bmdt ws i → r < 2 ^ 36 → Adding F t bmdt ws k (sum + r) (i + 1)
    adding-next r lt e le = record { all = omega (arith, next lt, h.all); small = omega (arith, h.small) }

    none : k ≤ i → all_bytes F t bmdt ws (k - i) i ≡ 0
    unfolding all_bytes
    none le = let e : k - i ≡ 0 = omega arith in rw e

    pub adding-end : k ≤ i → sum ≡ all_bytes F t bmdt ws k 0
    adding-end le = omega (arith, h.all, none le)

-- Laws of the sizes of samples. Assumes nothing.
use Prim.Native.Nat.{ℕ, ◌+◌, ◌-◌, ◌≤◌, ◌<◌}
use native.Mathlib.Omega.{arith}
use mathlib.Core.Path.{◌≡◌, refl, ap}
use mathlib.Core.Bool.{Bool, true, false, cond}
use mathlib.Core.List.{List}
use borrow.Author.Tests.{lt-ltb, le-ltb, le-leb, lt-leb, leb-true}
use lib.Dec.{leb, ltb}
use lib.ListN.{length, get_or}
use lib.Seq.{slice}
use Rattle.laws.specs.Tests.{sum}
use Rattle.laws.proofs.SliceLaws.{slice-none}
use Rattle.laws.proofs.TestLaws.{sum-next}
use Rattle.track.specs.declared.Track.{Track}
use Rattle.field_set.specs.Lawful.{has, values_of, count_in, value_at}
use Rattle.effective.specs.Sizes.{size_of, last_size, listed_sizes, size_by}

-- ---- the size of the last sample, and of each by it

module _ (t : Track) (w : List ℕ) (payload : ℕ) where
  same_false : ltb (count_in w - 1) (count_in w - 1) ≡ false
  same_false = le-ltb (count_in w - 1) (count_in w - 1) (omega arith)

  pub last-lone : count_in w ≤ 1 → last_size t w payload ≡ payload
  unfolding last_size size_of
  last-lone h = rw (le-leb (count_in w) 1 h)

  module _ (many : 1 < count_in w) where
    few : leb (count_in w) 1 ≡ false
    few = lt-leb (count_in w) 1 many

    pub last_rest : has 1 w ≡ true → last_size t w payload ≡ payload - sum (values_of 1 (count_in w - 1) w)
    unfolding last_size size_of
    last_rest h = rw (few, h, same_false)

    pub last-default : has 1 w ≡ false → has 6 w ≡ true → last_size t w payload ≡ value_at 6 0 w
    unfolding last_size size_of
    last-default h g = rw (few, h, g)

    pub last-trex : has 1 w ≡ false → has 6 w ≡ false → last_size t w payload ≡ t.size
    unfolding last_size size_of
    last-trex h g = rw (few, h, g)

  -- each size, by the last
  pub size-by : (i : ℕ) → size_of t w payload i ≡ size_by w (last_size t w payload) i
  unfolding size_of size_by listed_sizes last_size
  size-by i =
      rw same_false
      (go (leb (count_in w) 1) refl (has 1 w))
    where
      go : (a : Bool) → leb (count_in w) 1 ≡ a → (b : Bool)
          → cond a payload (cond b (cond (ltb i (count_in w - 1)) (value_at 1 i w) (payload - sum (values_of 1 (count_in w - 1) w))) (cond (has 6 w) (value_at 6 0 w) t.size))
          ≡ cond (ltb i (cond b (count_in w - 1) 0)) (value_at 1 i w) (cond a payload (cond b (payload - sum (values_of 1 (count_in w - 1) w)) (cond (has 6 w) (value_at 6 0 w) t.size)))
      go true e true =
          let le : count_in w ≤ 1 = leb-true _ _ e in
          rw (le-ltb i (count_in w - 1) (omega arith))
      go true e false = rw (le-ltb i 0 (omega arith))
      go false e true = refl
      go false e false = rw (le-ltb i 0 (omega arith))

module _ (w : List ℕ) where
  pub listed-none : has 1 w ≡ false → 0 ≡ listed_sizes w
  unfolding listed_sizes
  listed-none h = rw h

  pub listed-some : has 1 w ≡ true → (n : ℕ) → n ≡ count_in w - 1 → n ≡ listed_sizes w
  unfolding listed_sizes
  listed-some h n e = rw h e

  module _ (last i n : ℕ) (e : n ≡ listed_sizes w) where
    pub size-listed : i < n → value_at 1 i w ≡ size_by w last i
    unfolding size_by
    size-listed lt = rw (lt-ltb i (listed_sizes w) (omega arith))

    pub size-last : n ≤ i → last ≡ size_by w last i
    unfolding size_by
    size-last le = rw (le-ltb i (listed_sizes w) (omega arith))

-- The `styp` by its length. Assumes nothing.
use Prim.Native.Nat.{ℕ, ◌+◌, ◌-◌, ◌/◌, ◌%◌, ◌≤◌, ◌<◌}
use mathlib.Core.Path.{◌≡◌}
use mathlib.Core.Bool.{true, ◌&&◌}
use mathlib.Core.Logic.{◌⊎◌, inl, inr}
use mathlib.Core.List.{List}
use borrow.Author.Tests.{eqb-true, leb-true, lt-ltb, le-ltb}
use lib.Dec.{eqb, leb}
use Rattle.laws.proofs.TestLaws.{either, and_left, and_right}
use Rattle.byte_parts.specs.declared.Part.{Part}
use Rattle.cmaf_read_tree.specs.Numbers.{u32}
use Rattle.cmaf_read_prelude.specs.Styp.{styp_ok, brands_in, minor_version}

-- it has no bytes, or at least 16, in fours
pub styp-long : (b : Part) → styp_ok b ≡ true → (b.len ≡ 0) ⊎ ((16 ≤ b.len) × (b.len % 4 ≡ 0))
unfolding styp_ok
styp-long b =
    either _ (eqb b.len 0) (leb 16 b.len && eqb (b.len % 4) 0) (λ e. inl (eqb-true _ _ e))
    (λ e. inr (leb-true _ _ (and_left (leb 16 b.len) (eqb (b.len % 4) 0) e), eqb-true _ _ (and_right (leb 16 b.len) (eqb (b.len % 4) 0) e)))

-- without a box
pub brands-none : (b : Part) → b.len < 16 → 0 ≡ brands_in b
unfolding brands_in
brands-none b h = rw (lt-ltb b.len 16 h)

pub minor-none : (c : List ℕ) (b : Part) → b.len < 16 → 0 ≡ minor_version c b
unfolding minor_version
minor-none c b h = rw (lt-ltb b.len 16 h)

-- with one
pub brands-some : (b : Part) → 16 ≤ b.len → (b.len - 12) / 4 ≡ brands_in b
unfolding brands_in
brands-some b h = rw (le-ltb b.len 16 h)

pub minor-some : (c : List ℕ) (b : Part) → 16 ≤ b.len → u32 c (b.at + 12) ≡ minor_version c b
unfolding minor_version
minor-some c b h = rw (le-ltb b.len 16 h)

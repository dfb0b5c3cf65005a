-- Laws of any form's table: the row that a first byte is in, and the row that a value is written in. A table is lawful where its rows' first
-- bytes follow one another from 0 and are bytes, no row holds a number past 64 bits, and no row has a shorter tail than one before it. That
-- each form's table is lawful is computed. Assumes nothing.
use Prim.Native.Nat.{ℕ, ◌+◌, ◌-◌, ◌*◌, ◌/◌, ◌^◌, ◌≤◌, ◌<◌}
use native.Mathlib.Nat.{mul-le-mul_right, div-lt_iff_lt-mul, le_trans, not-suc-le-zero, le-max_left, le-max_right}
use native.Mathlib.Omega.{arith}
use mathlib.Core.Path.{◌≡◌, refl}
use mathlib.Core.Bool.{Bool, true, false, cond}
use mathlib.Core.List.{List, [], ◌∷◌}
use borrow.Author.Tests.{ltb-true, ltb-false, lt-ltb, le-ltb}
use lib.Dec.{ltb}
use Rattle.laws.proofs.BytesLaws.{pow_pos}
use Rattle.wire.specs.declared.form.Row.{Row}
use Rattle.wire.specs.declared.form.Form.{Form}
use Rattle.wire.specs.declared.form.Form.TheVariants.{Rfc9000}
use Rattle.std.specs.Prelude.{Some, None}
use Rattle.wire.specs.Form.{rfc9000, rows, cap, by_first, by_value, limit}

-- no tail in the table is shorter than t
abbrev pub AtLeast : ℕ → List Row → Type 0
AtLeast t [] = Unit {0}
AtLeast t (r ∷ rs) = (t ≤ r.tail) × AtLeast t rs

-- a table whose first row starts with the first byte `from` is lawful
abbrev pub Lawful : ℕ → List Row → Type 0
Lawful from [] = Unit {0}
Lawful from (r ∷ rs) =
    (r.mark ≡ from)
    × (r.mark + r.width ≤ 256)
    × (cap r ≤ 2 ^ 64)
    × (r.tail ≤ 8)
    × AtLeast r.tail rs
    × Lawful (r.mark + r.width) rs

-- the table of each form is lawful
pub lawful : (f : Form) → Lawful 0 (rows f)
lawful Rfc9000 = omega arith

-- there is one form so far
pub only : (f : Form) → rows f ≡ rfc9000
only Rfc9000 = refl

-- what is known of the row that a first byte is in: what a varint there holds fits 64 bits, and is what the table holds
pub record Begun (F : List Row) (b : ℕ) (r : Row) : Type 0 where
  pub above : r.mark ≤ b
  pub below : b < r.mark + r.width
  pub short : r.tail ≤ 8
  pub fits : (b - r.mark + 1) * 256 ^ r.tail ≤ 2 ^ 64
  pub held : cap r ≤ limit F

-- the row that a first byte was found in
pub by-first : (F : List Row) (from b : ℕ) (r : Row) → Lawful from F → from ≤ b → by_first F b ≡ Some r → Begun F b r
unfolding by_first limit
by-first [] from b r w h e = let z : ◌≡◌ {A = ℕ} 0 1 = cc in absurd (omega arith)
by-first (q ∷ rs) from b r w h e =
    go (ltb b (q.mark + q.width)) refl e (λ le d. by-first rs (q.mark + q.width) b r w.5 le d)
  where
    go : (t : Bool) → ltb b (q.mark + q.width) ≡ t → cond t (Some q) (by_first rs b) ≡ Some r
        → (q.mark + q.width ≤ b → by_first rs b ≡ Some r → Begun rs b r) → Begun (q ∷ rs) b r
    go true t d ih =
        let lt : b < q.mark + q.width = ltb-true _ _ t in
        let s : q ≡ r = cc in
        rw (← s)
        (record {
          above = omega arith;
          below = lt;
          short = w.3;
          fits = le_trans (mul-le-mul_right (256 ^ q.tail) (omega arith)) w.2;
          held = le-max_left (cap q) (limit rs);
        })
    go false t d ih =
        let it = ih (ltb-false _ _ t) d in
        record {
          above = it.above;
          below = it.below;
          short = it.short;
          fits = it.fits;
          held = le_trans it.held (le-max_right (cap q) (limit rs));
        }

-- what is known of the row that a value is written in: it holds the value, its first bytes are bytes, and so is what is
-- written of the value in the first one, which is then read as one of this row
pub record Held (F : List Row) (from v : ℕ) (r : Row) : Type 0 where
  pub holds : v < cap r
  pub above : from ≤ r.mark
  pub byte : r.mark + r.width ≤ 256
  pub short : r.tail ≤ 8
  pub top : v / 256 ^ r.tail < r.width
  pub found : by_first F (r.mark + v / 256 ^ r.tail) ≡ Some r

-- the row that a value was found to be written in
pub by-value : (F : List Row) (from v : ℕ) (r : Row) → Lawful from F → by_value F v ≡ Some r → Held F from v r
unfolding by_first by_value
by-value [] from v r w e = let z : ◌≡◌ {A = ℕ} 0 1 = cc in absurd (omega arith)
by-value (q ∷ rs) from v r w e = go (ltb v (cap q)) refl e (λ d. by-value rs (q.mark + q.width) v r w.5 d)
  where
    go : (t : Bool) → ltb v (cap q) ≡ t → cond t (Some q) (by_value rs v) ≡ Some r
        → (by_value rs v ≡ Some r → Held rs (q.mark + q.width) v r) → Held (q ∷ rs) from v r
    go true t d ih =
        let lt : v < cap q = ltb-true _ _ t in
        let top : v / 256 ^ q.tail < q.width = (div-lt_iff_lt-mul (pow_pos q.tail)).1 lt in
        let s : q ≡ r = cc in
        rw (← s)
        (record {
          holds = lt;
          above = omega arith;
          byte = w.1;
          short = w.3;
          top = top;
          found = rw (lt-ltb (q.mark + v / 256 ^ q.tail) (q.mark + q.width) (omega arith));
        })
    go false t d ih =
        let it = ih d in
        record {
          holds = it.holds;
          above = omega (arith, it.above);
          byte = it.byte;
          short = it.short;
          top = it.top;
          found = rw (le-ltb (r.mark + v / 256 ^ r.tail) (q.mark + q.width) (omega (arith, it.above))) it.found;
        }

-- a value below the limit has a row
pub fits : (F : List Row) (v : ℕ) → v < limit F → (r : Row) × (by_value F v ≡ Some r)
unfolding by_value limit
fits [] v h = absurd (not-suc-le-zero h)
fits (q ∷ rs) v h = go (ltb v (cap q)) refl (λ k. fits rs v k)
  where
    go : (t : Bool) → ltb v (cap q) ≡ t → (v < limit rs → (r : Row) × (by_value rs v ≡ Some r))
        → (r : Row) × (cond t (Some q) (by_value rs v) ≡ Some r)
    go true t ih = (q, refl)
    go false t ih = let le : cap q ≤ v = ltb-false _ _ t in ih (omega arith)

-- a value from the limit on has none
pub past : (F : List Row) (v : ℕ) → limit F ≤ v → by_value F v ≡ None
unfolding by_value limit
past [] v h = refl
past (q ∷ rs) v h = rw (le-ltb v (cap q) (omega arith)) (past rs v (omega arith))

-- the row that a first byte is in has no shorter tail than the shortest
least : (t : ℕ) (F : List Row) (b : ℕ) (r : Row) → AtLeast t F → by_first F b ≡ Some r → t ≤ r.tail
unfolding by_first
least t [] b r a e = let z : ◌≡◌ {A = ℕ} 0 1 = cc in absurd (omega arith)
least t (q ∷ rs) b r a e = go (ltb b (q.mark + q.width)) e (λ d. least t rs b r a.1 d)
  where
    go : (u : Bool) → cond u (Some q) (by_first rs b) ≡ Some r → (by_first rs b ≡ Some r → t ≤ r.tail) → t ≤ r.tail
    go true d ih = let s : q ≡ r = cc in rw (← s) a.0
    go false d ih = ih d

-- a value that a first byte's row holds is written in a row with no longer tail
pub no_longer : (F : List Row) (from b v : ℕ) (r : Row) → Lawful from F → by_first F b ≡ Some r → v < cap r
    → (q : Row) × (by_value F v ≡ Some q) × (q.tail ≤ r.tail)
unfolding by_first by_value
no_longer [] from b v r w e h = let z : ◌≡◌ {A = ℕ} 0 1 = cc in absurd (omega arith)
no_longer (q ∷ rs) from b v r w e h =
    go (ltb b (q.mark + q.width)) (ltb v (cap q)) refl e (λ d. no_longer rs (q.mark + q.width) b v r w.5 d h)
  where
    go : (t u : Bool) → ltb v (cap q) ≡ u → cond t (Some q) (by_first rs b) ≡ Some r
        → (by_first rs b ≡ Some r → (q' : Row) × (by_value rs v ≡ Some q') × (q'.tail ≤ r.tail))
        → (q' : Row) × (cond u (Some q) (by_value rs v) ≡ Some q') × (q'.tail ≤ r.tail)
    go true true p d ih = let s : q ≡ r = cc in (q, refl, rw s (omega arith))
    go true false p d ih =
        let s : q ≡ r = cc in
        let lt : v < cap q = rw s h in
        let le : cap q ≤ v = ltb-false _ _ p in
        absurd (omega arith)
    go false true p d ih = (q, refl, least q.tail rs b r w.4 d)
    go false false p d ih = ih d

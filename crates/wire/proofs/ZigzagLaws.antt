-- Laws of zigzag, and of the numbers on the wire that stand for values. Assumes nothing.
use Prim.Native.Nat.{ℕ, zero, suc, ◌+◌, ◌-◌, ◌*◌, ◌/◌, ◌%◌, ◌^◌, ◌≤◌, ◌<◌, zero-le}
use native.Mathlib.Omega.{arith}
use mathlib.Core.Path.{◌≡◌, refl, ◌∙◌, ap}
use mathlib.Core.Bool.{Bool, true, false, cond}
use mathlib.Core.List.{List}
use borrow.Author.Tests.{lt-ltb, le-ltb, le-leb, lt-leb, eq-eqb, ne_eqb, ltb-true, ltb-false, eqb-true, eqb-false, leb-true}
use lib.Dec.{ltb, eqb, leb}
use lib.IntN.{ℤ, pos, negsuc, sub_ℕ, ◌+ℤ◌, ◌-ℤ◌, +ℤ_comm, -ℤ-+ℤ_cancel}
use Rattle.wire.specs.declared.form.Row.{Row}
use Rattle.wire.specs.declared.form.Form.{Form}
use Rattle.wire.specs.declared.form.Form.TheVariants.{Rfc9000}
use Rattle.wire.specs.declared.zigzag.Coding.{Coding}
use Rattle.wire.specs.declared.zigzag.Coding.TheVariants.{Plain, Delta}
use Rattle.std.specs.Prelude.{Some, None}
use Rattle.wire.specs.Form.{rows, limit}
use Rattle.wire.specs.Zigzag.{zigzag, unzigzag, wire_of, fitted, code_of, ranged, reached}

-- an even number stands for its half, an odd one for a number below 0
even : (z : ℕ) → z % 2 ≡ 0 → unzigzag z ≡ pos (z / 2)
unfolding unzigzag
even z e = rw (eq-eqb _ _ e)

odd : (z : ℕ) → (z % 2 ≡ 0 → ⊥) → unzigzag z ≡ negsuc (z / 2)
unfolding unzigzag
odd z e = rw (ne_eqb _ _ e)

-- a number is read back from its zigzag
pub unzigzag-zigzag : (n : ℤ) → unzigzag (zigzag n) ≡ n
unfolding zigzag
unzigzag-zigzag (pos n) = even (2 * n) (omega arith) ∙ ap pos (omega arith)
unzigzag-zigzag (negsuc m) = odd (2 * suc m - 1) (λ e. omega arith) ∙ ap negsuc (omega arith)

-- every number is the zigzag of the one that it stands for
pub zigzag-unzigzag : (z : ℕ) → zigzag (unzigzag z) ≡ z
unfolding zigzag unzigzag
zigzag-unzigzag z = go (eqb (z % 2) 0) refl
  where
    go : (t : Bool) → eqb (z % 2) 0 ≡ t → zigzag (cond t (pos (z / 2)) (negsuc (z / 2))) ≡ z
    go true e = let eq : z % 2 ≡ 0 = eqb-true _ _ e in omega arith
    go false e = let ne : z % 2 ≡ 0 → ⊥ = eqb-false _ _ e in omega arith

-- how far the new value is from the old one
apart : (old new : ℕ) → pos new -ℤ pos old ≡ sub_ℕ new old
apart zero new = rw (le-ltb new 0 zero-le) (ap pos (omega arith))
apart (suc old) new = refl

-- what stands on the wire for a new value below the old one, and for any other
module _ (old new : ℕ) where
  pub wire-below : new < old → wire_of Delta old new ≡ (old - new - 1) * 2 + 1
  unfolding wire_of zigzag
  wire-below h = rw (apart, lt-ltb _ _ h) (omega arith)

  pub wire-above : old ≤ new → wire_of Delta old new ≡ (new - old) * 2
  unfolding wire_of zigzag
  wire-above h = rw (apart, le-ltb _ _ h) (omega arith)

-- no form has a number past 64 bits
pub limit-64 : (form : Form) → limit (rows form) ≤ 2 ^ 64
unfolding limit
limit-64 Rfc9000 = omega arith

-- a number that the form holds, and one that it doesn't
module _ (F : List Row) where
  pub fit-number : (z : ℕ) → z < limit F → fitted F z ≡ Some z
  unfolding fitted
  fit-number z h = rw (lt-ltb _ _ h)

  pub fit_wide : (z : ℕ) → limit F ≤ z → fitted F z ≡ None
  unfolding fitted
  fit_wide z h = rw (le-ltb _ _ h)

  -- the answer for a new value is the one for the number that stands for it
  pub code_is : (coding : Coding) (old new : ℕ) {z : ℕ} → wire_of coding old new ≡ z → code_of F coding old new ≡ fitted F z
  unfolding code_of
  code_is coding old new e = rw e

  -- a value that stands for itself
  pub code-plain : (old new : ℕ) → code_of F Plain old new ≡ fitted F new
  unfolding code_of wire_of
  code-plain old new = refl

  -- a number was given: it stands for the new value, and the form holds it
  pub coded-inv : (coding : Coding) (old new : ℕ) {z : ℕ} → code_of F coding old new ≡ Some z → (z ≡ wire_of coding old new) × (z < limit F)
  unfolding code_of fitted
  coded-inv coding old new {z} = go (ltb (wire_of coding old new) (limit F)) refl
    where
      go : (t : Bool) → ltb (wire_of coding old new) (limit F) ≡ t → cond t (Some (wire_of coding old new)) None ≡ Some z
          → (z ≡ wire_of coding old new) × (z < limit F)
      go true e h =
          let same : z ≡ wire_of coding old new = cc in
          let lt : wire_of coding old new < limit F = ltb-true _ _ e in
          (same, omega arith)
      go false e h = let no : ◌≡◌ {A = ℕ} 0 1 = cc in absurd (omega arith)

  -- none was given: the form does not hold the one that stands for the new value
  pub coded-wide : (coding : Coding) (old new : ℕ) → code_of F coding old new ≡ None → limit F ≤ wire_of coding old new
  unfolding code_of fitted
  coded-wide coding old new = go (ltb (wire_of coding old new) (limit F)) refl
    where
      go : (t : Bool) → ltb (wire_of coding old new) (limit F) ≡ t → cond t (Some (wire_of coding old new)) None ≡ None
          → limit F ≤ wire_of coding old new
      go true e h = let no : ◌≡◌ {A = ℕ} 0 1 = cc in absurd (omega arith)
      go false e h = ltb-false _ _ e

-- a value up to the bound, and one past it
module _ (bound v : ℕ) where
  in-range : v ≤ bound → ranged bound (pos v) ≡ Some v
  unfolding ranged
  in-range h = rw (le-leb _ _ h)

  past-range : bound < v → ranged bound (pos v) ≡ None
  unfolding ranged
  past-range h = rw (lt-leb _ _ h)

-- a number that stands for itself, up to the bound and past it
module _ (old bound v : ℕ) where
  pub plain_in : v ≤ bound → reached Plain old bound v ≡ Some v
  unfolding reached
  plain_in h = in-range bound v h

  pub plain-past : bound < v → reached Plain old bound v ≡ None
  unfolding reached
  plain-past h = past-range bound v h

-- whatever the old value is
pub plain-any : (old old' bound v : ℕ) → reached Plain old bound v ≡ reached Plain old' bound v
unfolding reached
plain-any old old' bound v = refl

-- a distance: up from the old value where it is even, down where it is odd, which may lead below 0
module _ (old bound z : ℕ) where
  pub up : z % 2 ≡ 0 → reached Delta old bound z ≡ reached Plain 0 bound (old + z / 2)
  unfolding reached
  up e = rw (even z e)

  pub down : (z % 2 ≡ 0 → ⊥) → z / 2 < old → reached Delta old bound z ≡ reached Plain 0 bound (old - z / 2 - 1)
  unfolding reached
  down e h = let same : old - suc (z / 2) ≡ old - z / 2 - 1 = omega arith in rw (odd z e, le-ltb old (suc (z / 2)) h, same)

  pub below-zero : (z % 2 ≡ 0 → ⊥) → old ≤ z / 2 → reached Delta old bound z ≡ None
  unfolding reached ranged
  below-zero e h = let lt : old < suc (z / 2) = omega arith in rw (odd z e, lt-ltb old (suc (z / 2)) lt)

-- the number on the wire for a value that is within the bound leads back to it
pub back : (coding : Coding) (old new bound : ℕ) → new ≤ bound → reached coding old bound (wire_of coding old new) ≡ Some new
unfolding wire_of reached
back Plain old new bound h = in-range bound new h
back Delta old new bound h =
    rw (unzigzag-zigzag, +ℤ_comm (pos old), -ℤ-+ℤ_cancel (pos new)) (in-range bound new h)

-- so does what was given for it
pub code-back : (F : List Row) (coding : Coding) (old new bound : ℕ) {z : ℕ} → code_of F coding old new ≡ Some z → new ≤ bound
    → reached coding old bound z ≡ Some new
code-back F coding old new bound e h = rw (coded-inv F coding old new e).0 (back coding old new bound h)

-- a value that was reached doesn't pass its bound
ranged-most : (bound : ℕ) (n : ℤ) (v : ℕ) → ranged bound n ≡ Some v → v ≤ bound
unfolding ranged
ranged-most bound (pos x) v e = go (leb x bound) refl e
  where
    go : (b : Bool) → leb x bound ≡ b → cond b (Some x) None ≡ Some v → v ≤ bound
    go true q d =
        let same : x ≡ v = cc in
        let most : x ≤ bound = leb-true _ _ q in
        omega arith
    go false q d = let z : ◌≡◌ {A = ℕ} 0 1 = cc in absurd (omega arith)
ranged-most bound (negsuc m) v e = let z : ◌≡◌ {A = ℕ} 0 1 = cc in absurd (omega arith)

pub reached-most : (coding : Coding) (old bound z v : ℕ) → reached coding old bound z ≡ Some v → v ≤ bound
unfolding reached
reached-most Plain old bound z v e = ranged-most bound (pos z) v e
reached-most Delta old bound z v e = ranged-most bound (pos old +ℤ unzigzag z) v e

-- a number that stands for itself is the value
pub plain-inv : (old bound z v : ℕ) → reached Plain old bound z ≡ Some v → v ≡ z
unfolding reached ranged
plain-inv old bound z v e = go (leb z bound) e
  where
    go : (b : Bool) → cond b (Some z) None ≡ Some v → v ≡ z
    go true d = let same : v ≡ z = cc in same
    go false d = let y : ◌≡◌ {A = ℕ} 0 1 = cc in absurd (omega arith)

-- ---- a number that is written as it is

module _ (F : List Row) (z : ℕ) where
  -- a number was given: it is this one, and the form holds it
  pub fitted-inv : {v : ℕ} → fitted F z ≡ Some v → (v ≡ z) × (z < limit F)
  unfolding wire_of
  fitted-inv e = let p = coded-inv F Plain 0 z (code-plain F 0 z ∙ e) in (p.0, omega (arith, p.0, p.1))

  -- none was given: the form does not hold it
  pub fitted_wide : fitted F z ≡ None → limit F ≤ z
  unfolding wire_of
  fitted_wide e = coded-wide F Plain 0 z (code-plain F 0 z ∙ e)

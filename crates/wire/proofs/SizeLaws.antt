-- How many bytes a number counts for: no more than the longest varint has, and no fewer than a smaller number. Assumes nothing.
use Prim.Native.Nat.{ℕ, suc, ◌^◌, ◌≤◌, ◌<◌, zero-le, max}
use native.Mathlib.Nat.{le_trans, le-max_left, le-max_right, le_refl}
use native.Mathlib.Omega.{arith}
use mathlib.Core.Path.{◌≡◌, refl, ap}
use mathlib.Core.Bool.{Bool, true, false, cond}
use mathlib.Core.List.{List, [], ◌∷◌}
use lib.Dec.{ltb}
use lib.ListN.{length}
use Rattle.laws.proofs.BytesLaws.{length-be}
use Rattle.wire.specs.declared.form.Row.{Row}
use Rattle.wire.specs.declared.form.Form.{Form}
use Rattle.wire.specs.declared.form.Form.TheVariants.{Rfc9000}
use Rattle.std.specs.Prelude.{Option, Some, None}
use Rattle.wire.specs.Form.{rows, cap, by_value, limit, longest}
use Rattle.wire.specs.Varint.{encode, size_of}
use Rattle.wire.specs.Zigzag.{fitted}
use Rattle.wire.proofs.FormLaws.{Lawful, by-value, fits, no_longer, past}
use Rattle.wire.proofs.VarintLaws.{encode-in, size_in, size-past}
use Rattle.wire.proofs.ZigzagLaws.{fitted_wide}
use Rattle.laws.specs.Options.{on_option}

-- a number has at most the bytes that it counts as
pub encode-size : (F : List Row) (v : ℕ) → length (encode F v) ≤ size_of F v
unfolding encode
encode-size F v = go (by_value F v) refl
  where
    go : (f : Option Row) → by_value F v ≡ f → length (encode F v) ≤ size_of F v
    go (Some r) e = omega (arith, ap length (encode-in F v r e), length-be r.tail v, size_in F v r e)
    go None e = rw e zero-le

-- the size of a row that was found, or else a larger one
found-le : (f : Option Row) (m n : ℕ) → on_option f (λ r. suc r.tail) m ≤ m → m ≤ n → on_option f (λ r. suc r.tail) n ≤ n
found-le (Some r) m n h k = le_trans h k
found-le None m n h k = le_refl n

-- no size is larger than the longest varint's
pub size-longest : (F : List Row) (v : ℕ) → size_of F v ≤ longest F
unfolding size_of by_value longest
size-longest [] v = le_refl 0
size-longest (q ∷ rs) v = go (ltb v (cap q)) (size-longest rs v)
  where
    go : (t : Bool) → on_option (by_value rs v) (λ r. suc r.tail) (longest rs) ≤ longest rs
        → on_option (cond t (Some q) (by_value rs v)) (λ r. suc r.tail) (max (suc q.tail) (longest rs)) ≤ max (suc q.tail) (longest rs)
    go true ih = le-max_left (suc q.tail) (longest rs)
    go false ih = found-le (by_value rs v) (longest rs) _ ih (le-max_right (suc q.tail) (longest rs))

-- a larger number has no fewer bytes: its row holds the smaller one too
pub size-grows : (F : List Row) → Lawful 0 F → (v w : ℕ) → v ≤ w → size_of F v ≤ size_of F w
size-grows F l v w h = go (by_value F w) refl
  where
    go : (f : Option Row) → by_value F w ≡ f → size_of F v ≤ size_of F w
    go (Some r) e =
        let k = by-value F 0 w r l e in
        let q = no_longer F 0 _ v r l k.found (omega (arith, k.holds)) in
        omega (arith, size_in F w r e, size_in F v q.0 q.1, q.2)
    go None e = rw (size-past F w e) (size-longest F v)

-- and every number that the form holds has some
pub size-some : (F : List Row) (v : ℕ) → v < limit F → 0 < size_of F v
size-some F v h = let r = fits F v h in omega (arith, size_in F v r.0 r.1)

-- the longest varint has at most eight bytes
pub longest-eight : (form : Form) → longest (rows form) ≤ 8
unfolding longest
longest-eight Rfc9000 = omega arith

pub size-eight : (form : Form) (v : ℕ) → size_of (rows form) v ≤ 8
size-eight form v = le_trans (size-longest (rows form) v) (longest-eight form)

-- every form holds the numbers of 62 bits
pub limit-62 : (form : Form) → 2 ^ 62 ≤ limit (rows form)
unfolding limit
limit-62 Rfc9000 = omega arith

-- and no others
pub limit-most : (form : Form) → limit (rows form) ≤ 2 ^ 62
unfolding limit
limit-most Rfc9000 = omega arith

-- a number that the form does not hold counts as the longest
pub wide-size : (F : List Row) (z : ℕ) → fitted F z ≡ None → size_of F z ≡ longest F
wide-size F z e = size-past F z (past F z (fitted_wide F z e))

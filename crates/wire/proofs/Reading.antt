-- What `read` finds, from the tests that it makes; and for callers, what its answer says of the bytes. Assumes nothing.
use Prim.Native.Nat.{ℕ, suc, ◌+◌, ◌-◌, ◌*◌, ◌^◌, ◌≤◌, ◌<◌}
use native.Mathlib.Numerals.{add-one}
use native.Mathlib.Omega.{arith}
use mathlib.Core.Path.{◌≡◌, refl, sym, ◌∙◌}
use mathlib.Core.List.{List}
use borrow.Author.Tests.{le-leb, lt-leb}
use lib.ListN.{length, get_or}
use lib.Seq.{slice, slice-cons, length-slice}
use Rattle.laws.specs.Bytes.{de}
use Rattle.laws.proofs.SliceLaws.{slice-none, take-slice}
use Rattle.wire.specs.declared.form.Row.{Row}
use Rattle.std.specs.Prelude.{Option, Some, None}
use Rattle.std.proofs.lemmas.Option.{some_pair_parts}
use Rattle.wire.specs.Form.{by_first}
use Rattle.wire.specs.Varint.{read_f, read_in, read_at, shift}
use Rattle.laws.specs.Options.{on_option}

module _ (F : List Row) (s : List ℕ) (at end : ℕ) where
  -- the end is past the bytes
  pub outside : length s < end → None ≡ read_at F s at end
  unfolding read_at
  outside h = rw (lt-leb _ _ h)

  -- the bytes have the end
  pub inside : end ≤ length s → read_at F s at end ≡ shift at (read_f F (slice at end s))
  unfolding read_at
  inside h = rw (le-leb _ _ h)

  -- no byte is left
  pub empty : end ≤ length s → end ≤ at → None ≡ read_at F s at end
  unfolding read_f
  empty h k = sym (inside h ∙ rw (slice-none at end s k))

  module _ (b : ℕ) (is : b ≡ get_or s at 0) (h : end ≤ length s) (k : at < end) where
    first_byte : read_at F s at end ≡ shift at (on_option (by_first F b) (λ r. read_in r b (slice (at + 1) end s)) None)
    unfolding read_f
    first_byte = inside h ∙ rw (slice-cons at end s 0 k h, add-one, is)

    -- the first byte is in no row
    pub missing : by_first F b ≡ None → None ≡ read_at F s at end
    missing e = sym (first_byte ∙ rw e)

    module _ (r : Row) (row : by_first F b ≡ Some r) where
      left : length (slice (at + 1) end s) ≡ end - (at + 1)
      left = length-slice (at + 1) end s h

      -- its tail is not all there
      pub short : end - (at + 1) < r.tail → None ≡ read_at F s at end
      short lt =
          let n : length (slice (at + 1) end s) < r.tail = omega (arith, left) in
          sym (first_byte ∙ rw (row, lt-leb _ _ n))

      -- its tail is all there
      pub found : r.tail ≤ end - (at + 1)
          → Some ((b - r.mark) * 256 ^ r.tail + de (slice (at + 1) (at + 1 + r.tail) s), at + 1 + r.tail) ≡ read_at F s at end
      found le =
          let n : r.tail ≤ length (slice (at + 1) end s) = omega (arith, left) in
          let p : at + suc r.tail ≡ at + 1 + r.tail = omega arith in
          sym (first_byte ∙ rw (row, le-leb _ _ n, take-slice (at + 1) end r.tail s (omega arith) h, p))

-- a call of `read` answered a value: it is the first of the bytes from the place to the end
pub value-inv : (F : List Row) (s : List ℕ) (at end v next : ℕ) → end ≤ length s → Some (v, next) ≡ read_at F s at end
    → (k : ℕ) × (read_f F (slice at end s) ≡ Some (v, k)) × (next ≡ at + k)
value-inv F s at end v next h e = go (read_f F (slice at end s)) refl (e ∙ inside F s at end h)
  where
    go : (g : Option (ℕ × ℕ)) → read_f F (slice at end s) ≡ g → Some (v, next) ≡ shift at g
        → (k : ℕ) × (read_f F (slice at end s) ≡ Some (v, k)) × (next ≡ at + k)
    go (Some (u, k)) q t = let p = some_pair_parts v u next (at + k) t in (k, rw p.0 q, p.1)
    go None q t = let z : ◌≡◌ {A = ℕ} 0 1 = cc in absurd (omega arith)

-- a call of `read` answered Cut: so do the bytes from the place to the end
pub cut-inv : (F : List Row) (s : List ℕ) (at end : ℕ) → end ≤ length s → None ≡ read_at F s at end → read_f F (slice at end s) ≡ None
cut-inv F s at end h e = go (read_f F (slice at end s)) refl (e ∙ inside F s at end h)
  where
    go : (g : Option (ℕ × ℕ)) → read_f F (slice at end s) ≡ g → None ≡ shift at g → read_f F (slice at end s) ≡ None
    go (Some (v, k)) q t = let z : ◌≡◌ {A = ℕ} 0 1 = cc in absurd (omega arith)
    go None q t = q

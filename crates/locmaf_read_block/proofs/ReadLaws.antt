-- What the answer of `wire::varint::read` says of the bytes, also where nothing is known of the end. Assumes nothing.
use Prim.Native.Nat.{ℕ, ◌+◌, ◌-◌, ◌≤◌, ◌<◌}
use native.Mathlib.Omega.{arith}
use mathlib.Core.Path.{◌≡◌, refl}
use mathlib.Core.Bool.{Bool, true, false, cond}
use mathlib.Core.List.{List}
use borrow.Author.Tests.{leb-true}
use lib.Dec.{leb}
use lib.ListN.{length}
use lib.Seq.{slice, length-slice}
use Rattle.wire.specs.declared.form.Row.{Row}
use Rattle.std.specs.Prelude.{Some, None}
use Rattle.wire.specs.Varint.{read_f, read_at, shift}
use Rattle.wire.proofs.VarintLaws.{read-size}
use Rattle.wire.proofs.Reading.{value-inv}

-- a varint that was read from the place at: its bytes, the place after them, and that all of this lies before the end
pub record Found (F : List Row) (s : List ℕ) (at end v next : ℕ) : Type 0 where
  pub inside : end ≤ length s
  pub size : ℕ
  pub read : read_f F (slice at end s) ≡ Some (v, size)
  pub place : next ≡ at + size
  pub some : at < next
  pub within : next ≤ end

pub found : (F : List Row) (s : List ℕ) (at end v next : ℕ) → Some (v, next) ≡ read_at F s at end → Found F s at end v next
unfolding read_at
found F s at end v next e = go (leb end (length s)) refl e
  where
    here : end ≤ length s → Found F s at end v next
    here h =
        let i = value-inv F s at end v next h e in
        let z = read-size F (slice at end s) v i.0 i.1 in
        let l : length (slice at end s) ≡ end - at = length-slice at end s h in
        record {
          inside = h;
          size = i.0;
          read = i.1;
          place = i.2;
          some = omega (arith, z.0, i.2);
          within = omega (arith, z.0, z.1, i.2);
        }

    go : (b : Bool) → leb end (length s) ≡ b → Some (v, next) ≡ cond b (shift at (read_f F (slice at end s))) None → Found F s at end v next
    go true q d = here (leb-true _ _ q)
    go false q d = cc

-- What `put` leaves, from the row that it finds. Assumes nothing.
use Prim.Native.Nat.{ℕ, suc, ◌+◌, ◌/◌, ◌^◌, ◌≤◌}
use native.Mathlib.Numerals.{add-one}
use native.Mathlib.Omega.{arith}
use mathlib.Core.Path.{◌≡◌}
use mathlib.Core.List.{List}
use lib.ListN.{length, set}
use lib.Seq.{sets}
use Rattle.laws.specs.Bytes.{be}
use Rattle.laws.specs.Writes.{Wrote}
use Rattle.laws.proofs.BytesLaws.{length-be}
use Rattle.laws.proofs.StoreLaws.{set-sets}
use Rattle.laws.proofs.WriteLaws.{wrote_none, wrote-sets}
use Rattle.wire.specs.declared.form.Row.{Row}
use Rattle.std.specs.Prelude.{Some, None}
use Rattle.wire.specs.Form.{by_value}
use Rattle.wire.specs.Varint.{encode_in, encode}
use Rattle.wire.proofs.VarintLaws.{encode-in}

module _ (F : List Row) (v : ℕ) (l : List ℕ) (at : ℕ) (room : at + length (encode F v) ≤ length l) where
  -- nothing of a number too wide
  pub wrote-past : by_value F v ≡ None → Wrote l at (encode F v) l at
  unfolding encode
  wrote-past e = rw e (wrote_none l at (omega arith))

  module _ (r : Row) (row : by_value F v ≡ Some r) where
    -- there is room for all of it
    pub room_in : at + 1 + r.tail ≤ length l
    room_in = omega (arith, length-be r.tail v, rw (encode-in F v r row) at room)

    -- the tail first, and then the first byte before it
    pub wrote-in : (m : List ℕ) (x : ℕ) → m ≡ sets l (at + 1) (be r.tail v) → x ≡ v / 256 ^ r.tail
        → Wrote l at (encode F v) (set m at (r.mark + x)) (at + 1 + r.tail)
    wrote-in m x em ex =
        let top : ℕ = r.mark + v / 256 ^ r.tail in
        let p : at + length (encode_in r v) ≡ at + 1 + r.tail = omega (arith, length-be r.tail v) in
        let e : set m at (r.mark + x) ≡ sets l at (encode_in r v) =
        rw (em, ex, add-one) (set-sets (be r.tail v) l at (suc at) top (omega arith)) in
        rw (encode-in F v r row, e, ← p) (wrote-sets l at (encode_in r v) (omega (arith, room_in)))

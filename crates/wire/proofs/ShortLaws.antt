-- Varints of one and of two bytes in any lawful form: their rows, which are the table's first, if no byte follows its first bytes, and the second, if
-- one does; and what `read` finds and `put` leaves of them. Assumes nothing.
use Prim.Native.Nat.{ℕ, suc, ◌+◌, ◌-◌, ◌*◌, ◌/◌, ◌%◌, ◌^◌, ◌≤◌, ◌<◌, zero-le}
use native.Mathlib.Nat.{not-suc-le-zero}
use native.Mathlib.Omega.{arith}
use mathlib.Core.Path.{◌≡◌, refl, ◌∙◌}
use mathlib.Core.Bool.{Bool, true, false, cond}
use mathlib.Core.List.{List, [], ◌∷◌}
use borrow.Author.Tests.{eqb-true, lt-ltb, le-ltb, le-leb}
use lib.Dec.{eqb}
use lib.ListN.{length, get_or, set}
use lib.Seq.{slice, sets, slice-cons}
use Rattle.laws.specs.Bytes.{be, de}
use Rattle.laws.specs.Writes.{Wrote}
use Rattle.laws.proofs.SliceLaws.{slice-none}
use Rattle.wire.specs.declared.form.Row.{Row}
use Rattle.std.specs.Prelude.{Option, Some, None}
use Rattle.wire.specs.Form.{cap, by_first, by_value, ones, twos}
use Rattle.wire.specs.Varint.{encode, read_f, read_at, Begins}
use Rattle.wire.proofs.FormLaws.{Lawful}
use Rattle.wire.proofs.Reading.{short, found}
use Rattle.wire.proofs.Writing.{room_in, wrote-in}

-- a row was found, whose first bytes begin with `mark` and have `tail` bytes after them
pub record FoundIn (f : Option Row) (tail mark : ℕ) : Type 0 where
  pub row : Row
  pub found : f ≡ Some row
  pub tails : row.tail ≡ tail
  pub marked : row.mark ≡ mark

-- a byte below `ones` is in the first row
pub one-first : (F : List Row) (b : ℕ) → Lawful 0 F → b < ones F → FoundIn (by_first F b) 0 0
unfolding ones by_first
one-first [] b w h = absurd (not-suc-le-zero h)
one-first (r ∷ rs) b w h = go (eqb r.tail 0) refl h
  where
    go : (t : Bool) → eqb r.tail 0 ≡ t → b < cond t r.width 0 → FoundIn (by_first (r ∷ rs) b) 0 0
    go true e lt = record { row = r; found = rw (lt-ltb b (r.mark + r.width) (omega arith)); tails = eqb-true _ _ e; marked = w.0 }
    go false e lt = absurd (not-suc-le-zero lt)

-- so is a value below it
pub one_value : (F : List Row) (v : ℕ) → Lawful 0 F → v < ones F → FoundIn (by_value F v) 0 0
unfolding ones by_value
one_value [] v w h = absurd (not-suc-le-zero h)
one_value (r ∷ rs) v w h = go (eqb r.tail 0) refl h
  where
    go : (t : Bool) → eqb r.tail 0 ≡ t → v < cond t r.width 0 → FoundIn (by_value (r ∷ rs) v) 0 0
    go true e lt =
        let z : r.tail ≡ 0 = eqb-true _ _ e in
        let below : v < cap r = rw z (omega arith) in
        record { row = r; found = rw (lt-ltb v (cap r) below); tails = z; marked = w.0 }
    go false e lt = absurd (not-suc-le-zero lt)

-- a byte from there on and below `twos` more is in the second
pub two-first : (F : List Row) (b : ℕ) → Lawful 0 F → ones F ≤ b → b < ones F + twos F → FoundIn (by_first F b) 1 (ones F)
unfolding ones twos by_first
two-first [] b w h k = absurd (not-suc-le-zero k)
two-first (r ∷ []) b w h k = go (eqb r.tail 0) h k
  where
    go : (t : Bool) → cond t r.width 0 ≤ b → b < cond t r.width 0 + cond t 0 0 → FoundIn (by_first (r ∷ []) b) 1 (ones (r ∷ []))
    go true le lt = absurd (omega arith)
    go false le lt = absurd (omega arith)
two-first (r ∷ q ∷ rs) b w h k = go (eqb r.tail 0) (eqb q.tail 1) refl h k
  where
    go : (t u : Bool) → eqb q.tail 1 ≡ u → cond t r.width 0 ≤ b → b < cond t r.width 0 + cond t (cond u q.width 0) 0
        → FoundIn (by_first (r ∷ q ∷ rs) b) 1 (cond t r.width 0)
    go true true e le lt =
        record {
          row = q;
          found = rw (le-ltb b (r.mark + r.width) (omega arith), lt-ltb b (q.mark + q.width) (omega (arith, w.5.0)));
          tails = eqb-true _ _ e;
          marked = omega (arith, w.5.0);
        }
    go true false e le lt = absurd (omega arith)
    go false u e le lt = absurd (omega arith)

-- so is a value from there on and below 256 times `twos`
pub two-value : (F : List Row) (v : ℕ) → Lawful 0 F → ones F ≤ v → v < twos F * 256 → FoundIn (by_value F v) 1 (ones F)
unfolding ones twos by_value
two-value [] v w h k = absurd (not-suc-le-zero k)
two-value (r ∷ []) v w h k = go (eqb r.tail 0) k
  where
    go : (t : Bool) → v < cond t 0 0 * 256 → FoundIn (by_value (r ∷ []) v) 1 (ones (r ∷ []))
    go true lt = absurd (omega arith)
    go false lt = absurd (omega arith)
two-value (r ∷ q ∷ rs) v w h k = go (eqb r.tail 0) (eqb q.tail 1) refl refl h k
  where
    go : (t u : Bool) → eqb r.tail 0 ≡ t → eqb q.tail 1 ≡ u → cond t r.width 0 ≤ v → v < cond t (cond u q.width 0) 0 * 256
        → FoundIn (by_value (r ∷ q ∷ rs) v) 1 (cond t r.width 0)
    go true true d e le lt =
        let z : r.tail ≡ 0 = eqb-true _ _ d in
        let y : q.tail ≡ 1 = eqb-true _ _ e in
        let past : cap r ≤ v = rw z (omega arith) in
        let below : v < cap q = rw y (omega arith) in
        record { row = q; found = rw (le-ltb v (cap r) past, lt-ltb v (cap q) below); tails = y; marked = omega (arith, w.5.0) }
    go true false d e le lt = absurd (omega arith)
    go false u d e le lt = absurd (omega arith)

-- all of them are bytes
pub short-bytes : (F : List Row) → Lawful 0 F → ones F + twos F ≤ 256
unfolding ones twos
short-bytes [] w = zero-le
short-bytes (r ∷ []) w = go (eqb r.tail 0)
  where
    go : (t : Bool) → cond t r.width 0 + cond t 0 0 ≤ 256
    go true = omega (arith, w.1)
    go false = zero-le
short-bytes (r ∷ q ∷ rs) w = go (eqb r.tail 0) (eqb q.tail 1)
  where
    go : (t u : Bool) → cond t r.width 0 + cond t (cond u q.width 0) 0 ≤ 256
    go true true = omega (arith, w.5.0, w.5.1)
    go true false = omega (arith, w.1)
    go false u = zero-le

-- ---- reading

-- a byte below `ones` at the front of a list
pub front-one : (F : List Row) → Lawful 0 F → (b : ℕ) (s : List ℕ) → b < ones F → read_f F (b ∷ s) ≡ Some (b, 1)
unfolding read_f de
front-one F w b s lt =
    let f = one-first F b w lt in
    let e : (b - 0) * 256 ^ 0 + de [] ≡ b = omega arith in
    rw (f.found, f.tails, f.marked, le-leb 0 (length s) zero-le, e)

module _ (F : List Row) (w : Lawful 0 F) (s : List ℕ) (at end b : ℕ) (h : Begins s at end b) where
  -- a byte below `ones` is a varint, and its value
  pub read_one : b < ones F → Some (b, at + 1) ≡ read_at F s at end
  unfolding de
  read_one lt =
      let f = one-first F b w lt in
      let z = f.tails in
      let r : Row = f.row in
      let e : b ≡ (b - r.mark) * 256 ^ r.tail + de (slice (at + 1) (at + 1 + r.tail) s) =
      rw (z, f.marked, slice-none (at + 1) (at + 1 + 0) s (omega arith)) (omega arith) in
      let p : at + 1 ≡ at + 1 + r.tail = omega arith in
      let q : Some (b, at + 1) ≡ Some ((b - r.mark) * 256 ^ r.tail + de (slice (at + 1) (at + 1 + r.tail) s), at + 1 + r.tail) = cc in
      q ∙ found F s at end b h.first h.inside h.before r f.found (omega arith)

  module _ (le : ones F ≤ b) (lt : b < ones F + twos F) where
    -- the second byte isn't there
    pub cut-two : end - at < 2 → None ≡ read_at F s at end
    cut-two few =
        let f = two-first F b w le lt in
        let o = f.tails in
        short F s at end b h.first h.inside h.before f.row f.found (omega arith)

    -- both are
    pub read-two : 2 ≤ end - at → Some ((b - ones F) * 256 + get_or s (at + 1) 0, at + 2) ≡ read_at F s at end
    unfolding de
    read-two two =
        let f = two-first F b w le lt in
        let o = f.tails in
        let r : Row = f.row in
        let inside = h.inside in
        let one : slice (at + 1) (at + 1 + 1) s ≡ get_or s (at + 1) 0 ∷ [] =
        slice-cons (at + 1) (at + 1 + 1) s 0 (omega arith) (omega arith) ∙ rw (slice-none (suc (at + 1)) (at + 1 + 1) s (omega arith)) in
        let e : (b - ones F) * 256 + get_or s (at + 1) 0 ≡ (b - r.mark) * 256 ^ r.tail + de (slice (at + 1) (at + 1 + r.tail) s) =
        rw (o, f.marked, one) (omega arith) in
        let p : at + 2 ≡ at + 1 + r.tail = omega arith in
        let q : Some ((b - ones F) * 256 + get_or s (at + 1) 0, at + 2) ≡ Some ((b - r.mark) * 256 ^ r.tail + de (slice (at + 1) (at + 1 + r.tail) s), at + 1 + r.tail) = cc in
        q ∙ found F s at end b h.first h.inside h.before r f.found (omega arith)

-- ---- writing

module _ (F : List Row) (w : Lawful 0 F) (v : ℕ) (l : List ℕ) (at : ℕ) (room : at + length (encode F v) ≤ length l) where
  module _ (lt : v < ones F) where
    pub room-one : at < length l
    room-one = let f = one_value F v w lt in let z = f.tails in omega (arith, room_in F v l at room f.row f.found)

    pub wrote_one : Wrote l at (encode F v) (set l at v) (at + 1)
    unfolding be
    wrote_one =
        let f = one_value F v w lt in
        let z = f.tails in
        let r : Row = f.row in
        let top : r.mark + v ≡ v = omega (arith, f.marked) in
        let e : set l at (r.mark + v) ≡ set l at v = rw top in
        let p : at + 1 + r.tail ≡ at + 1 = omega arith in
        let m : l ≡ sets l (at + 1) (be r.tail v) = rw z in
        let x : v ≡ v / 256 ^ r.tail = rw z (omega arith) in
        rw (e, p) at (wrote-in F v l at room r f.found l v m x)

  module _ (le : ones F ≤ v) (lt : v < twos F * 256) where
    pub room-two : at + 2 ≤ length l
    room-two = let f = two-value F v w le lt in let o = f.tails in omega (arith, room_in F v l at room f.row f.found)

    pub wrote-two : Wrote l at (encode F v) (set (set l (at + 1) (v % 256)) at (ones F + v / 256)) (at + 2)
    unfolding be
    wrote-two =
        let f = two-value F v w le lt in
        let o = f.tails in
        let r : Row = f.row in
        let e : set (set l (at + 1) (v % 256)) at (r.mark + v / 256) ≡ set (set l (at + 1) (v % 256)) at (ones F + v / 256) = rw f.marked in
        let p : at + 1 + r.tail ≡ at + 2 = omega arith in
        let low : v % 256 ≡ v / 256 ^ 0 % 256 = omega arith in
        let m : set l (at + 1) (v % 256) ≡ sets l (at + 1) (be 1 v) = rw low in
        rw (e, p) at (wrote-in F v l at room r f.found (set l (at + 1) (v % 256)) (v / 256) (rw o m) (rw o))

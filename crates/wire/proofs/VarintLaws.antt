-- Laws of varints over any lawful form: how long they are, reading what was written, and what anything that was read can be. Assumes nothing.
use Prim.Native.Nat.{ℕ, suc, ◌+◌, ◌-◌, ◌*◌, ◌^◌, ◌≤◌, ◌<◌, zero-le}
use native.Mathlib.Nat.{div-add-mod', add-sub_cancel_left}
use native.Mathlib.Omega.{arith}
use mathlib.Core.Path.{◌≡◌, refl, sym, ◌∙◌, ap}
use mathlib.Core.Bool.{Bool, true, false, cond}
use mathlib.Core.List.{List, [], ◌∷◌, ◌++◌, append-nil}
use borrow.Author.Tests.{le-leb, leb-true}
use lib.Arith.{digits_lt}
use lib.Dec.{leb}
use lib.ListN.{length, take, drop, length-append, take-append-drop}
use lib.Seq.{length-take-le, take_at, drop_at, take-append-le, take-append-add, drop-append_seam}
use Rattle.laws.specs.Bytes.{be, de, Bytes}
use Rattle.laws.proofs.ListLaws.{fronts-same}
use Rattle.laws.proofs.BytesLaws.{length-be, de-be, de-lt, bytes_take}
use Rattle.wire.specs.declared.form.Row.{Row}
use Rattle.std.specs.Prelude.{Option, Some, None}
use Rattle.std.proofs.lemmas.Option.{some_pair_parts}
use Rattle.wire.specs.Form.{cap, by_first, by_value, limit, longest}
use Rattle.wire.specs.Varint.{encode_in, encode, size_of, read_in, read_f, read_at}
use Rattle.wire.proofs.FormLaws.{Lawful, Begun, by-first, Held, by-value, fits, no_longer}
use Rattle.laws.specs.Options.{on_option}

-- the varint and its size, from the row that was found
pub encode-in : (F : List Row) (v : ℕ) (r : Row) → by_value F v ≡ Some r → encode F v ≡ encode_in r v
unfolding encode
encode-in F v r e = rw e

pub size_in : (F : List Row) (v : ℕ) (r : Row) → by_value F v ≡ Some r → size_of F v ≡ suc r.tail
unfolding size_of
size_in F v r e = rw e

-- a number too wide counts as the longest
pub size-past : (F : List Row) (v : ℕ) → by_value F v ≡ None → size_of F v ≡ longest F
unfolding size_of
size-past F v e = rw e

-- a varint has as many bytes as `size_of` says
pub length-encode : (F : List Row) (v : ℕ) → v < limit F → length (encode F v) ≡ size_of F v
length-encode F v h =
    let r = fits F v h in
    rw (encode-in F v r.0 r.1, size_in F v r.0 r.1, length-be r.0.tail v)

-- no varint is longer than nine bytes
pub size-short : (F : List Row) (v : ℕ) → Lawful 0 F → v < limit F → size_of F v ≤ 9
size-short F v w h = let r = fits F v h in omega (arith, size_in F v r.0 r.1, (by-value F 0 v r.0 w r.1).short)

-- what is known of a varint that was read off a first byte b and the bytes s after it
pub record Taken (F : List Row) (b : ℕ) (s : List ℕ) (v k : ℕ) : Type 0 where
  pub row : Row
  pub first : by_first F b ≡ Some row
  pub room : row.tail ≤ length s
  pub value : v ≡ (b - row.mark) * 256 ^ row.tail + de (take row.tail s)
  pub size : k ≡ suc row.tail

taken : (F : List Row) (b : ℕ) (s : List ℕ) (v k : ℕ) → read_f F (b ∷ s) ≡ Some (v, k) → Taken F b s v k
unfolding read_f
taken F b s v k e = go (by_first F b) refl e
  where
    in_row : (r : Row) (t : Bool) → by_first F b ≡ Some r → leb r.tail (length s) ≡ t
        → cond {A = Option (ℕ × ℕ)} t (Some ((b - r.mark) * 256 ^ r.tail + de (take r.tail s), suc r.tail)) None ≡ Some (v, k) → Taken F b s v k
    in_row r true q t d = let p = some_pair_parts _ v _ k d in record { row = r; first = q; room = leb-true _ _ t; value = sym p.0; size = sym p.1 }
    in_row r false q t d = let z : ◌≡◌ {A = ℕ} 0 1 = cc in absurd (omega arith)

    go : (f : Option Row) → by_first F b ≡ f → on_option f (λ r. read_in r b s) None ≡ Some (v, k) → Taken F b s v k
    go (Some r) q d = in_row r (leb r.tail (length s)) q refl d
    go None q d = let z : ◌≡◌ {A = ℕ} 0 1 = cc in absurd (omega arith)

-- no bytes are no varint
none : (F : List Row) (v k : ℕ) → read_f F [] ≡ Some (v, k) → ⊥
unfolding read_f
none F v k e = let z : ◌≡◌ {A = ℕ} 0 1 = cc in omega arith

-- a varint that was read takes some of the bytes
pub read-size : (F : List Row) (s : List ℕ) (v k : ℕ) → read_f F s ≡ Some (v, k) → (0 < k) × (k ≤ length s)
read-size F [] v k e = absurd (none F v k e)
read-size F (b ∷ s) v k e = let t = taken F b s v k e in (omega (arith, t.size), omega (arith, t.size, t.room))

-- a varint goes by its own bytes, whatever stands behind them
pub read-own : (F : List Row) (s r r' : List ℕ) (v k : ℕ) → k ≤ length s → read_f F (s ++ r) ≡ Some (v, k) → read_f F (s ++ r') ≡ Some (v, k)
unfolding read_f
read-own F [] r r' v k h e = absurd (omega (arith, (read-size F r v k e).0))
read-own F (b ∷ s) r r' v k h e =
    let t = taken F b (s ++ r) v k e in
    let n : ℕ = t.row.tail in
    let l : n ≤ length s = omega (arith, t.size) in
    let m : n ≤ length (s ++ r') = omega (arith, length-append s r') in
    rw (t.first, le-leb _ _ m, take-append-le n s r' l, ← take-append-le n s r l) (λ j. Some (sym t.value j, sym t.size j))

-- so it stands in its own bytes
pub read-prefix : (F : List Row) (s : List ℕ) (v k : ℕ) → read_f F s ≡ Some (v, k) → read_f F (take k s) ≡ Some (v, k)
read-prefix F s v k e =
    let l : length (take k s) ≡ k = length-take-le k s (read-size F s v k e).1 in
    ap (read_f F) (sym (append-nil (take k s)))
    ∙ read-own F (take k s) (drop k s) [] v k (omega arith) (ap (read_f F) (take-append-drop k s) ∙ e)

-- and more may stand behind it
pub read_more : (F : List Row) (s r : List ℕ) (v k : ℕ) → read_f F s ≡ Some (v, k) → read_f F (s ++ r) ≡ Some (v, k)
read_more F s r v k e = read-own F s [] r v k (read-size F s v k e).1 (ap (read_f F) (append-nil s) ∙ e)

-- two varints at the front of one list are the same
pub read-once : (F : List Row) (a b x y : List ℕ) (v w : ℕ) → read_f F a ≡ Some (v, length a) → read_f F b ≡ Some (w, length b) → a ++ x ≡ b ++ y
    → (v ≡ w) × (a ≡ b) × (x ≡ y)
read-once F a b x y v w h k e =
    let q : Some (v, length a) ≡ Some (w, length b) =
    sym (read_more F a x v (length a) h) ∙ ap (read_f F) e ∙ read_more F b y w (length b) k in
    let p = some_pair_parts v w (length a) (length b) q in
    let same = fronts-same a b x y e p.1 in
    (p.0, same.0, same.1)

module _ (F : List Row) (w : Lawful 0 F) where
  -- its value is one that its row holds
  in_cap : (b : ℕ) (s : List ℕ) (v k : ℕ) → Bytes s → (t : Taken F b s v k) → v < cap t.row
  in_cap b s v k h t =
      let r : Row = t.row in
      let f : Begun F b r = by-first F 0 b r w zero-le t.first in
      let q : b - r.mark < r.width = omega (arith, f.above, f.below) in
      let d : de (take r.tail s) < 256 ^ r.tail =
      rw (length-take-le r.tail s t.room) at (de-lt (take r.tail s) (bytes_take r.tail s h)) in
      rw t.value (digits_lt q d)

  -- bytes spell no number past what the form holds
  pub read-bound : (s : List ℕ) (v k : ℕ) → Bytes s → read_f F s ≡ Some (v, k) → v < limit F
  read-bound [] v k h e = absurd (none F v k e)
  read-bound (b ∷ s) v k h e =
      let t = taken F b s v k e in
      omega (arith, in_cap b s v k h.1 t, (by-first F 0 b t.row w zero-le t.first).held)

  -- no varint of v is shorter than the one that is written
  pub shortest : (s : List ℕ) (v k : ℕ) → Bytes s → read_f F s ≡ Some (v, k) → size_of F v ≤ k
  shortest [] v k h e = absurd (none F v k e)
  shortest (b ∷ s) v k h e =
      let t = taken F b s v k e in
      let q = no_longer F 0 b v t.row w t.first (in_cap b s v k h.1 t) in
      omega (arith, size_in F v q.0 q.1, q.2, t.size)

module _ (F : List Row) (w : Lawful 0 F) (v : ℕ) (h : v < limit F) where
  -- reading what was written, with anything after it, gives the value and how many bytes it takes
  pub read-encode : (rest : List ℕ) → read_f F (encode F v ++ rest) ≡ Some (v, size_of F v)
  unfolding read_f
  read-encode rest =
      let r : Row = (fits F v h).0 in
      let e : by_value F v ≡ Some r = (fits F v h).1 in
      let held : Held F 0 v r = by-value F 0 v r w e in
      let l : length (be r.tail v) ≡ r.tail = length-be r.tail v in
      let n : r.tail ≤ length (be r.tail v ++ rest) = omega (arith, length-append (be r.tail v) rest) in
      rw (
        encode-in F v r e,
        size_in F v r e,
        held.found,
        le-leb _ _ n,
        take_at (be r.tail v) rest r.tail l,
        add-sub_cancel_left,
        de-be,
        div-add-mod',
      )

  -- what is left is what stood after it
  pub drop-encode : (rest : List ℕ) → drop (size_of F v) (encode F v ++ rest) ≡ rest
  drop-encode rest = drop_at (encode F v) rest (size_of F v) (length-encode F v h)

  -- the same at a place of a list, before an end: the value, and the place after it
  pub read-anywhere : (pre post : List ℕ) (k : ℕ) → size_of F v + k ≤ length (encode F v ++ post)
      → read_at F (pre ++ (encode F v ++ post)) (length pre) (length pre + (size_of F v + k)) ≡ Some (v, length pre + size_of F v)
  unfolding read_at
  read-anywhere pre post k n =
      let m : length pre + (size_of F v + k) ≤ length (pre ++ (encode F v ++ post)) = omega (arith, length-append pre (encode F v ++ post)) in
      rw (
        le-leb _ _ m,
        take-append-add pre (encode F v ++ post) (size_of F v + k),
        drop-append_seam,
        ← length-encode F v h,
        take-append-add (encode F v) post k,
        read-encode (take k post),
        length-encode F v h,
      )

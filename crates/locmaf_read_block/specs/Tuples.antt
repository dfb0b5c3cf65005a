-- Tuples off the front of a property block. 01: "A tuple is a scalar (even id, one varint), a list (odd id, length, varints) or raw bytes
-- (ids 9, 23; 25 holds records)."
use Rattle.std.specs.Prelude.{ℕ, ◌+◌, ◌-◌, ◌%◌, cond, ◌||◌, List, leb, eqb, length, drop, Option, Some, None}
use Rattle.std.proofs.Math.Seq.{slice}
use Rattle.wire.specs.declared.form.Row.{Row}
use Rattle.wire.specs.Varint.{read_f, on_got}
use Rattle.byte_parts.specs.declared.Part.{Part}
use Rattle.locmaf_read_block.specs.declared.tuples.Kind.{Kind}
use Rattle.locmaf_read_block.specs.declared.tuples.Kind.TheVariants.{Scalar, Numbers, Raw, Records}
use Rattle.locmaf_read_block.specs.declared.tuples.Tuple.{Tuple}
use Rattle.locmaf_read_block.specs.Front.{Front, off, cut, Series, taken, wholly, on_read}

-- ==== The rules

abbrev pub part : ℕ → ℕ → Part
part at len = record { at = at; len = len }

-- the bytes of a part
abbrev pub bytes_of : List ℕ → Part → List ℕ
bytes_of s p = slice p.at (p.at + p.len) s

-- the kind of an id, whether the id is known or not (D81)
unfoldable pub kind_of : ℕ → Part → Kind
kind_of id p =
    cond (eqb (id % 2) 0) (Scalar p)
    (cond (eqb id 25) (Records p)
    (cond (eqb id 9 || eqb id 23) (Raw p)
    (Numbers p)))

abbrev pub part_of : Kind → Part
part_of (Scalar p) = p
part_of (Numbers p) = p
part_of (Raw p) = p
part_of (Records p) = p

abbrev pub tuple : ℕ → ℕ → Part → Tuple
tuple id n p = record { id = id; number = n; kind = kind_of id p }

-- what follows an id: s is what is left, which starts at the place p
unfoldable pub body_f : List Row → ℕ → ℕ → List ℕ → Option (Tuple × ℕ)
body_f F id p s =
    on_got (read_f F s)
    (λ n k.
    cond (eqb (id % 2) 0) (Some (tuple id n (part p k), p + k))
    (cond (leb n (length (drop k s))) (Some (tuple id n (part (p + k) n), p + k + n)) None))
    None

-- the tuple off the front of s, which starts at the place at, and the place after it
unfoldable pub tuple_f : List Row → ℕ → List ℕ → Option (Tuple × ℕ)
tuple_f F at s = on_got (read_f F s) (λ id k. body_f F id (at + k) (drop k s)) None

unfoldable pub tuple_front : List Row → ℕ → List ℕ → Front Tuple
tuple_front F at s = on_read (tuple_f F at s) (λ t next. off t (next - at)) cut

-- the tuples off the front of s, which starts at the place at
unfoldable pub tuples_run : List Row → ℕ → List ℕ → Series Tuple
tuples_run F at s = taken (tuple_front F) 0 at s

-- the tuples that fill s, none where the last is cut
unfoldable pub tuples_f : List Row → ℕ → List ℕ → Option (List Tuple)
tuples_f F at s = wholly (tuples_run F at s)

-- ==== What only mirrors the code

-- the tuple from the place at, that ends before the place end
unfoldable pub tuple_at : List Row → List ℕ → ℕ → ℕ → Option (Tuple × ℕ)
tuple_at F s at end = cond (leb end (length s)) (tuple_f F at (slice at end s)) None

-- Which bytes are a whole list of boxes. A list is read from its front.
use Rattle.std.specs.Prelude.{ℕ, Bool, true, not, ◌||◌, List, leb, eqb, length, drop}
use Rattle.std.proofs.Math.Seq.{slice}
use Rattle.laws.specs.Bytes.{de}
use Rattle.laws.specs.ByLength.{by_length}
use Rattle.laws.specs.Tests.{◌and◌}
use Rattle.boxes.specs.Box.{moof, traf}

-- ==== The rules

-- the first box of a list: its size, its type, what stands inside it; and the boxes after it
unfoldable pub size_of : List ℕ → ℕ
size_of l = de (slice 0 4 l)

unfoldable pub kind_of : List ℕ → ℕ
kind_of l = de (slice 4 8 l)

unfoldable pub inside_of : List ℕ → List ℕ
inside_of l = slice 8 (size_of l) l

unfoldable pub after_of : List ℕ → List ℕ
after_of l = drop (size_of l) l

-- 01, The chunk accepted: "Sizes are 32-bit and at least 8." The list has the box's head, and all the bytes that its size counts (D14).
unfoldable pub sized : List ℕ → Bool
sized l = leb 8 (length l) and (leb 8 (size_of l) and leb (size_of l) (length l))

-- "a container (`moof`, `traf`)": by type, wherever it stands (D15, D20)
unfoldable pub container : ℕ → Bool
container kind = eqb kind moof || eqb kind traf

-- "A list of boxes is whole when each box in it is, and a container (`moof`, `traf`) when the list inside it is." (D13, D16) The equation of `whole`:
abbrev pub whole_by : (List ℕ → Bool) → List ℕ → Bool
whole_by whole l = eqb (length l) 0 || (sized l and ((not (container (kind_of l)) || whole (inside_of l)) and whole (after_of l)))

-- on any depth (D18)
unfoldable pub whole : List ℕ → Bool
whole l = by_length true whole_by l

-- ==== What only mirrors the code

-- a box past its size field, from its type on
unfoldable pub whole_box : List ℕ → Bool
whole_box b = not (container (de (slice 0 4 b))) || whole (drop 4 b)

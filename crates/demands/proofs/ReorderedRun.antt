-- A run that is swapped and then reordered, with tuples of every odd kind: padded varints, an unknown id that stands twice, a list with a cut varint, a broken
-- event record. Assumes nothing.
use Prim.Native.Nat.{ℕ}
use native.Mathlib.Omega.{arith}
use mathlib.Core.Path.{refl}
use mathlib.Core.List.Permᴰ
use mathlib.Core.List.{List, [], ◌∷◌, ◌++◌, flatten, reverse}
use Rattle.laws.specs.Bytes.{de}
use Rattle.track.specs.declared.Asked.{Asked}
use Rattle.wire.specs.Form.{by_first}
use Rattle.wire.specs.Varint.{read_f}
use Rattle.locmaf_read_block.specs.Tuples.{part, tuple, body_f, tuple_f}
use Rattle.locmaf_read_block.specs.Whole.{WholeTuple}
use Rattle.laws.specs.Each.{AllOf}
use Rattle.receiver.specs.Parts.{Parts}
use Rattle.cmaf_read_facts.specs.Given.{F}
use Rattle.demands.specs.Three.{opens, groups, receives, numbered, numbered_from, Reordered, Changed, swap, reorder, behind, ◌then◌}

-- id 10 in two bytes with the value 5 in four; the unknown id 40 twice; a list of two bytes of which the second starts a varint of eight; and a record whose
-- scheme says nine bytes and has none
abbrev parts : List (List ℕ)
parts = (64 ∷ 10 ∷ 128 ∷ 0 ∷ 0 ∷ 5 ∷ []) ∷ (40 ∷ 7 ∷ []) ∷ (40 ∷ 8 ∷ []) ∷ (1 ∷ 2 ∷ 0 ∷ 192 ∷ []) ∷ (25 ∷ 1 ∷ 9 ∷ []) ∷ []

whole : AllOf (WholeTuple F) parts
unfolding tuple_f body_f read_f by_first de
whole = (
  (tuple 10 5 (part 2 4), refl),
  ((tuple 40 7 (part 1 1), refl), ((tuple 40 8 (part 1 1), refl), ((tuple 1 2 (part 2 2), refl), ((tuple 25 1 (part 2 1), refl), tt)))),
)

-- a full object of them: the header id in two bytes, 17 bytes of tuples, a payload of three
abbrev object : List (List ℕ) → List ℕ
object ts = (64 ∷ 23 ∷ []) ++ ((17 ∷ []) ++ (flatten ts ++ (1 ∷ 2 ∷ 3 ∷ [])))

object-parts : Parts F (object parts)
unfolding flatten read_f by_first de
object-parts =
    record {
      header = 64 ∷ 23 ∷ [];
      long = 17 ∷ [];
      tuples = parts;
      payload = 1 ∷ 2 ∷ 3 ∷ [];
      bytes = refl;
      id = 23;
      header-reads = refl;
      length-reads = refl;
      whole = whole;
    }

turned : Reordered (object parts) (object (reverse parts))
unfolding object-parts
turned = record { parts = object-parts; tuples' = reverse parts; permuted = Permᴰ.symm (Permᴰ.reverse parts); bytes' = refl }

pub run : (a b : Asked) (room : List ℕ)
    → Changed (numbered_from 0 (opens 0 a ∷ opens 1 b ∷ receives 1 (object parts) room ∷ groups 0 ∷ []))
    (numbered 1 (opens 1 b) ∷ numbered 0 (opens 0 a) ∷ numbered 2 (receives 1 (object (reverse parts)) room) ∷ numbered 3 (groups 0) ∷ [])
run a b room =
    swap (numbered 0 (opens 0 a)) (numbered 1 (opens 1 b)) (λ e. omega arith)
    then
    behind (numbered 1 (opens 1 b)) (behind (numbered 0 (opens 0 a)) (reorder 2 1 room turned))

-- Some of the bytes, from a place on. Assumes nothing.
use Prim.Native.Nat.{ℕ, ◌+◌, ◌-◌, ◌≤◌}
use native.Mathlib.Omega.{arith}
use mathlib.Core.Path.{◌≡◌, ap}
use mathlib.Core.List.{List}
use lib.ListN.{length, take, drop, length-take, length-drop}
use Rattle.event_value.specs.Events.{part}

pub part-is : (o : List ℕ) (place size : ℕ) → take (place + size - place) (drop place o) ≡ part o place size
part-is o place size = let e : place + size - place ≡ size = omega arith in ap (λ (n : ℕ). take n (drop place o)) e

pub part_length : (o : List ℕ) (place size : ℕ) → place + size ≤ length o → length (part o place size) ≡ size
part_length o place size h = simp (length-take, length-drop) (omega arith)

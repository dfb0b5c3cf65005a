-- A refusal leaves the whole output. Assumes nothing.
use Prim.Native.Nat.{ℕ, zero-le}
use mathlib.Core.Path.{refl}
use mathlib.Core.List.{List}
use Rattle.answers.specs.Took.{refused, PastStays}

pub refused-past : (output : List ℕ) (k : ℕ) → PastStays output (refused output k)
refused-past output k = record { room = zero-le; long = refl; past = refl }

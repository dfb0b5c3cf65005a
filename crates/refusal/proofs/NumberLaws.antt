-- The numbers of refusals. Assumes nothing.
use Prim.Native.Nat.{ℕ}
use native.Mathlib.Omega.{arith}
use mathlib.Core.Path.{◌≡◌}
use Rattle.refusal.specs.declared.Refusal.{Refusal}
use Rattle.refusal.specs.declared.Refusal.TheVariants.{NoSuchSlot, NotOpen, AlreadyOpen, BadParameters, BrokenTree, WrongBox, BrokenRule, PastMaximum, NoObject, OtherHeader, NoReference, Unreadable, WrongIds, UnlawfulSet, OutOfRange, SumsDisagree, NoRoom, UnlawfulTable, IvPastSize}
use Rattle.refusal.specs.Numbers.{number_of}

-- 0 stands for none
pub number-some : (r : Refusal) → number_of r ≡ 0 → ⊥
number-some NoSuchSlot e = omega arith
number-some NotOpen e = omega arith
number-some AlreadyOpen e = omega arith
number-some BadParameters e = omega arith
number-some BrokenTree e = omega arith
number-some WrongBox e = omega arith
number-some BrokenRule e = omega arith
number-some PastMaximum e = omega arith
number-some NoObject e = omega arith
number-some OtherHeader e = omega arith
number-some NoReference e = omega arith
number-some Unreadable e = omega arith
number-some WrongIds e = omega arith
number-some UnlawfulSet e = omega arith
number-some OutOfRange e = omega arith
number-some SumsDisagree e = omega arith
number-some NoRoom e = omega arith
number-some UnlawfulTable e = omega arith
number-some IvPastSize e = omega arith

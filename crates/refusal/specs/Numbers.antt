-- The numbers given back. 01: "If an answer is an enum, a definition gives this paper's number and values for each of the enum's cases."
-- ==== The rules
use Rattle.std.specs.Prelude.{ℕ, Result, Ok, Err}
use Rattle.refusal.specs.declared.Refusal.{Refusal}
use Rattle.refusal.specs.declared.Refusal.TheVariants.{NoSuchSlot, NotOpen, AlreadyOpen, BadParameters, BrokenTree, WrongBox, BrokenRule, PastMaximum, NoObject, OtherHeader, NoReference, Unreadable, WrongIds, UnlawfulSet, OutOfRange, SumsDisagree, NoRoom, UnlawfulTable, IvPastSize}

abbrev pub number_of : Refusal → ℕ
-- "slot number above 7"
number_of NoSuchSlot = 1
-- "slot not open"
number_of NotOpen = 2
-- "opening an open slot"
number_of AlreadyOpen = 3
-- "bad parameters"
number_of BadParameters = 4
-- "chunk: the tree of boxes is broken"
number_of BrokenTree = 5
-- "chunk: wrong box, order, version, flags or box length"
number_of WrongBox = 6
-- "chunk: any other rule of "The chunk accepted" broken"
number_of BrokenRule = 7
-- "chunk: a count or length past its maximum"
number_of PastMaximum = 8
-- "chunk: BMDT past its maximum, whatever the wish; or, where no delta is given, a number too wide in the full object"
number_of NoObject = 9
-- "header id neither 23 nor 25: skipped"
number_of OtherHeader = 10
-- "delta, and no reference held"
number_of NoReference = 11
-- "object unreadable"
number_of Unreadable = 12
-- "id unknown, twice or forbidden here; .."
number_of WrongIds = 13
-- "deletion, list length (ids 9 and 23 too) or resulting set unlawful, any other absence included"
number_of UnlawfulSet = 14
-- "value outside its range or maximum"
number_of OutOfRange = 15
-- "sizes or protected sums disagree"
number_of SumsDisagree = 16
-- "output shorter than the front"
number_of NoRoom = 17
-- "table of the wrong length, or the named share unlawful"
number_of UnlawfulTable = 18
-- 02, order 6: "21, receiver only, derived IV past its size"
number_of IvPastSize = 21

-- "done" is 0, whatever it comes with
abbrev pub number_in : {A : Type 0} → Result A Refusal → ℕ
number_in (Ok a) = 0
number_in (Err r) = number_of r

-- an answer with the number in the place of the refusal
abbrev pub numbered : {A : Type 0} → Result A Refusal → Result A ℕ
numbered (Ok a) = Ok a
numbered (Err r) = Err (number_of r)

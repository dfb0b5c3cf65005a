-- `field_table::lines::place_at` meets its contract: each arm of the match is the place of the table's line of that number.
use mathlib.Core.Path.{refl}
use Rattle.field_table.specs.Lines.{lines, place_of, line_count}
use Rattle.field_table.proofs.LineLaws.{from-none, place_is, place-past}
use Rattle.field_table.proofs.lines.place_at.Goals as goal

pub returns-in-0 : goal.returns-in-0
unfolding place_of lines
returns-in-0 c = place_is 0 c.in-0.is refl

pub returns-in-1 : goal.returns-in-1
unfolding place_of lines
returns-in-1 c = place_is 1 c.in-1.is refl

pub returns-in-2 : goal.returns-in-2
unfolding place_of lines
returns-in-2 c = place_is 2 c.in-2.is refl

pub returns-in-3 : goal.returns-in-3
unfolding place_of lines
returns-in-3 c = place_is 3 c.in-3.is refl

pub returns-in-4 : goal.returns-in-4
unfolding place_of lines
returns-in-4 c = place_is 4 c.in-4.is refl

pub returns-in-5 : goal.returns-in-5
unfolding place_of lines
returns-in-5 c = place_is 5 c.in-5.is refl

pub returns-in-6 : goal.returns-in-6
unfolding place_of lines
returns-in-6 c = place_is 6 c.in-6.is refl

pub returns-in-7 : goal.returns-in-7
unfolding place_of lines
returns-in-7 c = place_is 7 c.in-7.is refl

pub returns-in-8 : goal.returns-in-8
unfolding place_of lines
returns-in-8 c = place_is 8 c.in-8.is refl

pub returns-in-9 : goal.returns-in-9
unfolding place_of lines
returns-in-9 c = place_is 9 c.in-9.is refl

pub returns-in-10 : goal.returns-in-10
unfolding place_of lines
returns-in-10 c = place_is 10 c.in-10.is refl

pub returns-in-11 : goal.returns-in-11
unfolding place_of lines
returns-in-11 c = place_is 11 c.in-11.is refl

pub returns-in-12 : goal.returns-in-12
unfolding place_of lines
returns-in-12 c = place_is 12 c.in-12.is refl

pub returns-in-13 : goal.returns-in-13
unfolding place_of lines
returns-in-13 c = place_is 13 c.in-13.is refl

pub returns-in_default : goal.returns-in_default
returns-in_default c = place-past _ (from-none line_count _ c.in_default.in_default-own.rest)

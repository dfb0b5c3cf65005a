-- `field_table::lines::line_at` meets its contract: each arm of the match is the table's line of that number.
use Rattle.field_table.specs.Lines.{lines, line_count}
use Rattle.field_table.proofs.LineLaws.{from-none, line-is, line-past}
use Rattle.field_table.proofs.lines.line_at.Goals as goal

pub returns-in-0 : goal.returns-in-0
unfolding lines
returns-in-0 c = line-is 0 c.in-0.is c.row.ensures

pub returns-in-1 : goal.returns-in-1
unfolding lines
returns-in-1 c = line-is 1 c.in-1.is c.row-in-1.ensures

pub returns-in-2 : goal.returns-in-2
unfolding lines
returns-in-2 c = line-is 2 c.in-2.is c.row-in-2.ensures

pub returns-in-3 : goal.returns-in-3
unfolding lines
returns-in-3 c = line-is 3 c.in-3.is c.row-in-3.ensures

pub returns-in-4 : goal.returns-in-4
unfolding lines
returns-in-4 c = line-is 4 c.in-4.is c.row-in-4.ensures

pub returns-in-5 : goal.returns-in-5
unfolding lines
returns-in-5 c = line-is 5 c.in-5.is c.row-in-5.ensures

pub returns-in-6 : goal.returns-in-6
unfolding lines
returns-in-6 c = line-is 6 c.in-6.is c.row-in-6.ensures

pub returns-in-7 : goal.returns-in-7
unfolding lines
returns-in-7 c = line-is 7 c.in-7.is c.row-in-7.ensures

pub returns-in-8 : goal.returns-in-8
unfolding lines
returns-in-8 c = line-is 8 c.in-8.is c.row-in-8.ensures

pub returns-in-9 : goal.returns-in-9
unfolding lines
returns-in-9 c = line-is 9 c.in-9.is c.row-in-9.ensures

pub returns-in-10 : goal.returns-in-10
unfolding lines
returns-in-10 c = line-is 10 c.in-10.is c.row-in-10.ensures

pub returns-in-11 : goal.returns-in-11
unfolding lines
returns-in-11 c = line-is 11 c.in-11.is c.row-in-11.ensures

pub returns-in-12 : goal.returns-in-12
unfolding lines
returns-in-12 c = line-is 12 c.in-12.is c.row-in-12.ensures

pub returns-in-13 : goal.returns-in-13
unfolding lines
returns-in-13 c = line-is 13 c.in-13.is c.row-in-13.ensures

pub returns-in_default : goal.returns-in_default
returns-in_default c = line-past _ (from-none line_count _ c.in_default.in_default-own.rest) c.row-in_default.ensures

-- `field_table::lines::length_of` meets its contract, by cases on what the line wants.
use native.Mathlib.Nat.{mul-le-mul}
use native.Mathlib.Omega.{arith}
use Rattle.field_table.specs.declared.lines.Want.TheVariants.{One, LessOne, Count, Ivs, Sum}
use Rattle.field_table.specs.Lines.{wanted}
use Rattle.field_table.proofs.LineLaws.{want_is}
use Rattle.field_table.proofs.lines.length_of.Goals as goal

pub overflow_mul-result : goal.overflow_mul-result
overflow_mul-result c =
    let s = c.requires in
    omega (arith, mul-le-mul s.count s.ivs)

pub returns-in-One : goal.returns-in-One
unfolding wanted
returns-in-One c = want_is One _ c.in-One.is

pub returns-then-m-eq0 : goal.returns-then-m-eq0
unfolding wanted
returns-then-m-eq0 c = omega (arith, want_is LessOne c.args.m c.in-LessOne.is)

pub returns-else-m-eq0 : goal.returns-else-m-eq0
unfolding wanted
returns-else-m-eq0 c = want_is LessOne _ c.in-LessOne.is

pub returns-in-Count : goal.returns-in-Count
unfolding wanted
returns-in-Count c = want_is Count _ c.in-Count.is

pub returns-in-Ivs : goal.returns-in-Ivs
unfolding wanted
returns-in-Ivs c = want_is Ivs _ c.in-Ivs.is

pub returns-in-Sum : goal.returns-in-Sum
unfolding wanted
returns-in-Sum c = want_is Sum _ c.in-Sum.is

-- `slots::lawful::write_asked` meets its contract: eight stores are one run.
use native.Mathlib.Omega.{arith}
use lib.ListN.{length-set}
use Rattle.slots.proofs.ShareLaws.{eight-stored}
use Rattle.slots.proofs.lawful.write_asked.Goals as goal

pub bounds-s-4 : goal.bounds-s-4
bounds-s-4 c = simp length-set (omega arith)

pub bounds-s-5 : goal.bounds-s-5
bounds-s-5 c = simp length-set (omega arith)

pub bounds-s-6 : goal.bounds-s-6
bounds-s-6 c = simp length-set (omega arith)

pub bounds-s-7 : goal.bounds-s-7
bounds-s-7 c = simp length-set (omega arith)

pub returns : goal.returns
returns c = eight-stored c.args.s.now c.args.a c.requires

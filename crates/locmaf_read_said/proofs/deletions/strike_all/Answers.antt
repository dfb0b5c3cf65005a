use native.Mathlib.Omega.{arith}
use mathlib.Core.Path.{sym, ◌∙◌}
use Rattle.wire.specs.Form.{rows}
use Rattle.locmaf_read_block.proofs.ReadLaws.{Found, found}
use Rattle.locmaf_read_said.proofs.DeletionLaws.{start, done, cut-never, refused, next}
use Rattle.locmaf_read_said.proofs.deletions.strike_all.Goals as goal

pub loop-p-init : goal.loop-p-init
loop-p-init c = let p = c.requires in start _ _ _ _ _ p.telling.0 p.telling.1 _ _ p.r_len

pub returns-in_default : goal.returns-in_default
returns-in_default c =
    let l = c.loop-p in
    absurd (cut-never _ _ _ _ _ _ _ _ l.invariant c.loop-p-test.true (sym c.in_default.is ∙ c.read.ensures))

pub returns-then-not-strike : goal.returns-then-not-strike
returns-then-not-strike c =
    let l = c.loop-p in
    refused _ _ _ _ _ _ _ _ l.invariant _ _ (found _ _ _ _ _ _ (sym c.in-Some.is ∙ c.read.ensures)) _ _ c.strike.ensures c.if-not-strike.true

-- the varint that was read
one_of : (c : goal.Else-not-strike)
    → let a = c.args in
    Found (rows a.form) a.o.now c.loop-p.p a.end c.in-Some.d c.in-Some.next
one_of c = found _ _ _ _ _ _ (sym c.in-Some.is ∙ c.read.ensures)

pub loop-p-smaller : goal.loop-p-smaller
loop-p-smaller c = let one = one_of c in omega (arith, one.some, one.within)

pub loop-p-preserved : goal.loop-p-preserved
loop-p-preserved c =
    let l = c.loop-p in
    next _ _ _ _ _ _ _ _ l.invariant _ _ (one_of c) _ _ c.strike.ensures c.if-not-strike.false

pub returns : goal.returns
returns c = done _ _ _ _ _ _ _ _ c.loop-p.invariant c.loop-p-test.false

use native.Mathlib.Omega.{arith}
use Rattle.locmaf_read_index.proofs.IndexLoop.{start, done, enters, cut, read, more}
use Rattle.locmaf_read_index.proofs.index.index.Goals as goal

pub loop-p-init : goal.loop-p-init
loop-p-init c = start _ _ _ _ _ _ c.requires

pub entry_at-requires : goal.entry_at-requires
entry_at-requires c = enters _ _ _ _ _ _ _ _ _ _ c.loop-p.invariant c.loop-p-test.true

pub returns-in_default : goal.returns-in_default
returns-in_default c =
    let w = c.entry_at.ensures in
    rw w.1 (cut _ _ _ _ _ _ _ _ _ _ c.loop-p.invariant c.loop-p-test.true c.in_default.ensures.0)

pub note-clean-requires : goal.note-clean-requires
note-clean-requires c =
    let z = (read _ _ _ _ _ _ _ _ _ _ c.loop-p.invariant c.loop-p-test.true _ _ _ c.in-Some.ensures.0).took in
    (c.loop-p.invariant.room, omega (arith, z.ends, z.within, c.loop-p.invariant.bytes, c.well_formed))

pub loop-p-smaller : goal.loop-p-smaller
loop-p-smaller c =
    let z = (read _ _ _ _ _ _ _ _ _ _ c.loop-p.invariant c.loop-p-test.true _ _ _ c.in-Some.ensures.0).took in
    omega (arith, z.two, z.within)

pub loop-p-preserved : goal.loop-p-preserved
loop-p-preserved c =
    let w = c.in-Some.ensures in
    let n = c.note-clean.ensures in
    let i = c.loop-p.invariant in
    let lt = c.loop-p-test.true in
    rw (n.1, n.0, w.1) (more _ _ _ _ _ _ _ _ _ _ i lt _ _ _ (read _ _ _ _ _ _ _ _ _ _ i lt _ _ _ w.0))

pub returns-then-clean : goal.returns-then-clean
returns-then-clean c = rw c.if-clean.true at (done _ _ _ _ _ _ _ _ _ _ c.loop-p.invariant c.loop-p-test.false)

pub returns : goal.returns
returns c = rw c.if-clean.false at (done _ _ _ _ _ _ _ _ _ _ c.loop-p.invariant c.loop-p-test.false)

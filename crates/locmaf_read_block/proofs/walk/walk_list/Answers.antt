use Prim.Native.Nat.{◌+◌, ◌≤◌, ◌<◌}
use native.Mathlib.Omega.{arith}
use mathlib.Core.Path.{◌≡◌, sym}
use lib.ListN.{length, drop}
use borrow.Author.Rules.{part_to_end}
use Rattle.wire.specs.Form.{rows}
use Rattle.std.specs.Prelude.{Some}
use Rattle.locmaf_read_block.specs.Records.{record_f}
use Rattle.locmaf_read_block.proofs.ListLoop.{start, done, cut, takes, next}
use Rattle.locmaf_read_block.proofs.walk.walk_list.Goals as goal

pub loop-at-init : goal.loop-at-init
loop-at-init c = start _ _ _ _ _ c.requires

pub overflow_add-base : goal.overflow_add-base
overflow_add-base c = let i = c.loop-at.invariant in omega (arith, i.within, i.lent.places)

pub record_of-requires : goal.record_of-requires
record_of-requires c = rw part_to_end c.loop-at.invariant.lent.places

pub returns-in_err-r : goal.returns-in_err-r
returns-in_err-r c =
    rw c.from_residual.ensures
    (cut _ _ _ _ _ c.loop-at.invariant c.loop-at-test.true (rw part_to_end at (sym c.in_err-r.ensures)))

-- the record that was read
one_of : (c : goal.After-slice_known-in-loop-at-1)
    → let a = c.args in
    record_f (rows a.form) (a.base + c.loop-at.at) (drop c.loop-at.at a.s.now) ≡ Some (c.in_ok-r.r, c.in_ok-r.k)
one_of c = rw part_to_end at (sym c.in_ok-r.ensures)

-- how far it goes
passed : (c : goal.After-slice_known-in-loop-at-1)
    → let k = c.in_ok-r.k in
    (0 < k) × (c.loop-at.at + k ≤ length c.args.s.now)
passed c = takes _ _ _ _ _ c.loop-at.invariant (one_of c)

pub overflow_add-at : goal.overflow_add-at
overflow_add-at c = let z = passed c in omega arith

pub overflow_add-count : goal.overflow_add-count
overflow_add-count c = omega (arith, c.loop-at.invariant.lent.block)

pub loop-at-smaller : goal.loop-at-smaller
loop-at-smaller c = let z = passed c in omega arith

pub loop-at-preserved : goal.loop-at-preserved
loop-at-preserved c = next _ _ _ _ _ c.loop-at.invariant (one_of c) c.keep.ensures c.keep.auto.out

pub returns : goal.returns
returns c = done _ _ _ _ _ c.loop-at.invariant c.loop-at-test.false

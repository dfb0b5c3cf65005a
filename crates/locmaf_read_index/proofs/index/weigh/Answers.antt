-- `locmaf_read_index::index::weigh` meets its contract: each kind is weighed as the definition says.
use native.Mathlib.Omega.{arith}
use Rattle.locmaf_read_index.specs.Index.{weighed, heard}
use Rattle.locmaf_read_index.proofs.WeighLaws.{of-kind, part_length, records-weighed}
use Rattle.locmaf_read_index.proofs.index.weigh.Goals as goal

pub overflow_add-p : goal.overflow_add-p
overflow_add-p c = let w = of-kind c.in-Numbers.is c.requires in omega (arith, w.inside)

pub overflow_add-end : goal.overflow_add-end
overflow_add-end c = let w = of-kind c.in-Records.is c.requires in omega (arith, w.inside)

pub slice_bounds-read_list-end : goal.slice_bounds-read_list-end
slice_bounds-read_list-end c = (of-kind c.in-Records.is c.requires).inside

pub read_list-requires : goal.read_list-requires
read_list-requires c =
    let w = of-kind c.in-Records.is c.requires in
    let p = c.in-Records.p in
    let l = part_length p.at p.len c.args.s.now w.inside in
    record { block = omega (arith, l, w.block); places = omega (arith, l, w.inside, c.well_formed); room = w.list }

pub returns-in-Scalar : goal.returns-in-Scalar
unfolding weighed heard
returns-in-Scalar c = (rw c.in-Scalar.is, rw c.in-Scalar.is)

pub returns-in-Numbers : goal.returns-in-Numbers
unfolding weighed heard
returns-in-Numbers c =
    let e = c.in-Numbers.is in
    (rw e c.count.ensures, rw e)

pub returns-in-Raw : goal.returns-in-Raw
unfolding weighed heard
returns-in-Raw c = (rw c.in-Raw.is, rw c.in-Raw.is)

pub returns-in-Records : goal.returns-in-Records
returns-in-Records c =
    let e = c.in-Records.is in
    let p = c.in-Records.p in
    let w = records-weighed _ c.args.s.now p _ _ _ (of-kind e c.requires).inside c.read_list.ensures in
    (rw e w.0, rw e w.1)

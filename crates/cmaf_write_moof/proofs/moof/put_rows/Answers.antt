use native.Mathlib.Nat.{sub-zero}
use native.Mathlib.Omega.{arith}
use mathlib.Core.Path.{ap}
use lib.ListN.{length, length-append}
use Rattle.laws.proofs.WriteLaws.{wrote_as}
use Rattle.laws.proofs.LeftLaws.{left-all, left-none, left-room, left-same, left_less}
use Rattle.field_set.specs.Lawful.{count_in}
use Rattle.cmaf_write_moof.proofs.MoofLaws.{rows-by, rows_next, rows_end}
use Rattle.cmaf_write_moof.proofs.moof.put_rows.Goals as goal

pub listed_sizes-listed-requires : goal.listed_sizes-listed-requires
listed_sizes-listed-requires c = c.requires.w_len.0

pub last_size-last-requires : goal.last_size-last-requires
last_size-last-requires c = let p = c.requires in record { w_len = p.w_len; sized = p.sized }

pub loop-i-init : goal.loop-i-init
loop-i-init c =
    let a = c.args in
    let e = rows-by a.t a.w.now a.payload c.last_size-last.result c.last_size-last.ensures (count_in a.w.now) 0 in
    (omega arith, rw sub-zero (left-all _ _ _ (rw e c.requires.w_in_bounds)))

pub size_at-size-requires : goal.size_at-size-requires
size_at-size-requires c =
    let h = c.requires.w_len in
    record { w_len = (h.0, omega (arith, h.1)); listed_value = c.listed_sizes-listed.ensures }

pub put_row-p-requires : goal.put_row-p-requires
put_row-p-requires c =
    let w = c.args.w.now in
    let l = c.loop-i in
    let e = rows_next w c.last_size-last.result (count_in w) l.i c.size_at-size.result c.loop-i-test.true c.size_at-size.ensures in
    record { w_len = (c.requires.w_len.0, omega (arith, c.requires.w_len.1)); i_in_bounds = omega (arith, left-room l.invariant.1, simp length-append at (ap length e)) }

pub loop-i-preserved : goal.loop-i-preserved
loop-i-preserved c =
    let w = c.args.w.now in
    let l = c.loop-i in
    let e = rows_next w c.last_size-last.result (count_in w) l.i c.size_at-size.result c.loop-i-test.true c.size_at-size.ensures in
    (omega arith, left_less l.invariant.1 _ e c.put_row-p.ensures)

pub shape_of-out : goal.shape_of-out
shape_of-out c = left-same c.loop-i.invariant.1

pub returns : goal.returns
returns c =
    let a = c.args in
    let w = a.w.now in
    let l = c.loop-i in
    let e = rows-by a.t w a.payload c.last_size-last.result c.last_size-last.ensures (count_in w) 0 in
    wrote_as e (left-none l.invariant.1 (rows_end w c.last_size-last.result (count_in w) l.i c.loop-i-test.false))

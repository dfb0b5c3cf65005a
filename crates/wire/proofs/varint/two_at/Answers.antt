-- `wire::varint::two_at` meets its contract, by the laws of `proofs/ShortLaws.antt`.
use Prim.Native.Nat.{◌+◌, ◌-◌, ◌*◌, ◌^◌, ◌<◌}
use native.Mathlib.Omega.{arith}
use Rattle.wire.specs.Form.{rows}
use Rattle.wire.proofs.FormLaws.{lawful}
use Rattle.wire.proofs.ShortLaws.{short-bytes, cut-two, read-two}
use Rattle.wire.proofs.varint.two_at.Goals as goal

pub overflow_add-at : goal.overflow_add-at
overflow_add-at c = let h = c.requires.begins in omega (arith, h.before, h.inside)

pub returns-then-end-at : goal.returns-then-end-at
returns-then-end-at c =
    let a = c.args in
    let p = c.requires in
    cut-two (rows a.form) (lawful a.form) a.s.now a.at a.end a.b p.begins p.form_bound.0 p.form_bound.1 (omega arith)

pub overflow_sub-above : goal.overflow_sub-above
overflow_sub-above c = let p = c.requires in omega (arith, p.form_bound.0, c.ones.ensures)

pub bounds-s-at : goal.bounds-s-at
bounds-s-at c = let h = c.requires.begins in omega (arith, h.inside, h.before, c.if-end-at.false)

pub overflow_mul-result : goal.overflow_mul-result
overflow_mul-result c = omega (arith, c.requires.form_bound.1, short-bytes (rows c.args.form) (lawful c.args.form))

pub overflow_add-result : goal.overflow_add-result
overflow_add-result c =
    let bytes = short-bytes (rows c.args.form) (lawful c.args.form) in
    let low : c.wide-low.result < 2 ^ 8 = rw c.wide-low.ensures (c.type_inv.s (c.args.at + 1)).fits in
    let sum : (c.args.b - c.ones.result) * 256 + c.wide-low.result < 2 ^ 64 = omega (arith, c.requires.form_bound.1, bytes, low) in
    record { fits = sum }

pub overflow_add-result-2 : goal.overflow_add-result-2
overflow_add-result-2 c = let h = c.requires.begins in omega (arith, h.inside, c.if-end-at.false)

pub returns : goal.returns
returns c =
    let a = c.args in
    let p = c.requires in
    rw (c.wide-low.ensures, c.ones.ensures)
    (read-two (rows a.form) (lawful a.form) a.s.now a.at a.end a.b p.begins p.form_bound.0 p.form_bound.1 (omega (arith, c.if-end-at.false)))

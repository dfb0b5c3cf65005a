-- `locmaf_read_index::index::note` meets its contract, by the laws of `proofs/NoteLaws.antt`.
use native.Mathlib.Omega.{arith}
use mathlib.Core.Path.{ap, sym, ◌∙◌}
use lib.ListN.{length-set}
use Rattle.byte_parts.specs.declared.Part.{Part}
use Rattle.locmaf_read_index.proofs.NoteLaws.{small-known, fresh-unknown, fresh-twice, fresh-is, noted-not, noted-is}
use Rattle.locmaf_read_index.proofs.index.note.Goals as goal

pub returns-then-not-known_id : goal.returns-then-not-known_id
returns-then-not-known_id c =
    let a = c.args in
    let f = fresh-unknown a.out.now a.t.id (sym c.known_id.ensures ∙ c.if-not-known_id.true) in
    (f, noted-not a.out.now a.t a.count f)

pub overflow_mul-i : goal.overflow_mul-i
overflow_mul-i c = omega (arith, small-known _ c.known_id.ensures c.if-not-known_id.false)

pub offset_bounds-out-i : goal.offset_bounds-out-i
offset_bounds-out-i c = omega (arith, small-known _ c.known_id.ensures c.if-not-known_id.false)

pub bounds-out-i : goal.bounds-out-i
bounds-out-i c = omega (arith, small-known _ c.known_id.ensures c.if-not-known_id.false)

pub returns-then-out-i-ne0 : goal.returns-then-out-i-ne0
returns-then-out-i-ne0 c =
    let a = c.args in
    let f = fresh-twice a.out.now a.t.id c.if-out-i-ne0.true in
    (f, noted-not a.out.now a.t a.count f)

pub overflow_add-out : goal.overflow_add-out
overflow_add-out c = omega (arith, ap (λ (x : Part). x.at) c.part_of-p.ensures, c.requires.1)

pub offset_bounds-out-i-2 : goal.offset_bounds-out-i-2
offset_bounds-out-i-2 c = omega (arith, small-known _ c.known_id.ensures c.if-not-known_id.false)

pub bounds-out-i-2 : goal.bounds-out-i-2
bounds-out-i-2 c = omega (arith, small-known _ c.known_id.ensures c.if-not-known_id.false)

pub overflow_add-out-2 : goal.overflow_add-out-2
overflow_add-out-2 c = omega (arith, small-known _ c.known_id.ensures c.if-not-known_id.false)

pub offset_bounds-out-i-3 : goal.offset_bounds-out-i-3
offset_bounds-out-i-3 c = omega (arith, small-known _ c.known_id.ensures c.if-not-known_id.false)

pub bounds-out-i-3 : goal.bounds-out-i-3
bounds-out-i-3 c = simp length-set (omega (arith, small-known _ c.known_id.ensures c.if-not-known_id.false))

pub overflow_add-out-3 : goal.overflow_add-out-3
overflow_add-out-3 c = omega (arith, small-known _ c.known_id.ensures c.if-not-known_id.false)

pub offset_bounds-out-i-4 : goal.offset_bounds-out-i-4
offset_bounds-out-i-4 c = omega (arith, small-known _ c.known_id.ensures c.if-not-known_id.false)

pub bounds-out-i-4 : goal.bounds-out-i-4
bounds-out-i-4 c = simp length-set (omega (arith, small-known _ c.known_id.ensures c.if-not-known_id.false))

pub returns : goal.returns
returns c =
    let a = c.args in
    let f = fresh-is a.out.now a.t.id (sym c.known_id.ensures ∙ c.if-not-known_id.false) c.if-out-i-ne0.false in
    (f, rw c.part_of-p.ensures (noted-is a.out.now a.t a.count f))

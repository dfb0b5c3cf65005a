-- `wire::varint::put_more` meets its contract, by the row that `by_value` found and the laws of `proofs/Writing.antt`.
use native.Mathlib.Omega.{arith}
use mathlib.Core.Path.{◌≡◌, sym, ◌∙◌}
use Prim.Native.Nat.{ℕ}
use Rattle.std.specs.Prelude.{Some}
use Rattle.wire.specs.declared.form.Form.{Form}
use Rattle.wire.specs.declared.form.Row.{Row}
use Rattle.wire.specs.Form.{rows, by_value}
use Rattle.wire.proofs.FormLaws.{Held, by-value, lawful}
use Rattle.wire.proofs.Writing.{wrote-past, room_in, wrote-in}
use Rattle.wire.proofs.varint.put_more.Goals as goal

-- what the row that was found says of a number
held : (F : Form) (v : ℕ) (r : Row) → by_value (rows F) v ≡ Some r → Held (rows F) 0 v r
held F v r e = by-value (rows F) 0 v _ (lawful F) e

pub returns-in_default : goal.returns-in_default
returns-in_default c =
    let a = c.args in
    wrote-past (rows a.form) a.v a.out.now a.at c.requires (sym c.by_value.ensures ∙ c.in_default.is)

pub put_low-x-requires : goal.put_low-x-requires
put_low-x-requires c =
    let a = c.args in
    room_in (rows a.form) a.v a.out.now a.at c.requires _ (sym c.by_value.ensures ∙ c.in-Some.is)

pub overflow_add-out : goal.overflow_add-out
overflow_add-out c =
    let h = held c.args.form c.args.v _ (sym c.by_value.ensures ∙ c.in-Some.is) in
    omega (arith, h.byte, h.top, c.put_low-x.ensures.1)

pub overflow_cast-out : goal.overflow_cast-out
overflow_cast-out c =
    let h = held c.args.form c.args.v _ (sym c.by_value.ensures ∙ c.in-Some.is) in
    omega (arith, h.byte, h.top, c.put_low-x.ensures.1)

pub bounds-out-at : goal.bounds-out-at
bounds-out-at c =
    let a = c.args in
    let room = room_in (rows a.form) a.v a.out.now a.at c.requires _ (sym c.by_value.ensures ∙ c.in-Some.is) in
    omega (arith, room)

pub overflow_add-result-2 : goal.overflow_add-result-2
overflow_add-result-2 c =
    let a = c.args in
    let room = room_in (rows a.form) a.v a.out.now a.at c.requires _ (sym c.by_value.ensures ∙ c.in-Some.is) in
    omega (arith, room)

pub returns : goal.returns
returns c =
    let a = c.args in
    let p = c.put_low-x in
    wrote-in (rows a.form) a.v a.out.now a.at c.requires _ (sym c.by_value.ensures ∙ c.in-Some.is) _ _ p.ensures.0 p.ensures.1

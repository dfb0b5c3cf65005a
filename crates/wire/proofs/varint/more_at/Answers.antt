-- `wire::varint::more_at` meets its contract, by the laws of `proofs/Reading.antt` and those of the form.
use Prim.Native.Nat.{ℕ, zero-le}
use native.Mathlib.Omega.{arith}
use native.Mathlib.Nat.{add-sub_cancel_left}
use mathlib.Core.Path.{◌≡◌, sym, ◌∙◌}
use Rattle.std.specs.Prelude.{Some}
use Rattle.wire.specs.declared.form.Form.{Form}
use Rattle.wire.specs.declared.form.Row.{Row}
use Rattle.wire.specs.Form.{rows, by_first}
use Rattle.wire.proofs.FormLaws.{Begun, by-first, lawful}
use Rattle.wire.proofs.Reading.{missing, short, found}
use Rattle.wire.proofs.varint.more_at.Goals as goal

-- what the row that was found says of a first byte
begun : (F : Form) (b : ℕ) (r : Row) → by_first (rows F) b ≡ Some r → Begun (rows F) b r
begun F b r e = by-first (rows F) 0 _ _ (lawful F) zero-le e

pub returns-in_err-r : goal.returns-in_err-r
returns-in_err-r c =
    let a = c.args in
    let h = c.requires in
    c.from_residual.ensures ∙ missing (rows a.form) a.s.now _ _ _ h.first h.inside h.before (sym c.by_first.ensures ∙ c.in_err-r.was)

pub overflow_add-from : goal.overflow_add-from
overflow_add-from c = let h = c.requires in omega (arith, h.before, h.inside)

pub overflow_sub-end : goal.overflow_sub-end
overflow_sub-end c = let h = c.requires in omega (arith, h.before)

pub returns-then-end-from : goal.returns-then-end-from
returns-then-end-from c =
    let a = c.args in
    let h = c.requires in
    short (rows a.form) a.s.now _ _ _ h.first h.inside h.before _ (sym (c.in_ok-r.ensures)) c.if-end-from.true

pub overflow_sub-b : goal.overflow_sub-b
overflow_sub-b c = (begun c.args.form c.args.b _ (sym (c.in_ok-r.ensures))).above

pub join-v-requires : goal.join-v-requires
join-v-requires c =
    let a = c.args in
    let h = c.requires in
    record {
      from_le_to = (omega arith, omega (arith, h.inside));
      from_bound = rw add-sub_cancel_left (begun a.form a.b _ (sym (c.in_ok-r.ensures))).fits;
    }

pub returns : goal.returns
returns c =
    let a = c.args in
    let h = c.requires in
    rw (c.join-v.ensures, add-sub_cancel_left)
    (found (rows a.form) a.s.now _ _ _ h.first h.inside h.before _ (sym (c.in_ok-r.ensures)) c.if-end-from.false)

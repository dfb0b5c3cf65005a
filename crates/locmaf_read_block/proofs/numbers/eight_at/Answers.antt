-- `locmaf_read_block::numbers::eight_at` meets its contract: twice four bytes.
use native.Mathlib.Omega.{arith}
use mathlib.Core.Path.{◌≡◌, sym}
use Prim.Native.Nat.{◌+◌}
use Rattle.wire.specs.Form.{rows}
use Rattle.locmaf_read_block.proofs.OnesLaws.{ones-join}
use Rattle.locmaf_read_block.proofs.numbers.eight_at.Goals as goal

pub returns : goal.returns
returns c =
    let a = c.args in
    let e : a.p + 4 + 4 ≡ a.p + 8 = omega arith in
    let h = c.requires in
    rw (c.four_at.ensures, c.four_at-2.ensures, e)
    (sym (ones-join (rows a.form) a.p (a.p + 4) (a.p + 8) a.s.now (omega arith) (omega arith) h))

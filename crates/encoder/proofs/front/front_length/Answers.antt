-- `encoder::front::front_length` meets its contract: the lengths of its parts together.
use Prim.Native.Nat.{ℕ, ◌+◌}
use mathlib.Core.Path.{◌∙◌, ap, ap₂}
use Rattle.wire.specs.Form.{rows}
use Rattle.wire.specs.Varint.{size_of}
use Rattle.encoder.specs.Planned.{front_bytes}
use borrow.Author.Rules.{rules}
use Rattle.wire.proofs.SizeLaws.{size-eight}
use Rattle.encoder.proofs.front.front_length.Goals as goal

pub overflow_add-result : goal.overflow_add-result
overflow_add-result c =
    let i = size-eight c.args.form c.header_of.result in
    let j = size-eight c.args.form c.args.a.block in
    search rules

pub overflow_add-result-2 : goal.overflow_add-result-2
overflow_add-result-2 c =
    let i = size-eight c.args.form c.header_of.result in
    let j = size-eight c.args.form c.args.a.block in
    search rules

pub returns : goal.returns
unfolding front_bytes
returns c =
    ap₂ (λ (i j : ℕ). i + (j + c.args.a.block))
    (c.size.ensures ∙ ap (size_of (rows c.args.form)) c.header_of.ensures) c.size-2.ensures

-- `locmaf_write_events::records::time_bytes` meets its contract: by the number that was given.
use mathlib.Core.Path.{sym, ◌∙◌, ap}
use Prim.Native.Nat.{ℕ}
use Rattle.wire.specs.Form.{rows}
use Rattle.wire.specs.Varint.{size_of}
use Rattle.wire.proofs.ZigzagLaws.{fitted-inv}
use Rattle.wire.proofs.SizeLaws.{wide-size}
use Rattle.locmaf_write_events.proofs.records.time_bytes.Goals as goal

pub returns-in_default : goal.returns-in_default
returns-in_default c = c.most.ensures ∙ sym (wide-size _ _ (sym c.time_number.ensures ∙ c.in_default.is))

pub returns : goal.returns
returns c =
    let f = fitted-inv _ _ (sym c.time_number.ensures ∙ c.in-Some.is) in
    c.size.ensures ∙ ap (λ (z : ℕ). size_of (rows c.args.form) z) f.0

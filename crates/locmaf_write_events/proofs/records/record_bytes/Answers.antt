-- `locmaf_write_events::records::record_bytes` meets its contract: the sum of the bytes of its parts.
use Prim.Native.Nat.{ℕ, ◌≤◌, ◌<◌, ◌^◌}
use native.Mathlib.Omega.{arith}
use mathlib.Core.Path.{◌∙◌, ap}
use Rattle.wire.specs.Form.{rows}
use Rattle.wire.specs.Varint.{size_of}
use Rattle.locmaf_write_events.specs.Records.{words_bytes}
use Rattle.wire.proofs.SizeLaws.{size-eight}
use Rattle.locmaf_write_events.proofs.records.record_bytes.Goals as goal

-- no part is long
small : (c : goal.After-size-id)
    → (c.text_bytes-texts.result < 2 ^ 33)
    × (c.text_bytes-value.result < 2 ^ 33)
    × (c.text_bytes-message.result < 2 ^ 33)
    × (c.size-scale.result ≤ 8)
    × (c.time_bytes-time.result ≤ 8)
    × (c.size-duration.result ≤ 8)
    × (c.size-id.result ≤ 8)
small c =
    let form = c.args.form in (
      c.text_bytes-texts.ensures.1,
      c.text_bytes-value.ensures.1,
      c.text_bytes-message.ensures.1,
      rw c.size-scale.ensures (size-eight form _),
      rw c.time_bytes-time.ensures (size-eight form _),
      rw c.size-duration.ensures (size-eight form _),
      rw c.size-id.ensures (size-eight form _),
    )

pub overflow_add-result : goal.overflow_add-result
overflow_add-result c = let s = small c in omega (arith, s.0, s.1, s.2, s.3, s.4, s.5, s.6)

pub overflow_add-result-2 : goal.overflow_add-result-2
overflow_add-result-2 c = let s = small c in omega (arith, s.0, s.1, s.2, s.3, s.4, s.5, s.6)

pub overflow_add-result-3 : goal.overflow_add-result-3
overflow_add-result-3 c = let s = small c in omega (arith, s.0, s.1, s.2, s.3, s.4, s.5, s.6)

pub overflow_add-result-4 : goal.overflow_add-result-4
overflow_add-result-4 c = let s = small c in omega (arith, s.0, s.1, s.2, s.3, s.4, s.5, s.6)

pub overflow_add-result-5 : goal.overflow_add-result-5
overflow_add-result-5 c = let s = small c in omega (arith, s.0, s.1, s.2, s.3, s.4, s.5, s.6)

pub overflow_add-result-6 : goal.overflow_add-result-6
overflow_add-result-6 c = let s = small c in omega (arith, s.0, s.1, s.2, s.3, s.4, s.5, s.6)

pub returns : goal.returns
unfolding words_bytes
returns c =
    let s = small c in
    let scale = c.size-scale.ensures ∙ ap (λ (x : ℕ). size_of (rows c.args.form) x) c.scale_of.ensures in (
      omega (
        arith,
        c.text_bytes-texts.ensures.0,
        c.text_bytes-value.ensures.0,
        c.text_bytes-message.ensures.0,
        scale,
        c.time_bytes-time.ensures,
        c.size-duration.ensures,
        c.size-id.ensures,
      ),
      omega (arith, s.0, s.1, s.2, s.3, s.4, s.5, s.6),
    )

-- `effective::durations::unlisted` meets its contract: one duration for all samples, the set's or trex's.
use Prim.Native.Nat.{◌+◌}
use native.Mathlib.Omega.{arith}
use lib.ListN.{get_or}
use Rattle.field_table.specs.Lines.{lines, line_for, count_at, duration_at}
use Rattle.field_set.proofs.ValueLaws.{has_no, has-yes}
use Rattle.effective.proofs.DurationLaws.{duration-small, product-most, durations-default, durations-trex}
use Rattle.effective.proofs.durations.unlisted.Goals as goal

pub overflow_mul-result : goal.overflow_mul-result
overflow_mul-result c = omega (arith, product-most (get_or c.args.w.now count_at 0) (get_or c.args.w.now (duration_at + 1) 0) c.requires.0.few (duration-small c.requires.0))

pub returns-then-w-ne0 : goal.returns-then-w-ne0
unfolding lines line_for
returns-then-w-ne0 c = durations-default _ _ c.requires.1 (has-yes 4 _ c.if-w-ne0.true)

pub overflow_mul-result-2 : goal.overflow_mul-result-2
overflow_mul-result-2 c = omega (arith, product-most (get_or c.args.w.now count_at 0) c.args.t.duration c.requires.0.few (omega arith))

pub returns : goal.returns
unfolding lines line_for
returns c = durations-trex _ _ c.requires.1 (has_no 4 _ c.if-w-ne0.false)

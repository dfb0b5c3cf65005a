use Rattle.std.proofs.Common.{sym, arith, length-take-le, rules}
use Rattle.wire_vectors.proofs.lists.long_lists.Goals as goal

pub loop-i-preserved : goal.loop-i-preserved
loop-i-preserved g c = (search rules, search rules, omega arith, omega arith, omega arith)

pub slice_bounds-pair-end : goal.slice_bounds-pair-end
slice_bounds-pair-end g c = sym (length-take-le 64 c.loop-i.new (omega arith))

pub slice_bounds-pair-end-2 : goal.slice_bounds-pair-end-2
slice_bounds-pair-end-2 g c = sym (length-take-le 40 c.loop-i.old (omega arith))

pub slice_bounds-pair-end-3 : goal.slice_bounds-pair-end-3
slice_bounds-pair-end-3 g c = sym (length-take-le 64 c.loop-i.new (omega arith))

-- `slot_vectors::calls::ask` is safe and ends: the words are as many as is tested.
use Rattle.std.proofs.Common.{sym, arith, length-take-le}
use Rattle.slot_vectors.proofs.calls.ask.Goals as goal

pub slice_bounds-table-end-2 : goal.slice_bounds-table-end-2
slice_bounds-table-end-2 c = sym (length-take-le _ _ (omega arith))

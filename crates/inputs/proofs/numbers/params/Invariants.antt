use Rattle.std.proofs.Common.{ℕ, ◌<◌, length, get_or}
use Rattle.inputs.specs.Numbers.{limit}
use Rattle.inputs.proofs.numbers.params.Given as goal

abbrev pub invariant-loop-n : goal.invariant-loop-n
invariant-loop-n l = (k : ℕ) → k < length l.n-items → get_or l.n-items k 0 < limit

-- `printing::letters::word` is safe and ends: each of eight bytes is passed once.
use Rattle.std.proofs.Common.{◌≤◌, ◌-◌}
use Rattle.printing.proofs.letters.word.Given as goal

abbrev pub invariant-loop-k : goal.invariant-loop-k
invariant-loop-k g l = l.k ≤ 8

use Rattle.inputs.specs.Arguments.{IsLawful}
use Rattle.inputs.proofs.arguments.read.Given as goal

abbrev pub invariant-loop-i : goal.invariant-loop-i
invariant-loop-i g l = IsLawful l.reading.options

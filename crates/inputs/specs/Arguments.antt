-- What the program is started with.
use Rattle.std.specs.Prelude.{ℕ, ◌<◌, Option, Some, None, ⊤, IfSome}
use Rattle.inputs.specs.declared.arguments.Options.{Options}
use Rattle.inputs.specs.declared.arguments.Request.{Request}
use Rattle.inputs.specs.declared.arguments.Request.TheVariants.{Run, Help, Bad}

-- each number is one from 1 on
abbrev pub IsLawful : Options → Type 0
IsLawful o = (0 < o.every) × IfSome o.join (λ n. 0 < n)

-- what is to be run has lawful options
abbrev pub RunsLawfully : Request → Type 0
RunsLawfully (Run options) = IsLawful options
RunsLawfully Help = ⊤
RunsLawfully Bad = ⊤

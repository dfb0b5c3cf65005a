-- What may be missing.
-- ==== The rules
use Rattle.std.specs.Prelude.{Bool, true, false, Option, Some, None}

abbrev pub on_option : {A B : Type 0} → Option A → (A → B) → B → B
on_option (Some x) f z = f x
on_option None f z = z

abbrev pub is_some : {A : Type 0} → Option A → Bool
is_some o = on_option o (λ _. true) false

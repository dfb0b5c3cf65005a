-- A row of refusals, read from top to bottom: `gate test refusal rest`.
-- ==== The rules
use Rattle.std.specs.Prelude.{Bool, cond}

-- the rest where the test passes, else the refusal
unfoldable pub gate : {A : Type 0} → Bool → A → A → A
gate test refusal rest = cond test rest refusal

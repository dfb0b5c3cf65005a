-- A field of a chunk's set: whether it stands, and its values.
-- ==== The rules
use Rattle.std.specs.Prelude.{ℕ, ◌+◌, ◌%◌, Bool, cond, List, Some, None}
use Rattle.field_rules.specs.Fields.{Held}

-- a field with these values, where it stands
unfoldable pub held_if : Bool → List ℕ → Held
held_if stands values = cond stands (Some values) None

-- a composition offset with 2^31 added: a signed number of 32 bits, and so one without a sign below 2^31, is the same with its highest bit turned
abbrev pub raised : ℕ → ℕ
raised v = (v + 0x8000_0000) % 0x1_0000_0000

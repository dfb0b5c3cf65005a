-- The ids of objects and of tuples.
-- ==== The rules
use Rattle.std.specs.Prelude.{ℕ}

-- 01: "Full objects (23)", "Delta objects (25)"
abbrev pub full_id : ℕ
full_id = 23

abbrev pub delta_id : ℕ
delta_id = 25

-- the ids that a block can have a tuple of are below it; those that are unknown count too
abbrev pub id_count : ℕ
id_count = 28

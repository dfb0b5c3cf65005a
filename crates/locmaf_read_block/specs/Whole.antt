-- Bytes that are one whole tuple.
-- ==== What is shown of the rules
use Rattle.std.specs.Prelude.{ℕ, ◌≡◌, List, length, Some}
use Rattle.wire.specs.declared.form.Row.{Row}
use Rattle.locmaf_read_block.specs.declared.tuples.Tuple.{Tuple}
use Rattle.locmaf_read_block.specs.Tuples.{tuple_f}

-- the tuple is taken off the front of the bytes, and ends where they end. Nothing is asked of its id, nor of what its list or its records hold
abbrev pub WholeTuple : List Row → List ℕ → Type 0
WholeTuple F bs = (t : Tuple) × (tuple_f F 0 bs ≡ Some (t, length bs))

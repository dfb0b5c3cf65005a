-- What stands before the property block of an object. 01: "The receiver: 12 (header id), 10, 12 (block length cut or past the object), 15
-- (block over its maximum)".
-- ==== What only mirrors the code
use Rattle.std.specs.Prelude.{ℕ, ◌+◌, ◌-◌, Bool, true, false, cond, List, eqb, leb, length, Result, Ok, Err}
use Rattle.refusal.specs.declared.Refusal.{Refusal}
use Rattle.refusal.specs.declared.Refusal.TheVariants.{OtherHeader, Unreadable, OutOfRange}
use Rattle.constants.specs.Ids.{full_id, delta_id}
use Rattle.constants.specs.Maxima.{block_most}
use Rattle.wire.specs.declared.form.Row.{Row}
use Rattle.locmaf_read_block.specs.Records.{number}
use Rattle.locmaf_read_head.specs.declared.head.Place.{Place}

abbrev pub place_of : Bool → ℕ → ℕ → Place
place_of delta at end = record { delta = delta; at = at; end = end }

-- from the block length on, which starts at the place p of the object
unfoldable pub block_f : List Row → List ℕ → ℕ → Bool → Result Place Refusal
block_f F o p delta =
    number F p o
    (λ n at.
    cond (leb n (length o - at))
    (cond (leb n block_most) (Ok (place_of delta at (at + n))) (Err OutOfRange))
    (Err Unreadable))
    (Err Unreadable)

-- 01: "Full objects (23)", "Delta objects (25)", 10: "header id neither 23 nor 25: skipped"
unfoldable pub head_of : List Row → List ℕ → Result Place Refusal
head_of F o =
    number F 0 o
    (λ id p. cond (eqb id full_id) (block_f F o p false) (cond (eqb id delta_id) (block_f F o p true) (Err OtherHeader)))
    (Err Unreadable)

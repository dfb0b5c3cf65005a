-- Zigzag, and what a number on the wire says of a value against an old one.
-- ==== The rules
use Rattle.std.specs.Prelude.{ℕ, suc, ◌*◌, ◌-◌, ◌/◌, ◌%◌, cond, List, leb, ltb, eqb, ℤ, pos, negsuc, ◌+ℤ◌, ◌-ℤ◌}
use Rattle.wire.specs.declared.form.Row.{Row}
use Rattle.wire.specs.declared.zigzag.Coding.{Coding}
use Rattle.wire.specs.declared.zigzag.Coding.TheVariants.{Plain, Delta}
use Rattle.std.specs.Prelude.{Option, Some, None}
use Rattle.wire.specs.Form.{limit}

-- 01: "Zigzag: n at or above 0 gives 2n, below gives -2n-1." `negsuc m` is the number -(m + 1).
unfoldable pub zigzag : ℤ → ℕ
zigzag (pos n) = 2 * n
zigzag (negsuc m) = 2 * suc m - 1

-- the number whose zigzag is z
unfoldable pub unzigzag : ℕ → ℤ
unzigzag z = cond (eqb (z % 2) 0) (pos (z / 2)) (negsuc (z / 2))

-- what stands on the wire for the new value: itself, or its distance from the old one
unfoldable pub wire_of : Coding → ℕ → ℕ → ℕ
wire_of Plain old new = new
wire_of Delta old new = zigzag (pos new -ℤ pos old)

-- 01: "any number on the wire, 2^62-1": a number that the form holds
unfoldable pub fitted : List Row → ℕ → Option ℕ
fitted F z = cond (ltb z (limit F)) (Some z) None

unfoldable pub code_of : List Row → Coding → ℕ → ℕ → Option ℕ
code_of F coding old new = fitted F (wire_of coding old new)

-- a number that has to be from 0 to the bound
unfoldable pub ranged : ℕ → ℤ → Option ℕ
ranged bound (pos v) = cond (leb v bound) (Some v) None
ranged bound (negsuc m) = None

-- the value that the number z on the wire stands for
unfoldable pub reached : Coding → ℕ → ℕ → ℕ → Option ℕ
reached Plain old bound z = ranged bound (pos z)
reached Delta old bound z = ranged bound (pos old +ℤ unzigzag z)

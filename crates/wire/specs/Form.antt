-- The forms of a varint as tables. A row is a run of first bytes, `mark` and the `width - 1` after it, that `tail` bytes follow. The
-- value of such a varint is the first byte's place in the run and then its tail, as one number to base 256. So a row holds the values
-- below `width * 256 ^ tail`.
-- ==== The rules
use Rattle.std.specs.Prelude.{ℕ, ◌+◌, ◌*◌, ◌^◌, max, suc, cond, List, [], ◌∷◌, eqb, ltb}
use Rattle.wire.specs.declared.form.Row.{Row}
use Rattle.wire.specs.declared.form.Form.{Form}
use Rattle.wire.specs.declared.form.Form.TheVariants.{Rfc9000}
use Rattle.std.specs.Prelude.{Option, Some, None}

abbrev pub row : ℕ → ℕ → ℕ → Row
row tail mark width = record { tail = tail; mark = mark; width = width }

-- 01: "Varints are RFC 9000's: 1, 2, 4 or 8 bytes, prefix 00, 01, 10, 11, 62 bits at most."
abbrev pub rfc9000 : List Row
rfc9000 = row 0 0 64 ∷ row 1 64 64 ∷ row 3 128 64 ∷ row 7 192 64 ∷ []

abbrev pub rows : Form → List Row
rows Rfc9000 = rfc9000

-- the values that a row holds are those below this
abbrev pub cap : Row → ℕ
cap r = r.width * 256 ^ r.tail

-- the row that a first byte is in
unfoldable pub by_first : List Row → ℕ → Option Row
by_first [] b = None
by_first (r ∷ rs) b = cond (ltb b (r.mark + r.width)) (Some r) (by_first rs b)

-- the first row that holds v
unfoldable pub by_value : List Row → ℕ → Option Row
by_value [] v = None
by_value (r ∷ rs) v = cond (ltb v (cap r)) (Some r) (by_value rs v)

-- the values that a table holds are those below this
unfoldable pub limit : List Row → ℕ
limit [] = 0
limit (r ∷ rs) = max (cap r) (limit rs)

-- the bytes of the longest varint
unfoldable pub longest : List Row → ℕ
longest [] = 0
longest (r ∷ rs) = max (suc r.tail) (longest rs)

-- ==== What only mirrors the code

-- how many first bytes a table's first row has, where n bytes follow each
abbrev first_width : ℕ → List Row → ℕ
first_width n [] = 0
first_width n (r ∷ rs) = cond (eqb r.tail n) r.width 0

-- how many first bytes, from 0 on, are varints of one byte
unfoldable pub ones : List Row → ℕ
ones F = first_width 0 F

-- how many after those begin a varint of two bytes
unfoldable pub twos : List Row → ℕ
twos [] = 0
twos (r ∷ rs) = cond (eqb r.tail 0) (first_width 1 rs) 0

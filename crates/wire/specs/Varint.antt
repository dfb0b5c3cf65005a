-- The bytes of a varint, and what reading one finds, over any form's table.
use Rattle.std.specs.Prelude.{ℕ, suc, ◌+◌, ◌-◌, ◌*◌, ◌/◌, ◌^◌, ◌≤◌, ◌<◌, cond, ◌≡◌, List, [], ◌∷◌, length, get_or, take, leb}
use Rattle.std.proofs.Math.Seq.{slice}
use Rattle.laws.specs.Bytes.{be, de}
use Rattle.wire.specs.declared.form.Row.{Row}
use Rattle.std.specs.Prelude.{Option, Some, None}
use Rattle.wire.specs.Form.{by_first, by_value, longest}
use Rattle.laws.specs.Options.{on_option}

-- ==== The rules

-- the varint of v in the row r
abbrev pub encode_in : Row → ℕ → List ℕ
encode_in r v = (r.mark + v / 256 ^ r.tail) ∷ be r.tail v

-- 01: "The encoder writes the shortest" (D76). A number past the form's limit has none.
unfoldable pub encode : List Row → ℕ → List ℕ
encode F v = on_option (by_value F v) (λ r. encode_in r v) []

-- 01: "a number too wide counts as the longest varint"
unfoldable pub size_of : List Row → ℕ → ℕ
size_of F v = on_option (by_value F v) (λ r. suc r.tail) (longest F)

-- a varint whose first byte b is in the row r, with the bytes s after it: its value, and how many bytes it takes
abbrev pub read_in : Row → ℕ → List ℕ → Option (ℕ × ℕ)
read_in r b s = cond (leb r.tail (length s)) (Some ((b - r.mark) * 256 ^ r.tail + de (take r.tail s), suc r.tail)) None

-- 01: "the receiver takes any". The varint off the front of a list.
unfoldable pub read_f : List Row → List ℕ → Option (ℕ × ℕ)
read_f F [] = None
read_f F (b ∷ s) = on_option (by_first F b) (λ r. read_in r b s) None

-- what is said of a value and its bytes, or else
abbrev pub on_got : {A : Type 0} → Option (ℕ × ℕ) → (ℕ → ℕ → A) → A → A
on_got (Some (v, k)) f z = f v k
on_got None f z = z

-- ==== What only mirrors the code

-- a count of bytes from a place becomes the place after them
abbrev pub shift : ℕ → Option (ℕ × ℕ) → Option (ℕ × ℕ)
shift at (Some (v, k)) = Some (v, at + k)
shift at None = None

-- the varint from the place at, that ends before the place end
unfoldable pub read_at : List Row → List ℕ → ℕ → ℕ → Option (ℕ × ℕ)
read_at F s at end = cond (leb end (length s)) (shift at (read_f F (slice at end s))) None

-- b is the byte at the place at, which is before the place end
pub record Begins (s : List ℕ) (at end b : ℕ) : Type 0 where
  pub before : at < end
  pub inside : end ≤ length s
  pub first : b ≡ get_or s at 0

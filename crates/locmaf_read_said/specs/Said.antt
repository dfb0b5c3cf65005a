-- What an object says of an id, by what the entries of its block say.
use Rattle.std.specs.Prelude.{ℕ, ◌+◌, ◌-◌, ◌%◌, ◌<◌, ◌≡◌, Bool, true, false, cond, List, [], ◌∷◌, eqb, length, get_or, Option, Some, None}
use Rattle.std.proofs.Math.Seq.{slice}
use Rattle.constants.specs.Ids.{id_count}
use Rattle.wire.specs.declared.form.Row.{Row}
use Rattle.locmaf_read_index.specs.Places.{index_len, stands_at, number_at, many_at}
use Rattle.locmaf_read_index.specs.Held.{HeldAs, Tells}
use Rattle.locmaf_read_block.specs.Entries.{body}
use Rattle.locmaf_read_said.specs.declared.said.Span.{Span}
use Rattle.locmaf_read_said.specs.declared.said.Word.{Word}
use Rattle.locmaf_read_said.specs.declared.said.Word.TheVariants.{Omitted, Deleted, Sent}
use Rattle.laws.specs.Tests.{among}
use Rattle.field_rules.specs.Fields.{numbers}

-- ==== The rules

-- the numbers that stand for an id, or that it has no tuple
abbrev pub Says : Type 0
Says = ℕ → Option (List ℕ)

-- nothing, that the id is deleted, or numbers
pub data Saying : Type 0 where
  omitted : Saying
  deleted : Saying
  sent : List ℕ → Saying

abbrev pub unsent : Bool → Saying
unsent true = deleted
unsent false = omitted

abbrev pub saying : Option (List ℕ) → Bool → Saying
saying (Some zs) b = sent zs
saying None b = unsent b

-- 01: "a vanished one is listed in id 27"
unfoldable pub saying_of : Says → ℕ → Saying
saying_of says id = saying (says id) (among id (numbers (says 27)))

-- ==== What only mirrors the code

abbrev pub span : ℕ → ℕ → ℕ → Span
span at number count = record { at = at; number = number; count = count }

-- what the words of an id say: three in the index of the block, and a mark where the id is deleted
unfoldable pub word_in : List ℕ → List ℕ → ℕ → Word
word_in index gone id =
    cond (eqb (get_or index (stands_at id) 0) 0)
    (cond (eqb (get_or gone id 0) 0) Omitted Deleted)
    (Sent (span (get_or index (stands_at id) 0 - 1) (get_or index (number_at id) 0) (get_or index (many_at id) 0)))

-- what the index says of an id: its numbers, by the bytes o of the object
unfoldable pub says_in : List Row → List ℕ → List ℕ → Says
says_in F o index id =
    cond (eqb (get_or index (stands_at id) 0) 0) None
    (cond (eqb (id % 2) 0) (Some (get_or index (number_at id) 0 ∷ []))
    (body F id (slice (get_or index (stands_at id) 0 - 1) (get_or index (stands_at id) 0 - 1 + get_or index (number_at id) 0) o)))

-- of a scalar
unfoldable pub scalar_in : List ℕ → ℕ → Option (List ℕ)
scalar_in index id = cond (eqb (get_or index (stands_at id) 0) 0) None (Some (get_or index (number_at id) 0 ∷ []))

-- the words of each id but 25 tell what they say
pub record Telling (F : List Row) (o index : List ℕ) : Type 0 where
  pub words : length index ≡ index_len
  pub each : (id : ℕ) → id < id_count → (id ≡ 25 → ⊥) → Tells F o (length o) index [] [] id (says_in F o index id)

-- exactly the ids of a list are marked as deleted
pub record Gone (gone ds : List ℕ) : Type 0 where
  pub words : length gone ≡ id_count
  pub each : (id : ℕ) → id < id_count → get_or gone id 0 ≡ cond (among id ds) 1 0

-- what the words of an id are, by what is said of it
abbrev pub Marked : List Row → List ℕ → ℕ → List ℕ → List ℕ → List ℕ → List ℕ → ℕ → Saying → Type 0
Marked F o end index gone before events id omitted = (get_or index (stands_at id) 0 ≡ 0) × (get_or gone id 0 ≡ 0)
Marked F o end index gone before events id deleted = (get_or index (stands_at id) 0 ≡ 0) × (get_or gone id 0 ≡ 1)
Marked F o end index gone before events id (sent zs) = HeldAs F o end index before events id zs

-- of every id but 25
pub record AllMarked (F : List Row) (o index gone : List ℕ) (says : Says) : Type 0 where
  pub words : length index ≡ index_len
  pub gone-words : length gone ≡ id_count
  pub each : (id : ℕ) → id < id_count → (id ≡ 25 → ⊥) → Marked F o (length o) index gone [] [] id (saying_of says id)

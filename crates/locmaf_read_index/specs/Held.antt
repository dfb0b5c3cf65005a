-- What the words of an index tell of an id, by what the entries of the block say of it.
use Rattle.std.specs.Prelude.{ℕ, ◌+◌, ◌%◌, ◌≤◌, ◌<◌, ◌≡◌, cond, List, [], ◌∷◌, length, get_or, take, Option, Some, None}
use Rattle.std.proofs.Math.Seq.{slice}
use Rattle.std.proofs.lemmas.List.Edits.{sets}
use Rattle.constants.specs.Maxima.{events_most}
use Rattle.wire.specs.declared.form.Row.{Row}
use Rattle.locmaf_read_index.specs.Places.{stands_at, number_at, many_at}
use Rattle.locmaf_read_block.specs.declared.records.Record.{Record}
use Rattle.locmaf_read_index.specs.declared.index.Indexed.{Indexed}
use Rattle.locmaf_read_index.specs.declared.index.Indexed.TheVariants.{Cut}
use Rattle.locmaf_read_block.specs.Records.{records_f, words_of}
use Rattle.locmaf_read_block.specs.Entries.{Entry, body, readable, lawful}
use Rattle.locmaf_read_index.specs.Index.{told}

-- ==== What only mirrors the code

-- what the three words of an id tell, where the entries say the numbers zs of it: one more than the place of its part, a scalar's value or the
-- length of the part, and how many numbers there are; and of id 25 how many records, whose words the events hold
pub record HeldAs (F : List Row) (s : List ℕ) (end : ℕ) (words before events : List ℕ) (id : ℕ) (zs : List ℕ) : Type 0 where
  pub place : ℕ
  pub first : get_or words (stands_at id) 0 ≡ place + 1
  pub scalar : id % 2 ≡ 0 → zs ≡ get_or words (number_at id) 0 ∷ []
  pub inside : (id % 2 ≡ 0 → ⊥) → place + get_or words (number_at id) 0 ≤ end
  pub bytes : (id % 2 ≡ 0 → ⊥) → body F id (slice place (place + get_or words (number_at id) 0) s) ≡ Some zs
  pub count : (id ≡ 25 → ⊥) → get_or words (many_at id) 0 ≡ length zs
  pub records : id ≡ 25
      → (rs : List Record)
      × (records_f F place (slice place (place + get_or words (number_at id) 0) s) ≡ Some rs)
      × (get_or words (many_at id) 0 ≡ length rs)
      × (events ≡ sets before 0 (words_of (take events_most rs)))

-- what the words tell of an id, by what the entries say of it: nothing where they say nothing
abbrev pub Tells : List Row → List ℕ → ℕ → List ℕ → List ℕ → List ℕ → ℕ → Option (List ℕ) → Type 0
Tells F s end words before events id None = (i : ℕ) → i < 3 → get_or words (stands_at id + i) 0 ≡ 0
Tells F s end words before events id (Some zs) = HeldAs F s end words before events id zs

-- ==== What only proofs need

-- what is answered of a block's entries
unfoldable pub answer_of : List Row → Option (List Entry) → Indexed
answer_of F None = Cut
answer_of F (Some es) = cond (readable F es) (told (lawful es)) Cut

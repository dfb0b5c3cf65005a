-- What the tuples of a block hold, apart from where they stand: everything that is decided once a block has been read is a function of it.
use Rattle.std.specs.Prelude.{ℕ, ◌%◌, Bool, true, false, cond, not, ◌&&◌, ◌||◌, List, [], ◌∷◌, map, eqb, leb, Option, Some, None, option_map}
use Rattle.std.proofs.Math.Seq.{slice}
use Rattle.laws.specs.Tests.{◌and◌}
use Rattle.wire.specs.declared.form.Row.{Row}
use Rattle.locmaf_read_block.specs.declared.tuples.Tuple.{Tuple}
use Rattle.locmaf_read_block.specs.Tuples.{part_of, tuples_f, bytes_of}
use Rattle.locmaf_read_block.specs.Numbers.{numbers_f}
use Rattle.locmaf_read_block.specs.Records.{records_f}
use Rattle.laws.specs.Options.{on_option, is_some}

-- ==== The rules

-- an id with the bytes of its number, its list or its records
pub record Entry : Type 0 where
  pub id : ℕ
  pub bytes : List ℕ

unfoldable pub content : List ℕ → Tuple → Entry
content s t = record { id = t.id; bytes = bytes_of s (part_of t.kind) }

abbrev pub contents : List ℕ → List Tuple → List Entry
contents s ts = map (content s) ts

-- the entries of the block that stands in s from the place at to the place end, none where a tuple is cut
unfoldable pub entries_at : List Row → List ℕ → ℕ → ℕ → Option (List Entry)
entries_at F s at end = option_map (contents s) (tuples_f F at (slice at end s))

-- the numbers of an id: a scalar's one, a list's varints; of raw bytes and records the bytes; none where something is cut
unfoldable pub body : List Row → ℕ → List ℕ → Option (List ℕ)
body F id bs =
    cond (eqb (id % 2) 0) (numbers_f F bs)
    (cond (eqb id 25) (on_option (records_f F 0 bs) (λ _. Some bs) None)
    (cond (eqb id 9 || eqb id 23) (Some bs)
    (numbers_f F bs)))

-- 12: "object unreadable" where an entry isn't
unfoldable pub readable : List Row → List Entry → Bool
readable F [] = true
readable F (e ∷ es) = is_some (body F e.id e.bytes) and readable F es

unfoldable pub member : ℕ → List Entry → Bool
member id [] = false
member id (e ∷ es) = eqb e.id id || member id es

-- 01: "The ids are document 004 section 8's." (D83)
unfoldable pub known : ℕ → Bool
known id = leb 1 id && leb id 16 || eqb id 18 || eqb id 20 || leb 22 id && leb id 25 || eqb id 27

-- 13: "id unknown, twice" (D84)
unfoldable pub lawful : List Entry → Bool
lawful [] = true
lawful (e ∷ es) = known e.id and not (member e.id es) and lawful es

-- the first entry of an id
unfoldable pub entry : ℕ → List Entry → Option (List ℕ)
entry id [] = None
entry id (e ∷ es) = cond (eqb e.id id) (Some e.bytes) (entry id es)

-- what a block's entries say of an id: its numbers
unfoldable pub says : List Row → List Entry → ℕ → Option (List ℕ)
says F es id = on_option (entry id es) (body F id) None

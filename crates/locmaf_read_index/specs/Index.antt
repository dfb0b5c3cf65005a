-- The index of a block by id: three words for each id from 0 to 27, and the records of the emsg list.
use Rattle.std.specs.Prelude.{ℕ, ◌+◌, ◌-◌, ◌≤◌, ◌<◌, ◌≡◌, Bool, true, false, cond, ◌&&◌, List, [], ◌∷◌, eqb, length, get_or, take, Option, Some, None}
use Rattle.std.proofs.lemmas.List.Edits.{sets}
use Rattle.std.proofs.Math.Seq.{slice}
use Rattle.constants.specs.Maxima.{events_most, block_most}
use Rattle.event_value.specs.Events.{events_len}
use Rattle.wire.specs.declared.form.Row.{Row}
use Rattle.locmaf_read_index.specs.Places.{index_len, stands_at}
use Rattle.locmaf_read_block.specs.declared.tuples.Kind.{Kind}
use Rattle.locmaf_read_block.specs.declared.tuples.Kind.TheVariants.{Scalar, Numbers, Raw, Records}
use Rattle.locmaf_read_block.specs.declared.tuples.Tuple.{Tuple}
use Rattle.locmaf_read_index.specs.declared.index.Indexed.{Indexed}
use Rattle.locmaf_read_index.specs.declared.index.Indexed.TheVariants.{Clean, Stray, Cut}
use Rattle.locmaf_read_block.specs.Front.{Series, on_read}
use Rattle.locmaf_read_block.specs.Tuples.{part_of, bytes_of, tuple_at, tuples_run}
use Rattle.locmaf_read_block.specs.Entries.{known}
use Rattle.locmaf_read_block.specs.Numbers.{counted, count_at}
use Rattle.locmaf_read_block.specs.Records.{records_run, words_of}
use Rattle.laws.specs.Options.{on_option}

-- ==== What only mirrors the code

-- how many numbers stand in a tuple of the block s: one, a list's varints, bytes, or records; a list can be cut
unfoldable pub weighed : List Row → List ℕ → Kind → Option ℕ
weighed F s (Scalar p) = Some 1
weighed F s (Numbers p) = count_at F s p.at (p.at + p.len)
weighed F s (Raw p) = Some p.len
weighed F s (Records p) = counted (records_run F p.at (bytes_of s p))

-- the words of the events after a tuple: those of its first 16 records
unfoldable pub heard : List Row → List ℕ → Kind → List ℕ → List ℕ
heard F s (Scalar p) events = events
heard F s (Numbers p) events = events
heard F s (Raw p) events = events
heard F s (Records p) events = sets events 0 (words_of (take events_most (records_run F p.at (bytes_of s p)).items))

-- the tuple from the place at, that ends before the place end, with its count
unfoldable pub entry_at : List Row → List ℕ → ℕ → ℕ → Option (Tuple × ℕ × ℕ)
entry_at F s at end =
    on_read (tuple_at F s at end) (λ t next. on_option (weighed F s t.kind) (λ count. Some (t, count, next)) None) None

-- the words of the events after it
unfoldable pub heard_at : List Row → List ℕ → ℕ → ℕ → List ℕ → List ℕ
heard_at F s at end events = on_read (tuple_at F s at end) (λ t next. heard F s t.kind events) events

-- the id is known and has no tuple yet
unfoldable pub fresh : List ℕ → ℕ → Bool
fresh words id = known id && eqb (get_or words (stands_at id) 0) 0

-- the words of an id's tuple: one more than the place of its part, the number after its id, and how many numbers it has
unfoldable pub noted : List ℕ → Tuple → ℕ → List ℕ
noted words t count =
    cond (fresh words t.id) (sets words (stands_at t.id) (((part_of t.kind).at + 1) ∷ t.number ∷ count ∷ [])) words

pub record Index : Type 0 where
  pub answer : Indexed
  pub words : List ℕ
  pub events : List ℕ

abbrev pub index : Indexed → List ℕ → List ℕ → Index
index a words events = record { answer = a; words = words; events = events }

abbrev pub told : Bool → Indexed
told true = Clean
told false = Stray

module _ (F : List Row) (s : List ℕ) where
  -- through the tuples of the block s. 01: "Each step looks at the whole block before the next": where anything is cut, nothing is said of ids.
  unfoldable pub indexed : List Tuple → Bool → Bool → List ℕ → List ℕ → Index
  indexed [] true clean words events = index (told clean) words events
  indexed [] false clean words events = index Cut words events
  indexed (t ∷ ts) whole clean words events =
      on_option (weighed F s t.kind)
      (λ count. indexed ts whole (fresh words t.id && clean) (noted words t count) (heard F s t.kind events))
      (index Cut words (heard F s t.kind events))

  abbrev pub index_run : Series Tuple → Bool → List ℕ → List ℕ → Index
  index_run r clean words events = indexed r.items r.whole clean words events

-- the index of the block that stands in s from the place at to the place end
unfoldable pub index_at : List Row → List ℕ → ℕ → ℕ → List ℕ → List ℕ → Index
index_at F s at end words events = index_run F s (tuples_run F at (slice at end s)) true words events

-- what a call of `weigh` is lent
pub record Weighable (s : List ℕ) (k : Kind) (events : List ℕ) : Type 0 where
  pub inside : (part_of k).at + (part_of k).len ≤ length s
  pub block : (part_of k).len ≤ block_most
  pub list : length events ≡ events_len

-- what a call of `entry_at` is lent
pub record Enterable (s : List ℕ) (at end : ℕ) (events : List ℕ) : Type 0 where
  pub some : at < end
  pub inside : end ≤ length s
  pub block : end - at ≤ block_most
  pub list : length events ≡ events_len

-- what a call of `index` is lent. 01: "property block 16,384 bytes", which is tested before.
pub record Indexable (s : List ℕ) (at end : ℕ) (words events : List ℕ) : Type 0 where
  pub inside : end ≤ length s
  pub block : end - at ≤ block_most
  pub room : length words ≡ index_len
  pub list : length events ≡ events_len

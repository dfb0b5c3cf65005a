-- The records of an emsg list. 004, 12.2: "record = scheme_id_uri (varint length + UTF-8 bytes) | value (varint length + UTF-8 bytes) |
-- timescale (varint; ..) | presentation_time (..) | event_duration (varint, ..) | id (varint) | message_data (varint length + opaque bytes)".
use Rattle.std.specs.Prelude.{ℕ, ◌+◌, ◌-◌, ◌*◌, ◌^◌, ◌≤◌, ◌<◌, ◌≡◌, cond, List, [], ◌∷◌, ◌++◌, leb, ltb, length, take, drop, Option, Some, None}
use Rattle.std.proofs.lemmas.List.Edits.{sets}
use Rattle.constants.specs.Maxima.{events_most, block_most}
use Rattle.event_value.specs.Events.{event_words, events_len}
use Rattle.wire.specs.declared.form.Row.{Row}
use Rattle.wire.specs.Varint.{read_f, on_got}
use Rattle.byte_parts.specs.declared.Part.{Part}
use Rattle.locmaf_read_block.specs.declared.records.Record.{Record}
use Rattle.locmaf_read_block.specs.declared.records.Marks.{Marks}
use Rattle.locmaf_read_block.specs.Front.{Front, off, cut, Series, taken, wholly, on_read}
use Rattle.locmaf_read_block.specs.Tuples.{part}
use Rattle.locmaf_read_block.specs.Numbers.{counted}
use Rattle.runs.specs.Run.{plus}

-- ==== The rules

-- the varint at the place q of s, and the place after it
unfoldable pub number : {A : Type 0} → List Row → ℕ → List ℕ → (ℕ → ℕ → A) → A → A
number F q s f z = on_got (read_f F (drop q s)) (λ v k. f v (q + k)) z

-- "varint length + bytes" at the place q of s: the part of the bytes, and the place after them. The first byte of s has the place base.
unfoldable pub text_at : List Row → ℕ → ℕ → List ℕ → Option (Part × ℕ)
text_at F base q s = number F q s (λ n p. cond (leb n (length s - p)) (Some (part (base + p) n, p + n)) None) None

-- the four numbers at the place q of s
unfoldable pub marks_at : List Row → ℕ → List ℕ → Option (Marks × ℕ)
marks_at F q s =
    number F q s
    (λ timescale a.
    number F a s
    (λ time b.
    number F b s
    (λ duration c.
    number F c s
    (λ id d. Some (record { timescale = timescale; time = time; duration = duration; id = id }, d))
    None)
    None)
    None)
    None

abbrev pub record_of : Part → Part → Marks → Part → Record
record_of scheme value m message =
    record {
      scheme = scheme;
      value = value;
      timescale = m.timescale;
      time = m.time;
      duration = m.duration;
      id = m.id;
      message = message;
    }

-- the record off the front of s, whose first byte has the place base, and how many bytes it takes
unfoldable pub record_f : List Row → ℕ → List ℕ → Option (Record × ℕ)
record_f F base s =
    on_read (text_at F base 0 s)
    (λ scheme a.
    on_read (text_at F base a s)
    (λ value b.
    on_read (marks_at F b s)
    (λ m c. on_read (text_at F base c s) (λ message d. Some (record_of scheme value m message, d)) None)
    None)
    None)
    None

unfoldable pub record_front : List Row → ℕ → List ℕ → Front Record
record_front F base s = on_read (record_f F base s) off cut

-- the records off the front of s
unfoldable pub records_run : List Row → ℕ → List ℕ → Series Record
records_run F base s = taken (record_front F) 0 base s

-- the records that fill s, none where the last is cut
unfoldable pub records_f : List Row → ℕ → List ℕ → Option (List Record)
records_f F base s = wholly (records_run F base s)

-- ==== What only mirrors the code

abbrev pub on_names : {A : Type 0} → Option (Part × Part × ℕ) → (Part → Part → ℕ → A) → A → A
on_names (Some (scheme, value, next)) f z = f scheme value next
on_names None f z = z

-- the two texts off the front of s, whose first byte has the place base, and the place after them
unfoldable pub names_at : List Row → ℕ → List ℕ → Option (Part × Part × ℕ)
names_at F base s =
    on_read (text_at F base 0 s)
    (λ scheme a. on_read (text_at F base a s) (λ value b. Some (scheme, value, b)) None)
    None

-- the ten words that a record is kept in
abbrev pub record_words : Record → List ℕ
record_words r =
    r.scheme.at ∷ r.scheme.len ∷ r.value.at ∷ r.value.len ∷ r.timescale ∷ r.time ∷ r.duration ∷ r.id ∷ r.message.at ∷ r.message.len ∷ []

unfoldable pub words_of : List Record → List ℕ
words_of [] = []
words_of (r ∷ rs) = record_words r ++ words_of rs

-- a record is kept as the n-th of its list, where n is below the events that a block can have
unfoldable pub kept : List ℕ → ℕ → Record → List ℕ
kept out n r = cond (ltb n events_most) (sets out (event_words * n) (record_words r)) out

-- every place in s, whose first byte has the place base, is a place of the machine
abbrev pub Placed : ℕ → List ℕ → Type 0
Placed base s = base + length s < 2 ^ 63

-- what a call of `read_list` is lent. A block has at most 16,384 bytes, which bounds the count.
pub record Listable (s : List ℕ) (base n : ℕ) (out : List ℕ) : Type 0 where
  pub block : n + length s ≤ block_most
  pub places : Placed base s
  pub room : length out ≡ events_len

-- a call answered r, with n records before those of the series, and left of the first 16 those of the series
pub record ListedAs (rs : Series Record) (n : ℕ) (before : List ℕ) (r : Option ℕ) (after : List ℕ) : Type 0 where
  pub answered : r ≡ plus n (counted rs)
  pub stored : after ≡ sets before (event_words * n) (words_of (take (events_most - n) rs.items))

-- ==== What only proofs need

-- the same record in a list that stands d places further on
abbrev pub moved_part : ℕ → Part → Part
moved_part d p = part (d + p.at) p.len

unfoldable pub moved : ℕ → Record → Record
moved d r =
    record {
      scheme = moved_part d r.scheme;
      value = moved_part d r.value;
      timescale = r.timescale;
      time = r.time;
      duration = r.duration;
      id = r.id;
      message = moved_part d r.message;
    }

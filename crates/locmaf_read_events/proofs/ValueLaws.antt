-- The events of an object by their words, and as id 25 lists them. Assumes nothing.
use Prim.Native.Nat.{ℕ, zero, suc, ◌+◌, ◌*◌, ◌%◌, ◌≤◌, ◌<◌}
use native.Mathlib.Nat.{zero-add, suc-add}
use native.Mathlib.Omega.{arith}
use mathlib.Core.Path.{◌≡◌, refl, sym, ◌∙◌, ap}
use mathlib.Core.Bool.{Bool, true, false, cond}
use mathlib.Core.List.{List, [], ◌∷◌, ◌++◌, map}
use lib.Dec.{eqb}
use lib.ListN.{length, get_or, take, drop, length-append, length-map}
use lib.Seq.{slice, length-slice, sets, sets-eq, take_all, take-nil, get_or-append-add}
use Rattle.constants.specs.Maxima.{event_bytes_most, block_most, events_most}
use Rattle.locmaf_read_index.specs.Places.{number_at, many_at}
use Rattle.laws.specs.Tests.{◌and◌}
use Rattle.wire.specs.declared.form.Row.{Row}
use Rattle.track.specs.declared.Track.{Track}
use Rattle.media.specs.declared.clocks.TrackTicks.{TrackTicks}
use Rattle.std.specs.Prelude.{Option, Some, None}
use Rattle.byte_parts.specs.declared.Part.{Part}
use Rattle.locmaf_read_block.specs.declared.records.Record.{Record}
use Rattle.locmaf_read_block.specs.Tuples.{bytes_of}
use Rattle.locmaf_read_block.specs.Records.{records_f, record_words, words_of}
use Rattle.block_items.specs.Events.{Event}
use Rattle.locmaf_read_block.specs.Events.{event_of, events_f}
use Rattle.laws.specs.Options.{on_option}
use Rattle.locmaf_read_block.specs.Entries.{body}
use Rattle.locmaf_read_index.specs.Held.{HeldAs, Tells}
use Rattle.laws.specs.Each.{AllOf}
use Rattle.locmaf_read_block.proofs.RecordRuns.{Lies, length-words, records-lie}
use Rattle.locmaf_read_block.proofs.EventLaws.{events-at}
use Rattle.event_value.specs.Events.{Event as Box, part, event_at, events_from, events_of, EventFits, EventsFit, events_len, event_scheme_len, event_value, event_value_len, event_timescale, event_time, event_duration, event_id, event_message, event_message_len, event_words}
use Rattle.locmaf_read_events.specs.Events.{from_bmdt, on_clock, rebuilt, timed, event_ok, events_ok, all_rebuilt}
use Rattle.locmaf_read_events.specs.Values.{listed, fits, all_fit, with_time, boxed, boxes}
use Rattle.locmaf_read_events.proofs.EventLaws.{length-rebuilt}

-- ---- a part by its place and length is the part between two places

cut-is : (a n : ℕ) (o : List ℕ) → take n (drop a o) ≡ drop a (take (a + n) o)
cut-is zero n o = ap (λ (k : ℕ). take k o) (sym (zero-add n))
cut-is (suc a) n [] = take-nil n ∙ sym (ap (drop (suc a)) (take-nil (suc a + n)))
cut-is (suc a) n (x ∷ o) = cut-is a n o ∙ sym (ap (λ (k : ℕ). drop (suc a) (take k (x ∷ o))) (suc-add a n))

part-is : (o : List ℕ) (p : Part) → part o p.at p.len ≡ bytes_of o p
part-is o p = cut-is p.at p.len o

-- ---- one event

module _ (t : Track) (bmdt : ℕ) (o : List ℕ) (r : Record) where
  -- its words are in range where it is
  event-fits : event_ok bmdt o (record_words r) ≡ fits t bmdt (event_of o r)
  unfolding event_ok timed on_clock fits event_of
  event-fits = rw (part-is o r.scheme, part-is o r.value)

  -- its words, rebuilt, are those of its box
  event-boxed : (ws : List ℕ) → event_at o (rebuilt t bmdt (record_words r) ++ ws) 0 ≡ boxed t bmdt (event_of o r)
  unfolding event_at rebuilt on_clock boxed event_of
  event-boxed ws = go (eqb r.timescale 0) (from_bmdt bmdt r.time)
    where
      box : ℕ → ℕ → List ℕ → List ℕ → List ℕ → Box
      box scale time scheme value message =
          record {
            scheme = scheme;
            value = value;
            timescale = scale;
            time = time;
            duration = r.duration;
            id = r.id;
            message = message;
          }

      same : (scale time : ℕ)
          → box scale time (part o r.scheme.at r.scheme.len) (part o r.value.at r.value.len) (part o r.message.at r.message.len)
          ≡ box scale time (bytes_of o r.scheme) (bytes_of o r.value) (bytes_of o r.message)
      same scale time = λ j. box scale time (part-is o r.scheme j) (part-is o r.value j) (part-is o r.message j)

      go : (c : Bool) (x : Option TrackTicks)
          → event_at o (cond c (on_option x (λ time. sets (record_words r) 4 (t.timescale ∷ time.0 ∷ [])) (record_words r)) (record_words r) ++ ws) 0
          ≡ cond c
          (on_option x (λ time. with_time (event_of o r) t.timescale time.0) (with_time (event_of o r) r.timescale r.time))
          (with_time (event_of o r) r.timescale r.time)
      go true (Some x) = same t.timescale x.0
      go true None = same r.timescale r.time
      go false x = same r.timescale r.time

-- ---- behind the words of one event

module _ (e ws : List ℕ) (ten : length e ≡ event_words) where
  past : (n m : ℕ) → n ≡ event_words + m → get_or (e ++ ws) n 0 ≡ get_or ws m 0
  past n m h =
      let k : n ≡ length e + m = omega (arith, ten) in
      ap (λ (i : ℕ). get_or (e ++ ws) i 0) k ∙ get_or-append-add e ws m 0

  module _ (o : List ℕ) where
    event-past : (i : ℕ) → event_at o (e ++ ws) (suc i) ≡ event_at o ws i
    unfolding event_at
    event-past i =
        λ j.
        record {
          scheme = part o (past (event_words * suc i) (event_words * i) (omega arith) j) (past (event_words * suc i + event_scheme_len) (event_words * i + event_scheme_len) (omega arith) j);
          value = part o (past (event_words * suc i + event_value) (event_words * i + event_value) (omega arith) j) (past (event_words * suc i + event_value_len) (event_words * i + event_value_len) (omega arith) j);
          timescale = past (event_words * suc i + event_timescale) (event_words * i + event_timescale) (omega arith) j;
          time = past (event_words * suc i + event_time) (event_words * i + event_time) (omega arith) j;
          duration = past (event_words * suc i + event_duration) (event_words * i + event_duration) (omega arith) j;
          id = past (event_words * suc i + event_id) (event_words * i + event_id) (omega arith) j;
          message = part o (past (event_words * suc i + event_message) (event_words * i + event_message) (omega arith) j) (past (event_words * suc i + event_message_len) (event_words * i + event_message_len) (omega arith) j);
        }

    events-past : (k i : ℕ) → events_from o (e ++ ws) k (suc i) ≡ events_from o ws k i
    unfolding events_from
    events-past zero i = refl
    events-past (suc k) i = λ j. event-past i j ∷ events-past k (suc i) j

    fits-past : (i : ℕ) → EventFits o ws i → EventFits o (e ++ ws) (suc i)
    fits-past i f =
        record {
          there = omega (arith, f.there, length-append e ws, ten);
          scheme = rw (past (event_words * suc i) (event_words * i) (omega arith), past (event_words * suc i + event_scheme_len) (event_words * i + event_scheme_len) (omega arith)) f.scheme;
          value = rw (past (event_words * suc i + event_value) (event_words * i + event_value) (omega arith), past (event_words * suc i + event_value_len) (event_words * i + event_value_len) (omega arith)) f.value;
          message = rw (past (event_words * suc i + event_message) (event_words * i + event_message) (omega arith), past (event_words * suc i + event_message_len) (event_words * i + event_message_len) (omega arith)) f.message;
        }

-- ---- all events

module _ (t : Track) (bmdt : ℕ) (o rest : List ℕ) where
  -- the words are in range where the events are
  pub words-fit : (rs : List Record) → events_ok bmdt o (length rs) (words_of rs ++ rest) ≡ all_fit t bmdt (map (event_of o) rs)
  unfolding events_ok all_fit words_of
  words-fit [] = refl
  words-fit (r ∷ rs) = λ j. event-fits t bmdt o r j and words-fit rs j

  -- the words, rebuilt, are those of the boxes
  pub words-boxes : (rs : List Record)
      → events_of o (all_rebuilt t bmdt (length rs) (words_of rs ++ rest)) (length rs) ≡ boxes t bmdt (map (event_of o) rs)
  unfolding all_rebuilt events_from words_of
  words-boxes [] = refl
  words-boxes (r ∷ rs) =
      let ws : List ℕ = all_rebuilt t bmdt (length rs) (words_of rs ++ rest) in
      let ten : length (rebuilt t bmdt (record_words r)) ≡ event_words = length-rebuilt bmdt event_words (record_words r) (omega arith) t in
      let others : events_from o (rebuilt t bmdt (record_words r) ++ ws) (length rs) 1 ≡ boxes t bmdt (map (event_of o) rs) =
      events-past (rebuilt t bmdt (record_words r)) ws ten o (length rs) 0 ∙ words-boxes rs in
      λ j. event-boxed t bmdt o r ws j ∷ others j

module _ (o rest : List ℕ) where
  -- records that lie between two places of the object
  all-inside : (from to : ℕ) → to ≤ length o → to ≤ from + block_most → (rs : List Record) → AllOf (Lies from to) rs
      → (i : ℕ) → i < length rs → EventFits o (words_of rs ++ rest) i
  unfolding words_of
  all-inside from to h k [] a i lt = absurd (omega arith)
  all-inside from to h k (r ∷ rs) a zero lt =
      let l = a.0 in
      record {
        there = omega arith;
        scheme = record { within = omega (arith, l.scheme.1); short = omega (arith, l.scheme.0, l.scheme.1) };
        value = record { within = omega (arith, l.value.1); short = omega (arith, l.value.0, l.value.1) };
        message = record { within = omega (arith, l.message.1); short = omega (arith, l.message.0, l.message.1) };
      }
  all-inside from to h k (r ∷ rs) a (suc i) lt =
      fits-past (record_words r) (words_of rs ++ rest) refl o i (all-inside from to h k rs a.1 i (omega arith))

  -- the parts of the records of a list that stands in the object lie in it
  pub words_inside : (F : List Row) (place n : ℕ) (rs : List Record) → records_f F place (slice place (place + n) o) ≡ Some rs
      → place + n ≤ length o → n ≤ block_most → length rs ≤ events_most → EventsFit o (words_of rs ++ rest) (length rs)
  words_inside F place n rs e h m few =
      let bs : List ℕ = slice place (place + n) o in
      let l = length-slice place (place + n) o h in
      record {
        few = few;
        each = all-inside place (place + length bs) (omega (arith, l)) (omega (arith, l)) rs (records-lie F place bs rs e);
      }

-- the words of at most 16 records, stored from the start on
pub words-stored : (before : List ℕ) (rs : List Record) → length rs ≤ events_most → length before ≡ events_len
    → sets before 0 (words_of (take events_most rs)) ≡ words_of rs ++ drop (event_words * length rs) before
words-stored before rs h l =
    let a : take events_most rs ≡ rs = take_all events_most rs h in
    let n = length-words rs in
    let k : 0 + length (words_of rs) ≡ event_words * length rs = omega (arith, n) in
    ap (λ (us : List Record). sets before 0 (words_of us)) a
    ∙ sets-eq (words_of rs) before 0 (omega (arith, n, l))
    ∙ ap (λ (m : ℕ). words_of rs ++ drop m before) k

-- ---- what the index tells of the events

-- the words tell k events in n bytes, those that are said
pub record EventsTold (F : List Row) (t : Track) (bmdt : ℕ) (o events : List ℕ) (k n : ℕ) (said : Option (List ℕ)) : Type 0 where
  pub inside : EventsFit o events k
  pub tests : events_ok bmdt o k events ≡ all_fit t bmdt (listed F said)
  pub built : events_of o (all_rebuilt t bmdt k events) k ≡ boxes t bmdt (listed F said)
  pub count : length (listed F said) ≡ k
  pub size : on_option said length 0 ≡ n

-- what is said of id 25 is its bytes
list-is : (F : List Row) (bs zs : List ℕ) → body F 25 bs ≡ Some zs → bs ≡ zs
unfolding body
list-is F bs zs e = go (records_f F 0 bs) e
  where
    go : (x : Option (List Record)) → on_option x (λ _. Some bs) None ≡ Some zs → bs ≡ zs
    go (Some rs) d = cc
    go None d = cc

listed-is : (F : List Row) (zs : List ℕ) (es : List Event) → events_f F zs ≡ Some es → listed F (Some zs) ≡ es
unfolding listed
listed-is F zs es e = rw e

-- the records of a list that stands in the object, by their words
records-told : (F : List Row) (t : Track) (bmdt : ℕ) (o : List ℕ) (place n : ℕ) (rs : List Record) (rest events zs : List ℕ)
    → records_f F place (slice place (place + n) o) ≡ Some rs → place + n ≤ length o → n ≤ block_most → length rs ≤ events_most
    → events ≡ words_of rs ++ rest → listed F (Some zs) ≡ map (event_of o) rs → length zs ≡ n → EventsTold F t bmdt o events (length rs) n (Some zs)
records-told F t bmdt o place n rs rest events zs q h m few w l size =
    record {
      inside = rw w (words_inside o rest F place n rs q h m few);
      tests = rw (w, l) (words-fit t bmdt o rest rs);
      built = rw (w, l) (words-boxes t bmdt o rest rs);
      count = ap length l ∙ length-map rs (event_of o);
      size = size;
    }

module _ (F : List Row) (o : List ℕ) (end : ℕ) (words before events zs : List ℕ) (h : HeldAs F o end words before events 25 zs) (e : end ≤ length o) where
  odd : 25 % 2 ≡ 0 → ⊥
  odd z = omega arith

  abbrev records : List Record
  records = (h.records refl).0

  within : h.place + get_or words (number_at 25) 0 ≤ length o
  within = omega (arith, h.inside odd)

  bytes : slice h.place (h.place + get_or words (number_at 25) 0) o ≡ zs
  bytes = list-is F (slice h.place (h.place + get_or words (number_at 25) 0) o) zs (h.bytes odd)

  list : listed F (Some zs) ≡ map (event_of o) records
  list = listed-is F zs (map (event_of o) records) (rw bytes at (events-at F o h.place (get_or words (number_at 25) 0) records within (h.records refl).1))

  how-many : get_or words (many_at 25) 0 ≡ length records
  how-many = (h.records refl).2

  -- as many as the index says, however many
  pub events-count : length (listed F (Some zs)) ≡ get_or words (many_at 25) 0
  events-count = ap length list ∙ length-map records (event_of o) ∙ sym how-many

  -- in as many bytes
  pub events-size : length zs ≡ get_or words (number_at 25) 0
  events-size = omega (arith, ap length bytes, length-slice h.place (h.place + get_or words (number_at 25) 0) o within)

  -- at most 16, in at most 4,096 bytes
  pub events-told : (t : Track) (bmdt : ℕ) → length before ≡ events_len → get_or words (many_at 25) 0 ≤ events_most → get_or words (number_at 25) 0 ≤ event_bytes_most
      → EventsTold F t bmdt o events (get_or words (many_at 25) 0) (get_or words (number_at 25) 0) (Some zs)
  events-told t bmdt l few small =
      let k : length records ≤ events_most = omega (arith, how-many) in
      let w : events ≡ words_of records ++ drop (event_words * length records) before = (h.records refl).3 ∙ words-stored before records k l in
      let q = (h.records refl).1 in
      rw how-many
      (records-told F t bmdt o h.place (get_or words (number_at 25) 0) records (drop (event_words * length records) before) events zs q within (omega arith) k w list events-size)

-- where nothing is said of them there are none
pub events-none : (F : List Row) (t : Track) (bmdt : ℕ) (o events : List ℕ) → EventsTold F t bmdt o events 0 0 None
unfolding events_ok all_fit all_rebuilt events_from listed
events-none F t bmdt o events =
    record {
      inside = record { few = omega arith; each = λ i lt. absurd (omega arith) };
      tests = refl;
      built = refl;
      count = refl;
      size = refl;
    }

-- ---- the same of what is said or not said

module _ (F : List Row) (o : List ℕ) (end : ℕ) (words before events : List ℕ) (e : end ≤ length o) where
  pub said-count : (said : Option (List ℕ)) → Tells F o end words before events 25 said → length (listed F said) ≡ get_or words (many_at 25) 0
  unfolding listed
  said-count None h = sym (h 2 (omega arith))
  said-count (Some zs) h = events-count F o end words before events zs h e

  pub said-size : (said : Option (List ℕ)) → Tells F o end words before events 25 said → on_option said length 0 ≡ get_or words (number_at 25) 0
  said-size None h = sym (h 1 (omega arith))
  said-size (Some zs) h = events-size F o end words before events zs h e

  pub said-told : (said : Option (List ℕ)) → Tells F o end words before events 25 said → (t : Track) (bmdt : ℕ)
      → length before ≡ events_len → get_or words (many_at 25) 0 ≤ events_most → get_or words (number_at 25) 0 ≤ event_bytes_most
      → EventsTold F t bmdt o events (get_or words (many_at 25) 0) (get_or words (number_at 25) 0) said
  said-told None h t bmdt l few small =
      let k : get_or words (many_at 25) 0 ≡ 0 = h 2 (omega arith) in
      let n : get_or words (number_at 25) 0 ≡ 0 = h 1 (omega arith) in
      rw (k, n) (events-none F t bmdt o events)
  said-told (Some zs) h t bmdt l few small = events-told F o end words before events zs h e t bmdt l few small

-- Two objects on two shares that come to the same: the answers, and what is done. Assumes nothing.
use Prim.Native.Nat.{ℕ}
use mathlib.Core.Path.{◌≡◌, refl}
use mathlib.Core.Bool.{true, false, ◌&&◌}
use mathlib.Core.List.{List, [], ◌∷◌, ◌++◌}
use Rattle.std.specs.Prelude.{None}
use lib.Dec.{leb}
use lib.ListN.{length, drop}
use Rattle.constants.specs.Maxima.{subsamples_most, brand_bytes_most, events_most, event_bytes_most, payload_most, number_most}
use Rattle.laws.specs.Tests.{◌and◌, sum}
use Rattle.laws.specs.Ladder.{Rung, ◌else◌}
use Rattle.wire.specs.declared.form.Row.{Row}
use Rattle.wire.specs.declared.zigzag.Coding.TheVariants.{Plain}
use Rattle.track.specs.declared.Track.{Track}
use Rattle.field_table.specs.declared.lines.Line.{Line}
use Rattle.field_table.specs.declared.lines.Measure.{Measure}
use Rattle.field_table.specs.Lines.{every, lines, line_for}
use Rattle.field_set.specs.Lawful.{saiz_ok, set_rules, same_iv_size}
use Rattle.slots.specs.declared.lawful.Side.TheVariants.{Receiver}
use Rattle.slots.specs.Share.{track_of}
use Rattle.slots.specs.Calls.{opened_rungs}
use Rattle.cmaf_write_front.specs.Front.{front}
use Rattle.locmaf_read_said.specs.Said.{Says, Saying, omitted, deleted, sent, saying_of}
use Rattle.field_rules.specs.Fields.{numbers, old_values}
use Rattle.locmaf_read_field.specs.Cells.{cell_of}
use Rattle.locmaf_read_said.specs.Deletions.{deletions_ok}
use Rattle.field_rules.specs.Words.{set_words, measure, was_of}
use Rattle.locmaf_read_set.specs.Read.{count_reached, count_of, came_of, subsamples, came, brands_fit, stands, marks, new_words, field_rungs, set_rungs}
use Rattle.locmaf_read_events.specs.Values.{all_fit, boxes}
use Rattle.effective.specs.Sums.{sizes_ok, protected_ok}
use Rattle.answers.specs.Took.{took}
use Rattle.receiver.specs.Object.{is_delta, head_rungs, saying, payload}
use Rattle.receiver.specs.Receive.{reference, bmdt, prft, events, brands, told_set, new_set, values_ok, sums_ok, ivs_fit, held_ok, split_rungs, value_rungs, sequence, chunk, done, room_rungs, receive_rungs}
use Rattle.laws.specs.Options.{on_option}

-- ---- the rungs in two parts

-- up to the ids, and from the fields on
abbrev pub early : List Row → List ℕ → List ℕ → List Rung
early F o s = opened_rungs Receiver s ++ (head_rungs F o ++ ((held_ok F o s else 11) ∷ split_rungs F o s))

abbrev pub late : List Row → List ℕ → List ℕ → List ℕ → List Rung
late F o output s =
    (set_rungs (track_of s) (is_delta F o) (reference F o s) (saying F o) ++ value_rungs F o s) ++ room_rungs F o output s

pub two-parts : (F : List Row) (o output s : List ℕ) → receive_rungs F o output s ≡ early F o s ++ late F o output s
unfolding receive_rungs head_rungs split_rungs
two-parts F o output s = refl

-- ---- what the second part rests on

pub record Same (F : List Row) (o o' s s' : List ℕ) : Type 0 where
  pub clock : track_of s ≡ track_of s'
  pub start : bmdt F o s ≡ bmdt F o' s'
  pub time : prft F o s ≡ prft F o' s'
  pub list : events F o s ≡ events F o' s'
  pub listed : numbers (saying F o 25) ≡ numbers (saying F o' 25)
  pub named : brands F o s ≡ brands F o' s'
  pub told : told_set F o s ≡ told_set F o' s'
  pub ivs : ivs_fit F o s ≡ ivs_fit F o' s'
  pub words : new_set F o s ≡ new_set F o' s'
  pub rules : set_rungs (track_of s) (is_delta F o) (reference F o s) (saying F o) ≡ set_rungs (track_of s') (is_delta F o') (reference F o' s') (saying F o')
  pub rest : payload F o ≡ payload F o'
  pub count : sequence F o s ≡ sequence F o' s'

module _ (F : List Row) (o o' s s' : List ℕ) (e : Same F o o' s s') where
  same-values : values_ok F o s ≡ values_ok F o' s'
  unfolding values_ok
  same-values =
      λ j.
      (leb (e.start j) number_most
      && ((e.time j).ok
      && (leb (length (e.rest j)) payload_most
      && (leb (length (e.named j)) brand_bytes_most && (leb (length (e.list j)) events_most && leb (length (e.listed j)) event_bytes_most)))))
      and all_fit (e.clock j) (e.start j) (e.list j)

  same-sums : sums_ok F o s ≡ sums_ok F o' s'
  unfolding sums_ok
  same-sums = λ j. sizes_ok (e.clock j) (e.told j) (length (e.rest j)) and protected_ok (e.clock j) (e.told j) (length (e.rest j))

  -- the front of the chunk
  pub same-chunk : chunk F o s ≡ chunk F o' s'
  unfolding chunk
  same-chunk =
      λ j. front (e.clock j) (e.count j) (e.words j) (length (e.rest j)) (e.time j).prft (boxes (e.clock j) (e.start j) (e.list j)) (e.named j)

  -- the rules
  pub same-late : (output : List ℕ) → late F o output s ≡ late F o' output s'
  unfolding value_rungs
  same-late output =
      λ j. (e.rules j ++ ((same-values j else 15) ∷ (same-sums j else 16) ∷ (e.ivs j else 21) ∷ [])) ++ ((leb (length (same-chunk j)) (length output) else 17) ∷ [])

  -- what is handed back
  pub same-took : (output : List ℕ) → (done F o output s).answer ≡ (done F o' output s').answer
  same-took output =
      λ j. took 0 (length (same-chunk j)) (e.rest j) (same-chunk j ++ drop (length (same-chunk j)) output)

-- ---- a full object has no use for the reference

module _ (t : Track) (says : Says) (r r' : List ℕ) where
  cell_full : (was : Measure) (l : Line) (m : Measure) (s : Saying) → cell_of t Plain false r was l m s ≡ cell_of t Plain false r' was l m s
  unfolding cell_of old_values
  cell_full was l m omitted = refl
  cell_full was l m deleted = refl
  cell_full was l m (sent zs) = refl

  came-full : (m : Measure) (l : Line) → came_of t false r says m l ≡ came_of t false r' says m l
  unfolding came_of
  came-full m l = cell_full (was_of t false r) l m (saying_of says l.id)

  count-full : count_of t false r says ≡ count_of t false r' says
  unfolding count_of count_reached
  count-full = refl

  subsamples-full : subsamples t false r says ≡ subsamples t false r' says
  unfolding subsamples
  subsamples-full = (λ j. numbers (came-full (measure t (count-full j) 0) (line_for 11 lines) j).field)

  each-full : came t false r says ≡ came t false r' says
  unfolding came
  each-full = λ j l. came-full (measure t (count-full j) (sum (subsamples-full j))) l j

  -- the words of its set
  pub words-full : (start : ℕ) → new_words t false r says start ≡ new_words t false r' says start
  words-full start = λ j. set_words start (count-full j) (λ l. (each-full j l).field)

  fields-full : field_rungs t false r says ≡ field_rungs t false r' says
  unfolding field_rungs stands
  fields-full =
      λ j.
      ((every (λ l. (each-full j l).cell.first) lines and brands_fit (says 23)) else 14)
      ∷ (((each-full j (line_for 11 lines)).cell.within and saiz_ok t.iv_size (subsamples-full j) and leb (sum (subsamples-full j)) subsamples_most) else 15)
      ∷ ((every (λ l. (each-full j l).cell.second) lines and set_rules t (count-full j) (marks t false r says)) else 14)
      ∷ ((every (λ l. (each-full j l).cell.within) lines and same_iv_size t (words-full 0 j)) else 15)
      ∷ []

  -- and its rules, where it deletes nothing
  pub rules-full : says 27 ≡ None → set_rungs t false r says ≡ set_rungs t false r' says
  unfolding set_rungs count_reached deletions_ok
  rules-full q = rw q (λ j. (true else 14) ∷ (on_option (count_reached t false r says) (λ _. true) false else 15) ∷ fields-full j)

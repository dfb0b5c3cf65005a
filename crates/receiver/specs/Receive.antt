-- One object, by 01's order of answers.
-- ==== The rules
use Rattle.std.specs.Prelude.{ℕ, ◌+◌, ◌%◌, ◌^◌, Bool, cond, not, ◌&&◌, ◌||◌, List, [], ◌∷◌, ◌++◌, eqb, leb, length, get_or, drop}
use Rattle.laws.specs.Tests.{◌and◌}
use Rattle.laws.specs.Ladder.{Rung, ◌else◌, ladder}
use Rattle.constants.specs.Maxima.{number_most, payload_most, brand_bytes_most, events_most, event_bytes_most}
use Rattle.wire.specs.declared.form.Row.{Row}
use Rattle.track.specs.declared.Track.{Track}
use Rattle.slots.specs.declared.lawful.Side.TheVariants.{Receiver}
use Rattle.share_words.specs.Share.{accepted_at, held_at, prft_at, last_at, set_at}
use Rattle.slots.specs.Share.{track_of}
use Rattle.slots.specs.Table.{Out, out}
use Rattle.slots.specs.Calls.{opened_rungs}
use Rattle.locmaf_read_block.specs.Entries.{lawful}
use Rattle.laws.specs.Options.{is_some}
use Rattle.block_items.specs.Events.{Event}
use Rattle.cmaf_write_front.specs.Front.{front}
use Rattle.field_rules.specs.Fields.{numbers}
use Rattle.locmaf_read_set.specs.Read.{set_rungs, new_words}
use Rattle.locmaf_read_times.specs.declared.prft.Told.{Told}
use Rattle.locmaf_read_head.specs.Ids.{ids_ok}
use Rattle.locmaf_read_times.specs.Bmdt.{bmdt_of}
use Rattle.locmaf_read_times.specs.Prft.{prft_of}
use Rattle.locmaf_read_events.specs.Values.{listed, all_fit, boxes}
use Rattle.field_set.specs.Lawful.{has}
use Rattle.effective.specs.Sums.{sizes_ok, protected_ok}
use Rattle.counters.specs.Follow.{derived_fit, with_derived}
use Rattle.answers.specs.Took.{Took, took, refused}
use Rattle.reference.specs.Kept.{kept_words}
use Rattle.receiver.specs.Object.{is_delta, head_rungs, reads, entries, saying, payload}
use Rattle.answers.specs.Refusals.{after_refusal}
use Rattle.answers.specs.Room.{fits}

-- an object o, received on the share s
module _ (F : List Row) (o s : List ℕ) where
  -- what it is read against
  abbrev pub track : Track
  track = track_of s

  abbrev pub reference : List ℕ
  reference = drop set_at s

  unfoldable pub bmdt : ℕ
  bmdt = bmdt_of track (saying F o 10) reference

  unfoldable pub prft : Told
  prft = prft_of (is_delta F o) (saying F o) s

  unfoldable pub events : List Event
  events = listed F (saying F o 25)

  abbrev pub brands : List ℕ
  brands = numbers (saying F o 23)

  -- the new set of moof fields as the object tells it: zeros keep the room of IVs that are left out
  unfoldable pub told_set : List ℕ
  told_set = new_words track (is_delta F o) reference (saying F o) bmdt

  -- 01: "15 (all other values, payload, brand and event maxima)"; "16 brands; 16 emsg records in 4,096 list bytes; .. payload 16,777,216 bytes;
  -- BMDT, .. 2^62-1" (D98, D107, D114)
  unfoldable pub values_ok : Bool
  values_ok =
      (leb bmdt number_most
      && (prft.ok
      && (leb (length (payload F o)) payload_most
      && (leb (length brands) brand_bytes_most && (leb (length events) events_most && leb (length (numbers (saying F o 25))) event_bytes_most)))))
      and all_fit track bmdt events

  -- 16: "sizes or protected sums disagree"
  unfoldable pub sums_ok : Bool
  sums_ok = sizes_ok track told_set (length (payload F o)) and protected_ok track told_set (length (payload F o))

  -- 02, order 6: "For cenc, .. for deltas: if each IV follows, .. id 9 is omitted." It isn't sent, there are IVs to follow from, and IVs stand in the new set (D150)
  unfoldable pub left_out : Bool
  left_out = is_delta F o && (not (is_some (saying F o 9)) && (has 9 reference && has 9 told_set))

  -- "21, receiver only, derived IV past its size" (D153)
  unfoldable pub ivs_fit : Bool
  ivs_fit = not left_out || derived_fit track (get_or s last_at 0) reference told_set (length (payload F o))

  -- the new set of moof fields, with IVs that were left out as they follow from the reference's: "demand 2 reads the derived IVs as the reference's" (D154)
  unfoldable pub new_set : List ℕ
  new_set = cond left_out (with_derived track (get_or s last_at 0) reference told_set (length (payload F o))) told_set

  -- 11: "delta, and no reference held" (D80)
  unfoldable pub held_ok : Bool
  held_ok = not (is_delta F o) || not (eqb (get_or s held_at 0) 0)

  -- 13: "id unknown, twice or forbidden here", and which ids stand together
  unfoldable pub ids_right : Bool
  ids_right = lawful (entries F o) and ids_ok (is_delta F o) (not (eqb (get_or s prft_at 0) 0)) (λ id. is_some (saying F o id))

  -- 01: "12 (tuples, varints, emsg records), 13" (D82, D84)
  unfoldable pub split_rungs : List Rung
  split_rungs = (reads F o else 12) ∷ (ids_right else 13) ∷ []

  -- 01: "14 (deletions), .. 15 (all other values, ..), 16"; 02, order 6: "21, .. after 16, before 17"
  unfoldable pub value_rungs : List Rung
  value_rungs = (values_ok else 15) ∷ (sums_ok else 16) ∷ (ivs_fit else 21) ∷ []

  abbrev pub judge_rungs : List Rung
  judge_rungs = split_rungs ++ (set_rungs track (is_delta F o) reference (saying F o) ++ value_rungs)

  -- 01: "`mfhd` counts accepted objects since opening from 1, 0 following 2^32-1."
  unfoldable pub sequence : ℕ
  sequence = (get_or s accepted_at 0 + 1) % 2 ^ 32

  -- the front of the chunk
  unfoldable pub chunk : List ℕ
  chunk = front track sequence new_set (length (payload F o)) prft.prft (boxes track bmdt events) brands

  -- the share after it is accepted
  unfoldable pub accepted : List ℕ
  accepted = kept_words (is_delta F o) sequence prft.prft new_set (length (payload F o)) s

-- a refusal with the number k, and what is done
abbrev pub refusing : List ℕ → List ℕ → ℕ → Out Took
refusing output s k = out (refused output k) (after_refusal k s)

-- 01: "The output holds the front: all of a chunk up to and with the `mdat` header .. Done reports the front's length; bytes past it stay."
abbrev pub done : List Row → List ℕ → List ℕ → List ℕ → Out Took
done F o output s = out (took 0 (length (chunk F o s)) (payload F o) (chunk F o s ++ drop (length (chunk F o s)) output)) (accepted F o s)

-- 17: "output shorter than the front" (D119)
abbrev pub room_rungs : List Row → List ℕ → List ℕ → List ℕ → List Rung
room_rungs F o output s = (fits (length (chunk F o s)) (length output) else 17) ∷ []

-- an object whose number is 0 but for the room
abbrev pub written : List Row → List ℕ → List ℕ → List ℕ → Out Took
written F o output s = ladder (room_rungs F o output s) (refusing output s) (done F o output s)

-- an object whose head was read, on a share that holds what it is read against
abbrev pub taken : List Row → List ℕ → List ℕ → List ℕ → Out Took
taken F o output s = ladder (judge_rungs F o s ++ room_rungs F o output s) (refusing output s) (done F o output s)

-- 01's order line from the share on: 18, 2, then the receiver's
unfoldable pub receive_rungs : List Row → List ℕ → List ℕ → List ℕ → List Rung
receive_rungs F o output s =
    opened_rungs Receiver s ++ (head_rungs F o ++ ((held_ok F o s else 11) ∷ (judge_rungs F o s ++ room_rungs F o output s)))

unfoldable pub receiving : List Row → List ℕ → List ℕ → List ℕ → Out Took
receiving F o output s = ladder (receive_rungs F o output s) (refusing output s) (done F o output s)

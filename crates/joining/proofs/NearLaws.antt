-- What is read of an object, and written of it, doesn't go by the count of accepted objects. Assumes nothing.
use Prim.Native.Nat.{ℕ, ◌≤◌}
use native.Mathlib.Omega.{arith}
use mathlib.Core.Path.{◌≡◌, refl, sym, ◌∙◌, ap}
use mathlib.Core.Bool.{Bool, true, false, ◌&&◌}
use mathlib.Core.List.{List, [], ◌∷◌, ◌++◌}
use borrow.Author.Tests.{le-leb}
use lib.Dec.{eqb, leb}
use lib.ListN.{length, get_or, drop}
use Rattle.std.specs.Prelude.{Option, Some, None}
use Rattle.laws.specs.Tests.{◌and◌}
use Rattle.laws.specs.Ladder.{◌else◌}
use Rattle.constants.specs.Maxima.{brand_bytes_most, events_most, event_bytes_most, payload_most, number_most}
use Rattle.wire.specs.declared.form.Row.{Row}
use Rattle.track.specs.declared.Asked.{Asked}
use Rattle.track.specs.Track.{u32}
use Rattle.slots.specs.declared.lawful.Side.TheVariants.{Receiver}
use Rattle.share_words.specs.Share.{accepted_at, held_at}
use Rattle.slots.specs.Share.{asked_of, is_open, prft_ok, expected_ok, last_ok, reference_ok, open_ok, lawful}
use Rattle.cmaf_write_front.specs.Front.{front}
use Rattle.locmaf_read_said.specs.Said.{Says}
use Rattle.field_rules.specs.Fields.{numbers}
use Rattle.locmaf_read_set.specs.Read.{set_rungs}
use Rattle.locmaf_read_times.specs.Prft.{times_of, prft_of}
use Rattle.locmaf_read_events.specs.Values.{all_fit, boxes}
use Rattle.locmaf_read_times.proofs.PrftLaws.{prft-none, prft-some}
use Rattle.receiver.specs.Object.{is_delta, head_rungs, saying, payload}
use Rattle.receiver.specs.Receive.{track, reference, bmdt, prft, events, brands, told_set, left_out, ivs_fit, new_set, values_ok, sums_ok, held_ok, ids_right, split_rungs, value_rungs, sequence, chunk, receive_rungs}
use Rattle.joining.specs.Number.{number_at, number_in, unnumbered}
use Rattle.joining.specs.Near.{made}
use Rattle.joining.proofs.NumberLaws.{front-place, front-unnumbered, front-number, front_long}
use Rattle.joining.proofs.EventLaws.{brands-few, events-short}

-- ---- a share by its parts

pub parted : (s : List ℕ) → held_at ≤ length s → s ≡ made (asked_of s) (get_or s accepted_at 0) (drop held_at s)
parted (a ∷ b ∷ c ∷ d ∷ e ∷ f ∷ g ∷ h ∷ n ∷ r) l = refl
parted [] l = absurd (omega arith)
parted (a ∷ []) l = absurd (omega arith)
parted (a ∷ b ∷ []) l = absurd (omega arith)
parted (a ∷ b ∷ c ∷ []) l = absurd (omega arith)
parted (a ∷ b ∷ c ∷ d ∷ []) l = absurd (omega arith)
parted (a ∷ b ∷ c ∷ d ∷ e ∷ []) l = absurd (omega arith)
parted (a ∷ b ∷ c ∷ d ∷ e ∷ f ∷ []) l = absurd (omega arith)
parted (a ∷ b ∷ c ∷ d ∷ e ∷ f ∷ g ∷ []) l = absurd (omega arith)
parted (a ∷ b ∷ c ∷ d ∷ e ∷ f ∷ g ∷ h ∷ []) l = absurd (omega arith)

-- an open share is lawful whatever its count of 32 bits is
pub lawful-near : (a : Asked) (n m : ℕ) (r : List ℕ) → eqb a.track 0 ≡ false → n ≤ u32 → m ≤ u32
    → lawful Receiver (made a n r) ≡ lawful Receiver (made a m r)
unfolding lawful open_ok reference_ok prft_ok expected_ok last_ok
lawful-near a n m r e h k = rw (e, le-leb n u32 h, le-leb m u32 k)

-- ---- an object on two shares that differ in their counts

prft-near : (delta : Bool) (says : Says) (a : Asked) (n m : ℕ) (r : List ℕ) → prft_of delta says (made a n r) ≡ prft_of delta says (made a m r)
unfolding times_of
prft-near delta says a n m r = go (says 18) refl
  where
    go : (x : Option (List ℕ)) → says 18 ≡ x → prft_of delta says (made a n r) ≡ prft_of delta says (made a m r)
    go None e = sym (prft-none delta says (made a n r) e) ∙ prft-none delta says (made a m r) e
    go (Some zs) e = prft-some delta says (made a n r) zs e ∙ sym (prft-some delta says (made a m r) zs e)

module _ (F : List Row) (o : List ℕ) (a : Asked) (n m : ℕ) (r : List ℕ) where
  abbrev s : List ℕ
  s = made a n r

  abbrev s' : List ℕ
  s' = made a m r

  pub time-same : prft F o s ≡ prft F o s'
  unfolding prft
  time-same = prft-near (is_delta F o) (saying F o) a n m r

  values_same : values_ok F o s ≡ values_ok F o s'
  unfolding values_ok bmdt events
  values_same =
      λ j.
      (leb (bmdt F o s) number_most
      && ((time-same j).ok
      && (leb (length (payload F o)) payload_most
      && (leb (length (brands F o s)) brand_bytes_most && (leb (length (events F o s)) events_most && leb (length (numbers (saying F o 25))) event_bytes_most)))))
      and all_fit (track F o s) (bmdt F o s) (events F o s)

  -- the front with any number
  abbrev front_with : List ℕ → ℕ → List ℕ
  front_with z k = front (track F o z) k (new_set F o z) (length (payload F o)) (prft F o z).prft (boxes (track F o z) (bmdt F o z) (events F o z)) (brands F o z)

  pub front_same : (k : ℕ) → front_with s k ≡ front_with s' k
  unfolding new_set left_out told_set bmdt events
  front_same k =
      λ j. front (track F o s) k (new_set F o s) (length (payload F o)) (time-same j).prft (boxes (track F o s) (bmdt F o s) (events F o s)) (brands F o s)

  pub chunk-long : length (chunk F o s) ≡ length (chunk F o s')
  unfolding chunk
  chunk-long = front_long _ _ _ _ _ _ _ ∙ ap length (front_same 0) ∙ sym (front_long _ _ _ _ _ _ _)

  -- the rules of both are the same, one by one
  pub rungs-same : (room : List ℕ) → lawful Receiver s ≡ lawful Receiver s' → receive_rungs F o room s ≡ receive_rungs F o room s'
  unfolding receive_rungs is_open held_ok split_rungs ids_right value_rungs sums_ok ivs_fit left_out told_set bmdt
  rungs-same room e =
      λ j.
      (e j else 18)
      ∷ (is_open s else 2)
      ∷ (head_rungs F o
      ++ ((held_ok F o s else 11)
      ∷ ((split_rungs F o s ++ (set_rungs (track F o s) (is_delta F o) (reference F o s) (saying F o) ++ ((values_same j else 15) ∷ (sums_ok F o s else 16) ∷ (ivs_fit F o s else 21) ∷ [])))
      ++ ((leb (chunk-long j) (length room) else 17) ∷ []))))

-- ---- the number of an object

module _ (F : List Row) (o s : List ℕ) where
  -- it has 32 bits
  pub sequence-few : sequence F o s ≤ u32
  unfolding sequence
  sequence-few = omega arith

  -- its front with the number 0
  abbrev without : List ℕ
  without = front (track F o s) 0 (new_set F o s) (length (payload F o)) (prft F o s).prft (boxes (track F o s) (bmdt F o s) (events F o s)) (brands F o s)

  module _ (h : values_ok F o s ≡ true) where
    -- is the front of an object whose values are right with its number put to 0, and has the number's place
    pub chunk-place : number_at (chunk F o s) ≡ number_at without
    unfolding chunk
    chunk-place =
        front-place (track F o s) (new_set F o s) (length (payload F o)) (prft F o s).prft (boxes (track F o s) (bmdt F o s) (events F o s)) (brands F o s)
        (brands-few F o s h) (events-short F o s h) (sequence F o s)

    pub chunk-unnumbered : unnumbered (chunk F o s) ≡ without
    unfolding chunk
    chunk-unnumbered =
        front-unnumbered (track F o s) (new_set F o s) (length (payload F o)) (prft F o s).prft (boxes (track F o s) (bmdt F o s) (events F o s)) (brands F o s)
        (brands-few F o s h) (events-short F o s h) (sequence F o s)

    -- and the number that stands in it
    pub chunk-number : number_in (chunk F o s) ≡ sequence F o s
    unfolding chunk
    chunk-number =
        front-number (track F o s) (new_set F o s) (length (payload F o)) (prft F o s).prft (boxes (track F o s) (bmdt F o s) (events F o s)) (brands F o s)
        (brands-few F o s h) (events-short F o s h) (sequence F o s) (omega (arith, sequence-few))

-- The parts of a share: its parameters and its reference, and what a start of a group leaves of them. Assumes nothing.
use Prim.Native.Nat.{ℕ, ◌+◌, ◌-◌, ◌<◌}
use native.Mathlib.Omega.{arith}
use mathlib.Core.Path.{◌≡◌, refl, sym, ◌∙◌, ap}
use mathlib.Core.Bool.{Bool, true, false, not}
use mathlib.Core.List.{List, ◌++◌}
use borrow.Author.Tests.{eqb-true, not-true}
use lib.Dec.{eqb}
use lib.ListN.{length, get_or, take, drop, replicate, length-append, length-drop, take-append-drop}
use lib.Seq.{slice, length-take-le, take-append-le, take-take, get_or-take, get_or-drop, take_at, drop_at, drop-drop}
use Rattle.laws.specs.Gate.{gate}
use Rattle.laws.specs.Ladder.{ladder}
use Rattle.laws.proofs.ListLaws.{drop-replicate}
use Rattle.laws.proofs.SliceLaws.{slice-drop}
use Rattle.laws.proofs.TestLaws.{left, right, both}
use Rattle.track.specs.declared.Track.{Track}
use Rattle.track.specs.Track.{narrow, lawful as lawful_track}
use Rattle.slots.specs.declared.lawful.Side.{Side}
use Rattle.share_words.specs.Share.{track_at, timescale_at, track_description_at, track_duration_at, track_size_at, track_flags_at, protection_at, track_iv_size_at}
use Rattle.share_words.specs.Share.{accepted_at, held_at, prft_at, ntp_at, media_time_at, version_at, prft_flags_at, prft_end, past_at, expected_at, last_at, set_at, share_len, reference_len, dropped}
use Rattle.slots.specs.Share.{asked_of, track_of, accepted_ok, prft_ok, expected_ok, last_ok, reference_ok, open_ok, is_open, lawful}
use Rattle.slots.specs.Table.{out, on_share}
use Rattle.slots.specs.Calls.{grouping}
use Rattle.slots.proofs.CallLaws.{closed-zeros}

-- ---- shares that have the same parameters

module _ (s s' : List ℕ) (e : take accepted_at s ≡ take accepted_at s') where
  pub same_word : (i : ℕ) → i < accepted_at → get_or s i 0 ≡ get_or s' i 0
  same_word i lt = sym (get_or-take accepted_at s i 0 lt) ∙ ap (λ (l : List ℕ). get_or l i 0) e ∙ get_or-take accepted_at s' i 0 lt

  same_asked : asked_of s ≡ asked_of s'
  same_asked =
      rw (
        same_word track_at (omega arith),
        same_word timescale_at (omega arith),
        same_word track_description_at (omega arith),
        same_word track_duration_at (omega arith),
        same_word track_size_at (omega arith),
        same_word track_flags_at (omega arith),
        same_word protection_at (omega arith),
        same_word track_iv_size_at (omega arith),
      )

  pub same-track : track_of s ≡ track_of s'
  same-track = ap narrow same_asked

  pub same-open : is_open s ≡ is_open s'
  unfolding is_open
  same-open = ap (λ (k : ℕ). not (eqb k 0)) (same_word track_at (omega arith))

-- an open share is lawful where its words are
open_is : (side : Side) (s : List ℕ) → is_open s ≡ true → lawful side s ≡ open_ok side s
unfolding lawful is_open
open_is side s o = let z : eqb (get_or s track_at 0) 0 ≡ false = not-true _ o in rw z

-- ---- shares that have the same reference

module _ (s s' : List ℕ) (e : drop held_at s ≡ drop held_at s') where
  pub same_kept : (i : ℕ) → get_or s (held_at + i) 0 ≡ get_or s' (held_at + i) 0
  same_kept i = sym (get_or-drop held_at s i 0) ∙ ap (λ (l : List ℕ). get_or l i 0) e ∙ get_or-drop held_at s' i 0

  same_rest : (i : ℕ) → drop (held_at + i) s ≡ drop (held_at + i) s'
  same_rest i = sym (drop-drop i held_at s) ∙ ap (drop i) e ∙ drop-drop i held_at s'

  pub same_set : drop set_at s ≡ drop set_at s'
  same_set = same_rest (set_at - held_at)

  module _ (l : length s ≡ share_len) (l' : length s' ≡ share_len) where
    same-prft : prft_ok s ≡ prft_ok s'
    unfolding prft_ok
    same-prft =
        let w : slice ntp_at prft_end s ≡ slice ntp_at prft_end s' =
        sym (slice-drop held_at (ntp_at - held_at) (prft_end - held_at) s (omega arith)) ∙ ap (slice (ntp_at - held_at) (prft_end - held_at)) e ∙ slice-drop held_at (ntp_at - held_at) (prft_end - held_at) s' (omega arith) in
        rw (same_kept (prft_at - held_at), same_kept (ntp_at - held_at), same_kept (media_time_at - held_at), same_kept (version_at - held_at), same_kept (prft_flags_at - held_at), w)

    same-expected : (t : Track) → expected_ok t s ≡ expected_ok t s'
    unfolding expected_ok
    same-expected t = rw (same_kept (past_at - held_at), same_kept (expected_at - held_at), same_set)

    same-last : (t : Track) → last_ok t s ≡ last_ok t s'
    unfolding last_ok
    same-last t = rw (same_kept (last_at - held_at), same_set)

    same-reference : (t : Track) → reference_ok t s ≡ reference_ok t s'
    unfolding reference_ok
    same-reference t = rw (same_kept 0, same_rest (prft_at - held_at), same_set, same-prft, same-expected t, same-last t)

-- a share with the reference of another that has the same parameters
abbrev pub joined : List ℕ → List ℕ → List ℕ
joined s' s = take held_at s' ++ drop held_at s

module _ (s s' : List ℕ) (l : length s ≡ share_len) (l' : length s' ≡ share_len) where
  first-long : length (take held_at s') ≡ held_at
  first-long = length-take-le held_at s' (omega arith)

  pub joined-long : length (joined s' s) ≡ share_len
  joined-long = omega (arith, length-append (take held_at s') (drop held_at s), first-long, length-drop held_at s)

  pub joined-front : take held_at (joined s' s) ≡ take held_at s'
  joined-front = take_at (take held_at s') (drop held_at s) held_at first-long

  pub joined-reference : drop held_at (joined s' s) ≡ drop held_at s
  joined-reference = drop_at (take held_at s') (drop held_at s) held_at first-long

  pub joined-parameters : take accepted_at (joined s' s) ≡ take accepted_at s'
  joined-parameters =
      sym (take-take accepted_at held_at (joined s' s) (omega arith)) ∙ ap (take accepted_at) joined-front ∙ take-take accepted_at held_at s' (omega arith)

  -- the count is the share's own
  joined-count : get_or (joined s' s) accepted_at 0 ≡ get_or s' accepted_at 0
  joined-count =
      sym (get_or-take held_at (joined s' s) accepted_at 0 (omega arith))
      ∙ ap (λ (w : List ℕ). get_or w accepted_at 0) joined-front
      ∙ get_or-take held_at s' accepted_at 0 (omega arith)

  -- and it is lawful where both are
  pub joined-lawful : (side other : Side) → take accepted_at s ≡ take accepted_at s' → is_open s ≡ true → lawful other s ≡ true → lawful side s' ≡ true
      → lawful side (joined s' s) ≡ true
  unfolding open_ok
  joined-lawful side other e o h h' =
      let same : take accepted_at (joined s' s) ≡ take accepted_at s = joined-parameters ∙ sym e in
      let first : open_ok other s ≡ true = sym (open_is other s o) ∙ h in
      let second : open_ok side s' ≡ true = sym (open_is side s' (sym (same-open s s' e) ∙ o)) ∙ h' in
      open_is side (joined s' s) (same-open (joined s' s) s same ∙ o)
      ∙ both _ _ (ap lawful_track (same_asked (joined s' s) s same) ∙ left _ _ first)
      (both _ _ (ap (accepted_ok side) joined-count ∙ left _ _ (right _ _ second))
      (same-reference (joined s' s) s joined-reference joined-long l (track_of (joined s' s))
      ∙ ap (λ (t : Track). reference_ok t s) (same-track (joined s' s) s same)
      ∙ right _ _ (right _ _ first)))

-- ---- a group starts

module _ (s : List ℕ) (l : length s ≡ share_len) where
  kept-long : length (take held_at s) ≡ held_at
  kept-long = length-take-le held_at s (omega arith)

  -- a share without its reference
  pub dropped-parameters : take accepted_at (dropped s) ≡ take accepted_at s
  unfolding dropped
  dropped-parameters = let n = kept-long in take-append-le accepted_at (take held_at s) (replicate reference_len 0) (omega arith) ∙ take-take accepted_at held_at s (omega arith)

  pub dropped-reference : drop held_at (dropped s) ≡ replicate reference_len 0
  unfolding dropped
  dropped-reference = drop_at (take held_at s) (replicate reference_len 0) held_at kept-long

  -- a closed share has none
  closed-drops : (side : Side) → lawful side s ≡ true → get_or s track_at 0 ≡ 0 → s ≡ dropped s
  unfolding dropped
  closed-drops side h z =
      sym (take-append-drop held_at s)
      ∙ ap (λ (r : List ℕ). take held_at s ++ r)
      (ap (drop held_at) (closed-zeros side s h z) ∙ drop-replicate held_at (length s) 0 ∙ ap (λ (n : ℕ). replicate (n - held_at) 0) l)

  -- open or closed, what a start of a group leaves is the share without its reference
  pub group-leaves : (side : Side) → lawful side s ≡ true → (grouping side s).words ≡ dropped s
  unfolding grouping on_share ladder gate is_open
  group-leaves side h = rw h (by (eqb (get_or s track_at 0) 0) refl)
    where
      by : (b : Bool) → eqb (get_or s track_at 0) 0 ≡ b → (gate (not b) (out {X = ℕ} 2 s) (out 0 (dropped s))).words ≡ dropped s
      by true e = closed-drops side h (eqb-true _ _ e)
      by false e = refl

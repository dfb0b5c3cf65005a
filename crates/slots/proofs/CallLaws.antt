-- What each return of the calls on a share shows. Assumes nothing.
use Rattle.std.specs.Prelude.{Result, Ok, Err}
use Prim.Native.Nat.{ℕ, ◌-◌}
use mathlib.Core.Path.{◌≡◌, ◌∙◌, sym, ap}
use mathlib.Core.Bool.{true, false, not}
use mathlib.Core.List.{List, ◌++◌}
use borrow.Author.Tests.{eq-eqb, ne_eqb}
use lib.ListN.{length, get_or, drop, replicate}
use Rattle.laws.proofs.LadderLaws.{broken, passed, top}
use Rattle.laws.proofs.ListLaws.{drop-replicate}
use Rattle.laws.proofs.TestLaws.{zeros-are}
use Rattle.track.specs.declared.Asked.{Asked}
use Rattle.track.specs.Track.{lawful as lawful_track}
use Rattle.slots.specs.declared.lawful.Side.{Side}
use Rattle.share_words.specs.Share.{track_at, accepted_at, share_len, fresh, dropped}
use Rattle.slots.specs.Share.{param_words, is_open, lawful, opened}
use Rattle.slots.specs.Table.{out, on_share}
use Rattle.slots.specs.Calls.{opened_rungs, open_in, opening, closing, grouping}
use Rattle.slots.proofs.AnswerLaws.{by_answer}

-- by its first word a share is open, or isn't
pub shut : (s : List ℕ) → get_or s track_at 0 ≡ 0 → is_open s ≡ false
unfolding is_open
shut s e = rw (eq-eqb _ _ e)

pub ajar : (s : List ℕ) → (get_or s track_at 0 ≡ 0 → ⊥) → is_open s ≡ true
unfolding is_open
ajar s e = rw (ne_eqb _ _ e)

-- a lawful share that is closed is all 0
pub closed-zeros : (side : Side) (s : List ℕ) → lawful side s ≡ true → get_or s track_at 0 ≡ 0 → s ≡ replicate (length s) 0
unfolding lawful
closed-zeros side s h e = zeros-are s (rw (eq-eqb _ _ e) at h)

module _ (side : Side) (a : Asked) (s : List ℕ) where
  pub open-unlawful : lawful side s ≡ false → out 18 s ≡ opening side a s
  unfolding opening on_share
  open-unlawful h = broken _ 18 _ _ _ h

  module _ (h : lawful side s ≡ true) where
    pub open-open : (get_or s track_at 0 ≡ 0 → ⊥) → out 3 s ≡ opening side a s
    unfolding opening on_share
    open-open e = passed _ 18 _ _ _ h (broken _ 3 _ _ _ (ap not (ajar s e)))

    module _ (e : get_or s track_at 0 ≡ 0) where
      pub open-bad : lawful_track a ≡ false → out 4 s ≡ opening side a s
      unfolding opening on_share
      open-bad b = passed _ 18 _ _ _ h (passed _ 3 _ _ _ (ap not (shut s e)) (broken _ 4 _ _ _ b))

      pub open_done : length s ≡ share_len → lawful_track a ≡ true → out 0 (param_words a ++ drop accepted_at s) ≡ opening side a s
      unfolding opening on_share opened
      open_done l b =
          let z : drop accepted_at s ≡ replicate (share_len - accepted_at) 0 =
          ap (drop accepted_at) (closed-zeros side s h e) ∙ drop-replicate accepted_at (length s) 0 ∙ ap (λ (n : ℕ). replicate (n - accepted_at) 0) l in
          passed _ 18 _ _ _ h (passed _ 3 _ _ _ (ap not (shut s e)) (passed _ 4 _ _ _ b (ap (λ (r : List ℕ). out 0 (param_words a ++ r)) z ∙ top _ _)))

module _ (side : Side) (s : List ℕ) where
  pub unlawful : lawful side s ≡ false → Err 18 ≡ open_in side s
  unfolding open_in
  unlawful h = broken _ 18 _ _ _ h

  pub not-open : lawful side s ≡ true → get_or s track_at 0 ≡ 0 → Err 2 ≡ open_in side s
  unfolding open_in
  not-open h e = passed _ 18 _ _ _ h (broken _ 2 _ _ _ (shut s e))

  pub open-now : lawful side s ≡ true → (get_or s track_at 0 ≡ 0 → ⊥) → Ok tt ≡ open_in side s
  unfolding open_in
  open-now h e = passed _ 18 _ _ _ h (passed _ 2 _ _ _ (ajar s e) (top _ _))

  -- the number that is given instead changes nothing
  pub close-refused : {k : ℕ} → Err k ≡ open_in side s → out k s ≡ closing side s
  unfolding open_in closing on_share
  close-refused {k} e = by_answer (opened_rungs side s) tt (λ n. out n s) _ (Err k) e

  pub group-refused : {k : ℕ} → Err k ≡ open_in side s → out k s ≡ grouping side s
  unfolding open_in grouping on_share
  group-refused {k} e = by_answer (opened_rungs side s) tt (λ n. out n s) _ (Err k) e

  -- the share wiped is what closing leaves
  pub close-done : {o : Unit {0}} → Ok o ≡ open_in side s → out 0 fresh ≡ closing side s
  unfolding open_in closing on_share
  close-done {o} e = by_answer (opened_rungs side s) tt (λ n. out n s) _ (Ok o) e

  -- and without its reference, what starting a group leaves
  pub group-done : {o : Unit {0}} → Ok o ≡ open_in side s → out 0 (dropped s) ≡ grouping side s
  unfolding open_in grouping on_share
  group-done {o} e = by_answer (opened_rungs side s) tt (λ n. out n s) _ (Ok o) e

-- What a lawful share says is expected. Assumes nothing.
use Prim.Native.Nat.{ℕ, ◌≤◌}
use native.Mathlib.Omega.{arith}
use mathlib.Core.Path.{◌≡◌, refl, sym, ◌∙◌, ap}
use mathlib.Core.Bool.{Bool, true, false, not}
use mathlib.Core.List.{List}
use borrow.Author.Tests.{eq-eqb}
use lib.Dec.{eqb}
use lib.ListN.{length, get_or, drop}
use Rattle.laws.specs.Tests.{all_zero}
use Rattle.laws.proofs.TestLaws.{le-at, zeros-le}
use Rattle.track.proofs.TrackLaws.{ranges}
use Rattle.effective.specs.declared.expected.Expected.{Expected}
use Rattle.effective.specs.Expected.{next_time, u64}
use Rattle.effective.proofs.ExpectedLaws.{kept-sum, never-past}
use Rattle.slots.specs.declared.lawful.Side.{Side}
use Rattle.share_words.specs.Share.{track_at, held_at, past_at, expected_at, set_at, share_len}
use Rattle.slots.specs.Share.{asked_of, track_of, expected_in, reference_ok, is_open, lawful}
use Rattle.reference.specs.Laws.{Expects, ShareExpects}
use Rattle.reference.proofs.OpenLaws.{Opened, opened-facts, held-facts, none-next, expected-there, reference-long}

-- words that are all 0
blank : (s : List ℕ) → all_zero s ≡ true → Expects s
blank s z = record { unmarked = none past_at; held = λ e. absurd (omega (arith, none held_at)); none = λ _. none expected_at }
  where
    none : (i : ℕ) → get_or s i 0 ≡ 0
    none i = omega (arith, le-at 0 s i (zeros-le 0 s z))

-- an open share: no sum of today passes
module _ (side : Side) (s : List ℕ) (l : length s ≡ share_len) (h : lawful side s ≡ true) (o : is_open s ≡ true) where
  facts : Opened side s
  facts = opened-facts side s h o

  small : next_time (track_of s) (drop set_at s) ≤ u64
  small = go (eqb (get_or s held_at 0) 0) refl
    where
      go : (b : Bool) → eqb (get_or s held_at 0) 0 ≡ b → next_time (track_of s) (drop set_at s) ≤ u64
      go true q = omega (arith, none-next (track_of s) s facts.reference q)
      go false q =
          never-past (track_of s) (drop set_at s) (reference-long s l) (held-facts (track_of s) s facts.reference q).1 (ranges (asked_of s) facts.track).duration

  sum : expected_in s ≡ record { past = 0; time = next_time (track_of s) (drop set_at s) }
  sum = expected-there side s l h o ∙ sym (kept-sum (next_time (track_of s) (drop set_at s)) small)

  opened : Expects s
  opened =
      record {
        unmarked = ap (λ (e : Expected). e.past) sum;
        held = λ _. ap (λ (e : Expected). e.time) sum;
        none = λ z. ap (λ (e : Expected). e.time) sum ∙ none-next (track_of s) s facts.reference (eq-eqb _ _ z);
      }

pub share-expects : ShareExpects
unfolding lawful is_open
share-expects side s l h = go (eqb (get_or s track_at 0) 0) refl
  where
    go : (b : Bool) → eqb (get_or s track_at 0) 0 ≡ b → Expects s
    go true q = blank s (rw q at h)
    go false q = opened side s l h (rw q)

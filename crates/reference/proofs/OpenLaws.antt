-- An open share that is lawful. Assumes nothing.
use Prim.Native.Nat.{ℕ, ◌-◌, ◌^◌, ◌≤◌}
use native.Mathlib.Omega.{arith}
use mathlib.Core.Path.{◌≡◌, refl, sym, ◌∙◌, ap}
use mathlib.Core.Bool.{Bool, true, false, false≢true}
use mathlib.Core.List.{List}
use borrow.Author.Tests.{not-true}
use lib.Dec.{eqb}
use lib.ListN.{length, get_or, take, drop, length-drop, take-append-drop}
use lib.Seq.{drop-drop, get_or-drop}
use Rattle.laws.specs.Tests.{◌and◌, all_zero}
use Rattle.laws.proofs.TestLaws.{left, right, le-at, zeros-le, all_zero-append}
use Rattle.track.specs.declared.Track.{Track}
use Rattle.track.specs.Track.{lawful as lawful_track}
use Rattle.field_table.specs.Lines.{lines, line_for, set_len}
use Rattle.field_set.specs.Lawful.{has, Tidy, lawful as lawful_set}
use Rattle.field_set.proofs.ValueLaws.{has_no}
use Rattle.field_set.proofs.TidyLaws.{lawful-tidy, zeros-tidy}
use Rattle.effective.specs.Expected.{next_time, expected_by}
use Rattle.effective.proofs.ExpectedLaws.{kept-sum, same-is, zeros-next}
use Rattle.counters.proofs.LastLaws.{last-small}
use Rattle.slots.specs.declared.lawful.Side.{Side}
use Rattle.share_words.specs.Share.{track_at, accepted_at, held_at, prft_at, past_at, expected_at, last_at, set_at, share_len}
use Rattle.slots.specs.Share.{asked_of, track_of, expected_in, is_open, accepted_ok, prft_ok, expected_ok, last_ok, set_ok, reference_ok, open_ok, lawful}

-- an open share, taken apart
pub record Opened (side : Side) (s : List ℕ) : Type 0 where
  pub track : lawful_track (asked_of s) ≡ true
  pub accepted : accepted_ok side (get_or s accepted_at 0) ≡ true
  pub reference : reference_ok (track_of s) s ≡ true

pub opened-facts : (side : Side) (s : List ℕ) → lawful side s ≡ true → is_open s ≡ true → Opened side s
unfolding lawful is_open open_ok
opened-facts side s h o =
    let z : eqb (get_or s track_at 0) 0 ≡ false = not-true _ o in
    let ok : (lawful_track (asked_of s) and accepted_ok side (get_or s accepted_at 0) and reference_ok (track_of s) s) ≡ true = rw z at h in
    record { track = left _ _ ok; accepted = left _ _ (right _ _ ok); reference = right _ _ (right _ _ ok) }

-- a share that holds a reference
pub held-facts : (t : Track) (s : List ℕ) → reference_ok t s ≡ true → eqb (get_or s held_at 0) 0 ≡ false
    → (prft_ok s ≡ true) × (lawful_set t (drop set_at s) ≡ true)
unfolding reference_ok set_ok
held-facts t s h z =
    let ok : (eqb (get_or s held_at 0) 1 and prft_ok s and expected_ok t s and last_ok t s and set_ok t (drop set_at s)) ≡ true = rw z at h in
    (left _ _ (right _ _ ok), left _ _ (right _ _ (right _ _ (right _ _ (right _ _ ok)))))

-- the words of the reference's set
pub reference-long : (s : List ℕ) → length s ≡ share_len → length (drop set_at s) ≡ set_len
reference-long s l = omega (arith, length-drop set_at s)

-- what is left of zeros
rest-zero : (n : ℕ) (l : List ℕ) → all_zero l ≡ true → all_zero (drop n l) ≡ true
rest-zero n l e = right _ _ (sym (all_zero-append (take n l) (drop n l)) ∙ ap all_zero (take-append-drop n l) ∙ e)

-- where nothing is stored of a reference, nothing is of its set
set-zero : (s : List ℕ) → all_zero (drop prft_at s) ≡ true → all_zero (drop set_at s) ≡ true
set-zero s z = ap all_zero (sym (drop-drop (set_at - prft_at) prft_at s)) ∙ rest-zero (set_at - prft_at) (drop prft_at s) z

-- a field that doesn't stand in the reference, if there is one, has nothing stored
pub share-tidy : (side : Side) (s : List ℕ) → length s ≡ share_len → lawful side s ≡ true → is_open s ≡ true → Tidy (drop set_at s)
unfolding reference_ok
share-tidy side s l h o = go (eqb (get_or s held_at 0) 0) refl
  where
    r : reference_ok (track_of s) s ≡ true
    r = (opened-facts side s h o).reference

    go : (b : Bool) → eqb (get_or s held_at 0) 0 ≡ b → Tidy (drop set_at s)
    go true q = zeros-tidy (drop set_at s) (reference-long s l) (set-zero s (rw q at r))
    go false q = lawful-tidy (track_of s) (drop set_at s) (reference-long s l) (held-facts (track_of s) s r q).1

-- behind no reference nothing is expected
pub none-next : (t : Track) (s : List ℕ) → reference_ok t s ≡ true → eqb (get_or s held_at 0) 0 ≡ true → next_time t (drop set_at s) ≡ 0
unfolding reference_ok
none-next t s h q = zeros-next t (drop set_at s) (set-zero s (rw q at h))

-- what is expected behind the words of the share, whether a reference is held or not
pub expected-there : (side : Side) (s : List ℕ) → length s ≡ share_len → lawful side s ≡ true → is_open s ≡ true
    → expected_in s ≡ expected_by (next_time (track_of s) (drop set_at s))
unfolding reference_ok expected_ok
expected-there side s l h o = go (eqb (get_or s held_at 0) 0) refl
  where
    r : reference_ok (track_of s) s ≡ true
    r = (opened-facts side s h o).reference

    go : (b : Bool) → eqb (get_or s held_at 0) 0 ≡ b → expected_in s ≡ expected_by (next_time (track_of s) (drop set_at s))
    go true q =
        let z : all_zero (drop prft_at s) ≡ true = rw q at r in
        let past : get_or s past_at 0 ≡ 0 = sym (get_or-drop prft_at s (past_at - prft_at) 0) ∙ omega (arith, le-at 0 (drop prft_at s) (past_at - prft_at) (zeros-le 0 _ z)) in
        let time : get_or s expected_at 0 ≡ 0 = sym (get_or-drop prft_at s (expected_at - prft_at) 0) ∙ omega (arith, le-at 0 (drop prft_at s) (expected_at - prft_at) (zeros-le 0 _ z)) in
        (λ j. record { past = past j; time = time j })
        ∙ kept-sum 0 (omega arith)
        ∙ ap expected_by (sym (none-next (track_of s) s r q))
    go false q =
        let ok : (eqb (get_or s held_at 0) 1 and prft_ok s and expected_ok (track_of s) s and last_ok (track_of s) s and set_ok (track_of s) (drop set_at s)) ≡ true = rw q at r in
        same-is _ _ (left _ _ (right _ _ (right _ _ ok)))

-- the last sample's protected bytes are few, whether a reference is held or not
pub last-there : (side : Side) (s : List ℕ) → length s ≡ share_len → lawful side s ≡ true → is_open s ≡ true → get_or s last_at 0 ≤ 2 ^ 48
unfolding reference_ok last_ok
last-there side s l h o = go (eqb (get_or s held_at 0) 0) refl
  where
    r : reference_ok (track_of s) s ≡ true
    r = (opened-facts side s h o).reference

    go : (b : Bool) → eqb (get_or s held_at 0) 0 ≡ b → get_or s last_at 0 ≤ 2 ^ 48
    go true q =
        let z : all_zero (drop prft_at s) ≡ true = rw q at r in
        let none : get_or s last_at 0 ≡ 0 = sym (get_or-drop prft_at s (last_at - prft_at) 0) ∙ omega (arith, le-at 0 (drop prft_at s) (last_at - prft_at) (zeros-le 0 _ z)) in
        omega arith
    go false q =
        let ok : (eqb (get_or s held_at 0) 1 and prft_ok s and expected_ok (track_of s) s and last_ok (track_of s) s and set_ok (track_of s) (drop set_at s)) ≡ true = rw q at r in
        last-small (track_of s) (drop set_at s) (reference-long s l) (held-facts (track_of s) s r q).1 _ (left _ _ (right _ _ (right _ _ (right _ _ ok))))

-- a set that has IVs is a lawful one: where no reference is held, no field stands
pub lawful-there : (side : Side) (s : List ℕ) → length s ≡ share_len → lawful side s ≡ true → is_open s ≡ true → has 9 (drop set_at s) ≡ true
    → lawful_set (track_of s) (drop set_at s) ≡ true
unfolding reference_ok
lawful-there side s l h o e = go (eqb (get_or s held_at 0) 0) refl
  where
    r : reference_ok (track_of s) s ≡ true
    r = (opened-facts side s h o).reference

    go : (b : Bool) → eqb (get_or s held_at 0) 0 ≡ b → lawful_set (track_of s) (drop set_at s) ≡ true
    go true q =
        let z : all_zero (drop set_at s) ≡ true = set-zero s (rw q at r) in
        absurd (false≢true (sym (has_no 9 (drop set_at s) (omega (arith, le-at 0 (drop set_at s) (line_for 9 lines).place (zeros-le 0 _ z)))) ∙ e))
    go false q = (held-facts (track_of s) s r q).1

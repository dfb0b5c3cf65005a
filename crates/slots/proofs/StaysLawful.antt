-- The calls keep the share's length and its lawfulness, each gives its numbers exactly when its rule says, and does what 01 says. Assumes nothing.
use Prim.Native.Nat.{ℕ, ◌+◌, ◌-◌, ◌<◌}
use native.Mathlib.Omega.{arith}
use mathlib.Core.Path.{◌≡◌, refl, sym, ◌∙◌, ap, subst}
use mathlib.Core.Bool.{true, false}
use mathlib.Core.List.{List, ◌++◌}
use borrow.Author.Tests.{eq-eqb, ne_eqb, not-true}
use native.Mathlib.Nat.{add-zero}
use lib.Dec.{eqb}
use lib.ListN.{length, get_or, take, drop, replicate, length-append, length-replicate, get_or-append}
use lib.Seq.{length-take-le, get_or-take, get_or-append-add, drop-append-add}
use Rattle.laws.specs.Ladder.{Rung, ladder, Given}
use Rattle.laws.specs.Tests.{◌and◌, all_zero}
use Rattle.laws.proofs.LadderLaws.{given, number_of, climbs, ladder-append, ladder-seen}
use Rattle.laws.proofs.ListLaws.{drop-replicate}
use Rattle.laws.proofs.TestLaws.{left, right, both, all_zero-zeros}
use Rattle.track.specs.declared.Asked.{Asked}
use Rattle.track.specs.declared.Track.{Track}
use Rattle.track.specs.Track.{lawful as lawful_track}
use Rattle.track.proofs.TrackLaws.{id-from-one}
use Rattle.slots.specs.declared.lawful.Side.{Side}
use Rattle.slots.specs.declared.lawful.Side.TheVariants.{Encoder, Receiver}
use Rattle.share_words.specs.Share.{track_at, timescale_at, track_description_at, track_duration_at, track_size_at, track_flags_at, protection_at, track_iv_size_at}
use Rattle.share_words.specs.Share.{accepted_at, held_at, prft_at, share_len, reference_len, fresh, dropped}
use Rattle.slots.specs.Share.{asked_of, track_of, is_open, accepted_ok, reference_ok, open_ok, lawful, opened, param_words, asked}
use Rattle.slots.specs.Table.{Out, out, itself, share_at, table_rungs, on_share, on_table}
use Rattle.slots.proofs.TableLaws.{zero-share}
use Rattle.slots.specs.Calls.{open_rungs, opened_rungs, opening, closing, grouping}
use Rattle.slots.specs.Laws.{Keeps, StaysLawful, FreshLawful, OpenExactly, CloseExactly, GroupExactly, OpenStores, CloseZeroes, GroupDrops, RefusalKeeps}

-- ---- lengths

pub opened-long : (a : Asked) → length (opened a) ≡ share_len
unfolding opened
opened-long a = omega (arith, length-append (param_words a) (replicate (share_len - accepted_at) 0), length-replicate {A = ℕ} (share_len - accepted_at) 0)

fresh-long : length fresh ≡ share_len
fresh-long = length-replicate {A = ℕ} share_len 0

pub dropped-long : (s : List ℕ) → length s ≡ share_len → length (dropped s) ≡ share_len
unfolding dropped
dropped-long s l =
    omega (arith, length-append (take held_at s) (replicate reference_len 0), length-replicate {A = ℕ} reference_len 0, length-take-le held_at s (omega arith))

-- ---- lawful shares

module _ (side : Side) where
  none-accepted : accepted_ok side 0 ≡ true
  none-accepted = go side
    where
      go : (side : Side) → accepted_ok side 0 ≡ true
      go Encoder = refl
      go Receiver = refl

  pub fresh-lawful : lawful side fresh ≡ true
  unfolding lawful
  fresh-lawful = all_zero-zeros share_len

  pub opened-lawful : (a : Asked) → lawful_track a ≡ true → lawful side (opened a) ≡ true
  unfolding lawful open_ok opened reference_ok
  opened-lawful a h =
      let z : a.track ≡ 0 → ⊥ = λ e. omega (arith, id-from-one a h) in
      rw (ne_eqb a.track 0 z) (both _ _ h (both _ _ none-accepted (all_zero-zeros (share_len - prft_at))))

-- an open share, taken apart and put together
open-parts : (side : Side) (s : List ℕ) → eqb (get_or s track_at 0) 0 ≡ false → lawful side s ≡ true
    → (lawful_track (asked_of s) ≡ true) × (accepted_ok side (get_or s accepted_at 0) ≡ true)
unfolding lawful open_ok
open-parts side s z h =
    let ok : (lawful_track (asked_of s) and accepted_ok side (get_or s accepted_at 0) and reference_ok (track_of s) s) ≡ true = rw z at h in
    (left _ _ ok, left _ _ (right _ _ ok))

open-whole : (side : Side) (s : List ℕ) → eqb (get_or s track_at 0) 0 ≡ false → lawful_track (asked_of s) ≡ true → accepted_ok side (get_or s accepted_at 0) ≡ true
    → reference_ok (track_of s) s ≡ true → lawful side s ≡ true
unfolding lawful open_ok
open-whole side s z p q r = rw z (both _ _ p (both _ _ q r))

-- a share without its reference: what it keeps
module _ (s : List ℕ) (l : length s ≡ share_len) where
  kept-long : length (take held_at s) ≡ held_at
  kept-long = length-take-le held_at s (omega arith)

  pub kept : (k : ℕ) → k < held_at → get_or (dropped s) k 0 ≡ get_or s k 0
  unfolding dropped
  kept k h =
      let m : k < length (take held_at s) = omega (arith, kept-long) in
      get_or-append (take held_at s) (replicate reference_len 0) 0 k m ∙ get_or-take held_at s k 0 h

  same_asked : asked_of (dropped s) ≡ asked_of s
  same_asked =
      λ j.
      asked (kept track_at (omega arith) j) (kept timescale_at (omega arith) j) (kept track_description_at (omega arith) j) (kept track_duration_at (omega arith) j) (kept track_size_at (omega arith) j)
      (kept track_flags_at (omega arith) j) (kept protection_at (omega arith) j) (kept track_iv_size_at (omega arith) j)

  -- and what it doesn't
  gone : (n : ℕ) → drop (held_at + n) (dropped s) ≡ replicate (reference_len - n) 0
  unfolding dropped
  gone n =
      ap (λ (k : ℕ). drop (k + n) (take held_at s ++ replicate reference_len 0)) (sym kept-long)
      ∙ drop-append-add (take held_at s) (replicate reference_len 0) n
      ∙ drop-replicate n reference_len 0

  not-held : get_or (dropped s) held_at 0 ≡ 0
  unfolding dropped
  not-held =
      ap (λ (k : ℕ). get_or (take held_at s ++ replicate reference_len 0) k 0) (sym (kept-long) ∙ sym (add-zero (length (take held_at s))))
      ∙ get_or-append-add (take held_at s) (replicate reference_len 0) 0 0

  none-referred : (t : Track) → reference_ok t (dropped s) ≡ true
  unfolding reference_ok
  none-referred t = rw (eq-eqb _ _ not-held) (ap all_zero (gone (prft_at - held_at)) ∙ all_zero-zeros (share_len - prft_at))

  pub dropped-lawful : (side : Side) → lawful side s ≡ true → is_open s ≡ true → lawful side (dropped s) ≡ true
  unfolding is_open
  dropped-lawful side h o =
      let z : eqb (get_or s track_at 0) 0 ≡ false = not-true _ o in
      let ok = open-parts side s z h in
      open-whole side (dropped s) (ap (λ (n : ℕ). eqb n 0) (kept track_at (omega arith)) ∙ z) (ap lawful_track same_asked ∙ ok.0)
      (ap (accepted_ok side) (kept accepted_at (omega arith)) ∙ ok.1) (none-referred (track_of (dropped s)))

-- ---- the calls

abbrev Long : Out ℕ → Type 0
Long o = length o.words ≡ share_len

pub open-keeps : (side : Side) (a : Asked) → Keeps (opening side a)
unfolding opening on_share
open-keeps side a = record { keeps = λ s l. climbs Long (λ k. out k s) (open_rungs side a s) _ (l, (l, (l, tt))) (λ _. opened-long a) }

pub close-keeps : (side : Side) → Keeps (closing side)
unfolding closing on_share
close-keeps side = record { keeps = λ s l. climbs Long (λ k. out k s) (opened_rungs side s) _ (l, (l, tt)) (λ _. fresh-long) }

pub group-keeps : (side : Side) → Keeps (grouping side)
unfolding grouping on_share
group-keeps side = record { keeps = λ s l. climbs Long (λ k. out k s) (opened_rungs side s) _ (l, (l, tt)) (λ _. dropped-long s l) }

pub open-stays-lawful : (side : Side) (a : Asked) → StaysLawful side (opening side a)
unfolding opening on_share
open-stays-lawful side a =
    record {
      keeps =
          λ s l h.
          climbs (λ (o : Out ℕ). lawful side o.words ≡ true) (λ k. out k s) (open_rungs side a s) _ (h, (h, (h, tt)))
          (λ q. opened-lawful side a q.1.1.0);
    }

pub close-stays-lawful : (side : Side) → StaysLawful side (closing side)
unfolding closing on_share
close-stays-lawful side =
    record {
      keeps =
          λ s l h.
          climbs (λ (o : Out ℕ). lawful side o.words ≡ true) (λ k. out k s) (opened_rungs side s) _ (h, (h, tt)) (λ _. fresh-lawful side);
    }

pub group-stays-lawful : (side : Side) → StaysLawful side (grouping side)
unfolding grouping on_share
group-stays-lawful side =
    record {
      keeps =
          λ s l h.
          climbs (λ (o : Out ℕ). lawful side o.words ≡ true) (λ k. out k s) (opened_rungs side s) _ (h, (h, tt))
          (λ q. dropped-lawful s l side h q.1.0);
    }

pub all-fresh : FreshLawful
all-fresh side slot h = ap (lawful side) (zero-share slot h) ∙ fresh-lawful side

-- ---- numbers

-- the number of a call whose share's call is a ladder
exactly : (rungs : List ℕ → List Rung) (act : List ℕ → List ℕ) (t : List ℕ) (slot : ℕ)
    → Given (on_table itself (on_share itself rungs 0 act) t slot).answer (table_rungs t slot ++ rungs (share_at t slot))
unfolding on_table on_share
exactly rungs act t slot =
    let s : List ℕ = share_at t slot in
    let is : (on_table itself (on_share itself rungs 0 act) t slot).answer ≡ number_of (table_rungs t slot ++ rungs s) =
    ladder-seen (λ (o : Out ℕ). o.answer) (table_rungs t slot) _ _
    ∙ ap (ladder (table_rungs t slot) (λ k. k)) (ladder-seen (λ (o : Out ℕ). o.answer) (rungs s) _ _)
    ∙ sym (ladder-append (table_rungs t slot) (rungs s) (λ k. k) 0) in
    subst (λ (k : ℕ). Given k (table_rungs t slot ++ rungs s)) (sym is) (given (table_rungs t slot ++ rungs s))

pub open-exactly : OpenExactly
unfolding opening
open-exactly side a t slot = exactly (open_rungs side a) (λ _. opened a) t slot

pub close-exactly : CloseExactly
unfolding closing
close-exactly side t slot = exactly (opened_rungs side) (λ _. fresh) t slot

pub group-exactly : GroupExactly
unfolding grouping
group-exactly side t slot = exactly (opened_rungs side) dropped t slot

-- ---- what is done, and what a refusal leaves

abbrev Done : List ℕ → Out ℕ → Type 0
Done w o = o.answer ≡ 0 → o.words ≡ w

never : (k : ℕ) {w s : List ℕ} → (k ≡ 0 → ⊥) → k ≡ 0 → s ≡ w
never k n e = absurd (n e)

pub open-stores : OpenStores
unfolding opening on_share
open-stores side a s =
    climbs (Done (opened a)) (λ k. out k s) (open_rungs side a s) _ (never 18 (λ e. omega arith), (never 3 (λ e. omega arith), (never 4 (λ e. omega arith), tt))) (λ _ _. refl)

pub close-zeroes : CloseZeroes
unfolding closing on_share
close-zeroes side s =
    climbs (Done fresh) (λ k. out k s) (opened_rungs side s) _ (never 18 (λ e. omega arith), (never 2 (λ e. omega arith), tt)) (λ _ _. refl)

pub group-drops : GroupDrops
unfolding grouping on_share
group-drops side s =
    climbs (Done (dropped s)) (λ k. out k s) (opened_rungs side s) _ (never 18 (λ e. omega arith), (never 2 (λ e. omega arith), tt)) (λ _ _. refl)

abbrev Stays : List ℕ → Out ℕ → Type 0
Stays s o = (o.answer ≡ 0 → ⊥) → o.words ≡ s

pub open-refuses : (side : Side) (a : Asked) → RefusalKeeps (opening side a)
unfolding opening on_share
open-refuses side a s = climbs (Stays s) (λ k. out k s) (open_rungs side a s) _ ((λ _. refl), ((λ _. refl), ((λ _. refl), tt))) (λ _ n. absurd (n refl))

pub close-refuses : (side : Side) → RefusalKeeps (closing side)
unfolding closing on_share
close-refuses side s = climbs (Stays s) (λ k. out k s) (opened_rungs side s) _ ((λ _. refl), ((λ _. refl), tt)) (λ _ n. absurd (n refl))

pub group-refuses : (side : Side) → RefusalKeeps (grouping side)
unfolding grouping on_share
group-refuses side s = climbs (Stays s) (λ k. out k s) (opened_rungs side s) _ ((λ _. refl), ((λ _. refl), tt)) (λ _ n. absurd (n refl))

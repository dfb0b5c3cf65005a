-- The words of a share after an accepted object: their number, and that they are lawful. Assumes nothing.
use Prim.Native.Nat.{ℕ, ◌+◌, ◌-◌, ◌≤◌, ◌<◌}
use native.Mathlib.Omega.{arith}
use mathlib.Core.Path.{◌≡◌, refl, sym, ◌∙◌, ap, ap₂, subst}
use mathlib.Core.Logic.{◌⊎◌, inl, inr}
use mathlib.Core.Bool.{Bool, true, false, cond, ◌&&◌, ◌||◌}
use mathlib.Core.List.{List, [], ◌∷◌, ◌++◌, append_assoc}
use borrow.Author.Tests.{eq-eqb, le-leb, not-true}
use lib.Dec.{eqb, leb}
use lib.ListN.{length, get_or, take, drop, length-append, get_or-append}
use lib.Seq.{slice, slice-cons, take_at, length-take-le, length-slice, get_or-take, get_or-drop, get_or-append-add, drop-append-add}
use Rattle.laws.specs.Tests.{all_zero}
use Rattle.laws.proofs.TestLaws.{both}
use Rattle.laws.proofs.SliceLaws.{drop-slice, slice-none, slice-between}
use Rattle.track.specs.Track.{narrow, u32, lawful as lawful_track}
use Rattle.track.specs.declared.Track.{Track}
use Rattle.field_table.specs.Lines.{set_len}
use Rattle.field_set.specs.Lawful.{lawful as lawful_set}
use Rattle.told_sizes.specs.Sums.{Summable}
use Rattle.slots.specs.declared.lawful.Side.{Side}
use Rattle.share_words.specs.Share.{track_at, timescale_at, track_description_at, track_duration_at, track_size_at, track_flags_at, protection_at, track_iv_size_at}
use Rattle.share_words.specs.Share.{accepted_at, held_at, prft_at, ntp_at, media_time_at, version_at, prft_flags_at, prft_end, past_at, expected_at, last_at, set_at, share_len}
use Rattle.slots.specs.Share.{u24, u62, asked, asked_of, track_of, expected_in, is_open, accepted_ok, prft_ok, expected_ok, last_ok, set_ok, reference_ok, open_ok, lawful}
use Rattle.prft_value.specs.declared.Prft.{Prft}
use Rattle.effective.specs.declared.expected.Expected.{Expected}
use Rattle.effective.specs.Durations.{Timed}
use Rattle.effective.specs.Sizes.{Sized}
use Rattle.effective.specs.Expected.{next_time, expected_by, same}
use Rattle.effective.proofs.ExpectedLaws.{same_self}
use Rattle.counters.specs.Protected.{last_protected, last_fits}
use Rattle.reference.specs.Kept.{prft_words, beside_words, expected_after, last_after, reference_words, kept_with, kept_words, stored_words, renewed}
use Rattle.reference.proofs.OpenLaws.{Opened}
use Rattle.prft_value.specs.Prft.{InRange}

-- ---- the words one after another

-- the parameters f, the count n, the mark, the words p of the `prft`, those of what is expected, the last sample's protected bytes z, and the set w
module _ (f : List ℕ) (n : ℕ) (p : List ℕ) (e : Expected) (z : ℕ) (w : List ℕ) (lf : length f ≡ accepted_at) (lp : length p ≡ prft_end - prft_at) where
  abbrev all : List ℕ
  all = f ++ (n ∷ reference_words p (beside_words e z) w)

  all-long : length w ≡ set_len → length all ≡ share_len
  all-long lw = omega (arith, length-append f (n ∷ reference_words p (beside_words e z) w), length-append p (beside_words e z ++ w))

  -- a word behind the parameters
  word_at : (k m : ℕ) → accepted_at + k ≡ m → get_or all m 0 ≡ get_or (n ∷ reference_words p (beside_words e z) w) k 0
  word_at k m h =
      let q : m ≡ length f + k = omega arith in
      ap (λ (i : ℕ). get_or all i 0) q ∙ get_or-append-add f (n ∷ reference_words p (beside_words e z) w) k 0

  count-at : get_or all accepted_at 0 ≡ n
  count-at = word_at 0 accepted_at refl

  mark-at : get_or all held_at 0 ≡ 1
  mark-at = word_at 1 held_at refl

  five-at : slice prft_at prft_end all ≡ p
  five-at =
      let pre : List ℕ = f ++ (n ∷ 1 ∷ []) in
      let a : prft_at ≡ length pre = omega (arith, length-append f (n ∷ 1 ∷ [])) in
      let b : prft_end ≡ length pre + length p = omega (arith, length-append f (n ∷ 1 ∷ [])) in
      ap (slice prft_at prft_end) (sym (append_assoc f (n ∷ 1 ∷ []) (p ++ (beside_words e z ++ w))))
      ∙ ap₂ (λ (i j : ℕ). slice i j (pre ++ (p ++ (beside_words e z ++ w)))) a b
      ∙ slice-between pre p (beside_words e z ++ w)

  -- all before what is kept beside the set, and all from there on
  front : List ℕ
  front = f ++ (n ∷ 1 ∷ p)

  front-is : length front ≡ past_at
  unfolding front
  front-is = omega (arith, length-append f (n ∷ 1 ∷ p))

  parts : all ≡ front ++ (beside_words e z ++ w)
  unfolding front
  parts = sym (append_assoc f (n ∷ 1 ∷ p) (beside_words e z ++ w))

  front_at : take past_at all ≡ front
  front_at = ap (take past_at) parts ∙ take_at front (beside_words e z ++ w) past_at front-is

  from_past : (k m : ℕ) → past_at + k ≡ m → drop m all ≡ drop k (beside_words e z ++ w)
  from_past k m h =
      let q : m ≡ length front + k = omega (arith, front-is) in
      ap (drop m) parts ∙ ap (λ (i : ℕ). drop i (front ++ (beside_words e z ++ w))) q ∙ drop-append-add front (beside_words e z ++ w) k

  set-at : drop set_at all ≡ w
  set-at = from_past (set_at - past_at) set_at refl

  expected-at : expected_in all ≡ e
  expected-at =
      let q = from_past 0 past_at refl in
      let a : get_or all past_at 0 ≡ e.past = sym (get_or-drop past_at all 0 0) ∙ ap (λ (l : List ℕ). get_or l 0 0) q in
      let b : get_or all expected_at 0 ≡ e.time = sym (get_or-drop past_at all 1 0) ∙ ap (λ (l : List ℕ). get_or l 1 0) q in
      λ j. record { past = a j; time = b j }

  last-at : get_or all last_at 0 ≡ z
  last-at = sym (get_or-drop past_at all (last_at - past_at) 0) ∙ ap (λ (l : List ℕ). get_or l (last_at - past_at) 0) (from_past 0 past_at refl)

-- ---- the `prft` that is kept

-- its test, by its five words alone
unfoldable prft_in : List ℕ → Bool
prft_in p =
    cond (eqb (get_or p 0 0) 0) (all_zero (drop (ntp_at - prft_at) p))
    (eqb (get_or p 0 0) 1
    && (leb (get_or p (version_at - prft_at) 0) 1
    && ((eqb (get_or p (version_at - prft_at) 0) 1 || leb (get_or p (media_time_at - prft_at) 0) u32) && (leb (get_or p (prft_flags_at - prft_at) 0) u24 && (leb (get_or p (ntp_at - prft_at) 0) u62 && leb (get_or p (media_time_at - prft_at) 0) u62)))))

part-word : (f t k m : ℕ) (s : List ℕ) → f + k ≡ m → m < t → get_or s m 0 ≡ get_or (slice f t s) k 0
part-word f t k m s e h = sym (get_or-drop f (take t s) k 0 ∙ ap (λ (i : ℕ). get_or (take t s) i 0) e ∙ get_or-take t s m 0 h)

prft-in : (s : List ℕ) → prft_ok s ≡ prft_in (slice prft_at prft_end s)
unfolding prft_ok prft_in
prft-in s =
    let a = part-word prft_at prft_end 0 prft_at s refl (omega arith) in
    let n = part-word prft_at prft_end (ntp_at - prft_at) ntp_at s refl (omega arith) in
    let b = part-word prft_at prft_end (media_time_at - prft_at) media_time_at s refl (omega arith) in
    let c = part-word prft_at prft_end (version_at - prft_at) version_at s refl (omega arith) in
    let d = part-word prft_at prft_end (prft_flags_at - prft_at) prft_flags_at s refl (omega arith) in
    let e = sym (drop-slice prft_at prft_end (ntp_at - prft_at) s) in
    λ j.
    cond (eqb (a j) 0) (all_zero (e j))
    (eqb (a j) 1 && (leb (c j) 1 && ((eqb (c j) 1 || leb (b j) u32) && (leb (d j) u24 && (leb (n j) u62 && leb (b j) u62)))))

or-of : (a b : Bool) → (a ≡ true) ⊎ (b ≡ true) → (a || b) ≡ true
or-of true b e = refl
or-of false b (inl e) = let z : ◌≡◌ {A = ℕ} 0 1 = cc in absurd (omega arith)
or-of false b (inr e) = e

words-ranged : (p : Prft) → InRange p → prft_in (prft_words p) ≡ true
unfolding prft_in prft_words all_zero
words-ranged p h = go p.stands refl
  where
    media : (p.version ≡ 1) ⊎ (p.media.0 ≤ 0xffff_ffff) → (eqb p.version 1 || leb p.media.0 u32) ≡ true
    media (inl e) = or-of (eqb p.version 1) (leb p.media.0 u32) (inl (eq-eqb p.version 1 e))
    media (inr e) = or-of (eqb p.version 1) (leb p.media.0 u32) (inr (le-leb p.media.0 u32 e))

    go : (b : Bool) → p.stands ≡ b → prft_in (cond b 1 0 ∷ p.ntp.0 ∷ p.media.0 ∷ p.version ∷ p.flags ∷ []) ≡ true
    go false q =
        let z = h.0 q in
        both _ _ (eq-eqb _ _ z.0) (both _ _ (eq-eqb _ _ z.1) (both _ _ (eq-eqb _ _ z.2) (both _ _ (eq-eqb _ _ z.3) refl)))
    go true q =
        let z = h.1 q in
        rw (le-leb _ _ z.0, media z.1, le-leb _ _ z.2, le-leb _ _ z.3, le-leb _ _ z.4)

-- ---- an accepted object's share

module _ (s : List ℕ) (l : length s ≡ share_len) where
  front_long : length (take accepted_at s) ≡ accepted_at
  front_long = length-take-le accepted_at s (omega arith)

  -- the five words that stand for the `prft`
  five_of : Bool → Prft → List ℕ
  five_of delta p = cond delta (slice prft_at prft_end s) (prft_words p)

  five-long : (delta : Bool) (p : Prft) → length (five_of delta p) ≡ prft_end - prft_at
  unfolding five_of prft_words
  five-long true p = length-slice prft_at prft_end s (omega arith)
  five-long false p = refl

  five-ok : (delta : Bool) (p : Prft) → (delta ≡ true → prft_ok s ≡ true) → (delta ≡ false → InRange p) → prft_in (five_of delta p) ≡ true
  unfolding five_of
  five-ok true p a b = sym (prft-in s) ∙ a refl
  five-ok false p a b = words-ranged p (b refl)

  -- the three words that are kept beside the set
  three-words : slice past_at set_at s ≡ beside_words (expected_in s) (get_or s last_at 0)
  three-words =
      slice-cons past_at set_at s 0 (omega arith) (omega arith)
      ∙ ap (λ (l : List ℕ). get_or s past_at 0 ∷ l)
      (slice-cons expected_at set_at s 0 (omega arith) (omega arith)
      ∙ ap (λ (l : List ℕ). get_or s expected_at 0 ∷ l)
      (slice-cons last_at set_at s 0 (omega arith) (omega arith) ∙ ap (λ (l : List ℕ). get_or s last_at 0 ∷ l) (slice-none set_at set_at s (omega arith))))

  module _ (delta : Bool) (n : ℕ) (p : Prft) (w : List ℕ) (payload : ℕ) where
    -- it keeps its length
    pub accepted-long : length w ≡ set_len → length (kept_words delta n p w payload s) ≡ share_len
    unfolding kept_words five_of
    accepted-long lw = all-long (take accepted_at s) n (five_of delta p) (expected_after w s) (last_after w payload s) w front_long (five-long delta p) lw

    -- and its parameters
    front_kept : (rest : List ℕ) (k : ℕ) → k < accepted_at → get_or (take accepted_at s ++ rest) k 0 ≡ get_or s k 0
    front_kept rest k h =
        let m : k < length (take accepted_at s) = omega (arith, front_long) in
        get_or-append (take accepted_at s) rest 0 k m ∙ get_or-take accepted_at s k 0 h

    front-asked : (rest : List ℕ) → asked_of (take accepted_at s ++ rest) ≡ asked_of s
    front-asked rest =
        λ j.
        asked (at track_at (omega arith) j) (at timescale_at (omega arith) j) (at track_description_at (omega arith) j) (at track_duration_at (omega arith) j)
        (at track_size_at (omega arith) j) (at track_flags_at (omega arith) j) (at protection_at (omega arith) j) (at track_iv_size_at (omega arith) j)
      where
        at : (k : ℕ) → k < accepted_at → get_or (take accepted_at s ++ rest) k 0 ≡ get_or s k 0
        at = front_kept rest

    accepted-open : get_or (kept_words delta n p w payload s) track_at 0 ≡ get_or s track_at 0
    unfolding kept_words
    accepted-open = front_kept _ track_at (omega arith)

    accepted-asked : asked_of (kept_words delta n p w payload s) ≡ asked_of s
    unfolding kept_words
    accepted-asked = front-asked _

    accepted-prft : prft_ok (kept_words delta n p w payload s) ≡ prft_in (five_of delta p)
    unfolding kept_words five_of
    accepted-prft =
        prft-in (kept_words delta n p w payload s)
        ∙ ap prft_in (five-at (take accepted_at s) n (five_of delta p) (expected_after w s) (last_after w payload s) w front_long (five-long delta p))

    accepted-set : drop set_at (kept_words delta n p w payload s) ≡ w
    unfolding kept_words five_of
    accepted-set = set-at (take accepted_at s) n (five_of delta p) (expected_after w s) (last_after w payload s) w front_long (five-long delta p)

    accepted-count : get_or (kept_words delta n p w payload s) accepted_at 0 ≡ n
    unfolding kept_words five_of
    accepted-count = count-at (take accepted_at s) n (five_of delta p) (expected_after w s) (last_after w payload s) w front_long (five-long delta p)

    accepted-mark : get_or (kept_words delta n p w payload s) held_at 0 ≡ 1
    unfolding kept_words five_of
    accepted-mark = mark-at (take accepted_at s) n (five_of delta p) (expected_after w s) (last_after w payload s) w front_long (five-long delta p)

    accepted-expected : expected_ok (track_of s) (kept_words delta n p w payload s) ≡ true
    unfolding kept_words five_of expected_ok expected_after
    accepted-expected =
        let a : expected_in (kept_words delta n p w payload s) ≡ expected_after w s = expected-at (take accepted_at s) n (five_of delta p) (expected_after w s) (last_after w payload s) w front_long (five-long delta p) in
        (λ j. same (a j) (expected_by (next_time (track_of s) (accepted-set j)))) ∙ same_self (expected_by (next_time (track_of s) w))

    -- what is kept of the last sample can be kept of it
    abbrev Fits : Type 0
    Fits = last_fits (track_of s) w (last_protected (track_of s) w payload) ≡ true

    accepted-last : Fits → last_ok (track_of s) (kept_words delta n p w payload s) ≡ true
    unfolding kept_words five_of last_ok last_after
    accepted-last h =
        let a : get_or (kept_words delta n p w payload s) last_at 0 ≡ last_after w payload s
        = last-at (take accepted_at s) n (five_of delta p) (expected_after w s) (last_after w payload s) w front_long (five-long delta p) in
        (λ j. last_fits (track_of s) (accepted-set j) (a j)) ∙ h

    accepted-reference : prft_in (five_of delta p) ≡ true → Fits → set_ok (track_of s) w ≡ true → reference_ok (track_of s) (kept_words delta n p w payload s) ≡ true
    unfolding reference_ok
    accepted-reference a f b =
        rw accepted-mark (both _ _ refl (both _ _ (accepted-prft ∙ a) (both _ _ accepted-expected (both _ _ (accepted-last f) (ap (set_ok (track_of s)) accepted-set ∙ b)))))

    -- it is lawful where the new set is, the count, the `prft` that is kept, and the last sample's protected bytes
    pub accepted-lawful : (side : Side) → is_open s ≡ true → Opened side s → accepted_ok side n ≡ true → (delta ≡ true → prft_ok s ≡ true)
        → (delta ≡ false → InRange p) → Fits → set_ok (track_of s) w ≡ true → lawful side (kept_words delta n p w payload s) ≡ true
    unfolding lawful open_ok is_open
    accepted-lawful side o h m a b f c =
        let z : eqb (get_or (kept_words delta n p w payload s) track_at 0) 0 ≡ false =
        ap (λ (k : ℕ). eqb k 0) accepted-open ∙ not-true _ o in
        let count : accepted_ok side (get_or (kept_words delta n p w payload s) accepted_at 0) ≡ true = ap (accepted_ok side) accepted-count ∙ m in
        let kept : reference_ok (track_of (kept_words delta n p w payload s)) (kept_words delta n p w payload s) ≡ true =
        ap (λ x. reference_ok (narrow x) (kept_words delta n p w payload s)) accepted-asked
        ∙ accepted-reference (five-ok delta p a b) f c in
        rw z (both _ _ (ap lawful_track accepted-asked ∙ h.track) (both _ _ count kept))

    -- the share before what is kept beside the set is renewed, and after it
    stored-with : stored_words delta n p w s ≡ take accepted_at s ++ (n ∷ reference_words (five_of delta p) (beside_words (expected_in s) (get_or s last_at 0)) w)
    unfolding stored_words five_of
    stored-with = ap (λ (l : List ℕ). kept_with l delta n p w s) three-words

    stored-set : drop set_at (stored_words delta n p w s) ≡ w
    stored-set = ap (drop set_at) stored-with ∙ set-at (take accepted_at s) n (five_of delta p) (expected_in s) (get_or s last_at 0) w front_long (five-long delta p)

    stored-asked : asked_of (stored_words delta n p w s) ≡ asked_of s
    unfolding stored_words
    stored-asked = front-asked _

    module _ (kept : List ℕ) (e : kept ≡ stored_words delta n p w s) where
      -- its track is still the same
      same_asked : asked_of kept ≡ asked_of s
      same_asked = ap asked_of e ∙ stored-asked

      -- it can be renewed
      pub renewable : length w ≡ set_len → Timed w → Summable w → Sized w payload → lawful_track (asked_of s) ≡ true → (t : Track) → t ≡ track_of s → lawful_set t w ≡ true
          → ((length kept ≡ share_len) × Timed (drop set_at kept))
          × ((Summable (drop set_at kept) × Sized (drop set_at kept) payload)
          × ((lawful_track (asked_of kept) ≡ true) × (lawful_set (track_of kept) (drop set_at kept) ≡ true)))
      renewable lw h k z v t u g =
          let q : w ≡ drop set_at kept = sym (ap (drop set_at) e ∙ stored-set) in
          let y : track_of kept ≡ t = ap narrow same_asked ∙ sym u in (
            (
              ap length (e ∙ stored-with) ∙ all-long (take accepted_at s) n (five_of delta p) (expected_in s) (get_or s last_at 0) w front_long (five-long delta p) lw,
              subst Timed q h,
            ),
            ((subst Summable q k, subst (λ (v : List ℕ). Sized v payload) q z), (ap lawful_track same_asked ∙ v, (λ j. lawful_set (y j) (sym q j)) ∙ g)),
          )

      -- and then all is kept
      pub all-kept : (after : List ℕ) → after ≡ renewed payload kept → after ≡ kept_words delta n p w payload s
      unfolding renewed kept_words expected_after last_after five_of front
      all-kept after h =
          let q : track_of kept ≡ track_of s = ap narrow same_asked in
          let a : take past_at kept ≡ take accepted_at s ++ (n ∷ 1 ∷ five_of delta p) =
          ap (take past_at) (e ∙ stored-with) ∙ front_at (take accepted_at s) n (five_of delta p) (expected_in s) (get_or s last_at 0) w front_long (five-long delta p) in
          let b : drop set_at kept ≡ w = ap (drop set_at) e ∙ stored-set in
          h
          ∙ (λ j. a j ++ (beside_words (expected_by (next_time (q j) (b j))) (last_protected (q j) (b j) payload) ++ b j))
          ∙ append_assoc (take accepted_at s) (n ∷ 1 ∷ five_of delta p) (beside_words (expected_by (next_time (track_of s) w)) (last_protected (track_of s) w payload) ++ w)

-- What the tests of a share's words come to. Assumes nothing.
use Prim.Native.Nat.{ℕ, ◌+◌, ◌-◌}
use native.Mathlib.Omega.{arith}
use mathlib.Core.Path.{◌≡◌, refl, sym, ◌∙◌, ap}
use mathlib.Core.Bool.{Bool, true, false, ◌&&◌, ◌||◌}
use mathlib.Core.List.{List, [], ◌∷◌, ◌++◌}
use borrow.Author.Tests.{eq-eqb, ne_eqb}
use lib.Dec.{eqb, leb}
use lib.ListN.{length, get_or, take, drop, length-drop, length-take}
use lib.Seq.{sets, sets-eq, slice}
use Rattle.laws.specs.Tests.{◌and◌, all_zero, all_bits}
use Rattle.laws.proofs.TestLaws.{and-false, bits-zero}
use Rattle.laws.proofs.SliceLaws.{slice-to-end}
use Rattle.track.specs.declared.Asked.{Asked}
use Rattle.track.specs.declared.Track.{Track}
use Rattle.track.specs.Track.{lawful as lawful_track, u32}
use Rattle.field_set.specs.Lawful.{lawful as lawful_set}
use Rattle.told_sizes.specs.Told.{sizes_agree}
use Rattle.effective.specs.declared.expected.Expected.{Expected}
use Rattle.effective.specs.Durations.{durations_of}
use Rattle.effective.specs.Expected.{expected_by, same}
use Rattle.counters.specs.Protected.{last_fits}
use Rattle.field_table.specs.Lines.{bmdt_at, set_len}
use Rattle.slots.specs.declared.lawful.Side.{Side}
use Rattle.share_words.specs.Share.{held_at, prft_at, ntp_at, media_time_at, version_at, prft_flags_at, prft_end, last_at, set_at, track_at, timescale_at, accepted_at, share_len}
use Rattle.slots.specs.Share.{u24, u62, asked_of, track_of, param_words, expected_in, accepted_ok, prft_ok, expected_ok, last_ok, set_ok, reference_ok, open_ok, lawful}

-- the words from a place to the end, folded
folded : (from : ℕ) (s : List ℕ) (b : ℕ) → length s ≡ share_len → b ≡ all_bits (slice from share_len s) → eqb b 0 ≡ all_zero (drop from s)
folded from s b l e = ap (λ (n : ℕ). eqb n 0) e ∙ bits-zero (slice from share_len s) ∙ ap all_zero (slice-to-end from share_len s l)

-- a list whose first word is 0
past_first : (s : List ℕ) → length s ≡ share_len → get_or s track_at 0 ≡ 0 → all_zero s ≡ all_zero (drop timescale_at s)
unfolding all_zero ◌and◌
past_first [] l e = absurd (omega arith)
past_first (x ∷ []) l e = rw (eq-eqb x 0 e)
past_first (x ∷ (y ∷ s)) l e = rw (eq-eqb x 0 e)

-- the kept prft: none, or one
pub no-prft : (s : List ℕ) (b : ℕ) → get_or s prft_at 0 ≡ 0 → b ≡ all_bits (slice ntp_at prft_end s) → eqb b 0 ≡ prft_ok s
unfolding prft_ok
no-prft s b e q = rw (eq-eqb _ _ e, q) (bits-zero (slice ntp_at prft_end s))

pub some-prft : (s : List ℕ) → (get_or s prft_at 0 ≡ 0 → ⊥)
    → (eqb (get_or s prft_at 0) 1
    && (leb (get_or s version_at 0) 1
    && ((eqb (get_or s version_at 0) 1 || leb (get_or s media_time_at 0) u32)
    && (leb (get_or s prft_flags_at 0) u24 && (leb (get_or s ntp_at 0) u62 && leb (get_or s media_time_at 0) u62)))))
    ≡ prft_ok s
unfolding prft_ok
some-prft s e = rw (ne_eqb _ _ e)

-- the set of the reference, as it is lent
abbrev pub lent : List ℕ → List ℕ
lent s = take (length s - set_at) (drop set_at s)

pub lent-long : (s : List ℕ) → length s ≡ share_len → length (lent s) ≡ set_len
lent-long s l = simp (length-take, length-drop) (omega (arith, l))

and-never : (b : Bool) → (b and false) ≡ false
unfolding ◌and◌
and-never true = refl
and-never false = refl

-- that set, and what is kept beside it
module _ (t : Track) (s w : List ℕ) (e : w ≡ drop set_at s) where
  -- it is not lawful
  pub set-unlawful : lawful_set t w ≡ false → false ≡ (expected_ok t s and last_ok t s and set_ok t (drop set_at s))
  unfolding set_ok
  set-unlawful h =
      let none : set_ok t (drop set_at s) ≡ false = and-false _ (ap (lawful_set t) (sym e) ∙ h) in
      sym (ap (λ (b : Bool). expected_ok t s and last_ok t s and b) none ∙ ap (λ (b : Bool). expected_ok t s and b) (and-never (last_ok t s)) ∙ and-never (expected_ok t s))

  -- its last sample can't have so many protected bytes
  pub last-unlawful : last_fits t w (get_or s last_at 0) ≡ false → false ≡ (expected_ok t s and last_ok t s and set_ok t (drop set_at s))
  unfolding last_ok ◌and◌
  last-unlawful h =
      let none : last_ok t s ≡ false = ap (λ (v : List ℕ). last_fits t v (get_or s last_at 0)) (sym e) ∙ h in
      sym (ap (λ (b : Bool). expected_ok t s and b and set_ok t (drop set_at s)) none ∙ and-never (expected_ok t s))

  -- what is kept as expected is compared with what is expected
  module _ (kept to-keep : Expected) (ek : kept ≡ expected_in s) (d : ℕ) (ed : d ≡ durations_of t w) (et : to-keep ≡ expected_by (get_or w bmdt_at 0 + d)) where
    compared : same kept to-keep ≡ expected_ok t s
    unfolding expected_ok
    compared = rw (ek, et, ed, e)

    pub expected-unlawful : same kept to-keep ≡ false → false ≡ (expected_ok t s and last_ok t s and set_ok t (drop set_at s))
    unfolding ◌and◌
    expected-unlawful h = rw (sym compared ∙ h)

    -- all is as it is to be, if the sizes agree
    pub set-lawful : lawful_set t w ≡ true → last_fits t w (get_or s last_at 0) ≡ true → same kept to-keep ≡ true → (q : Bool) → q ≡ sizes_agree t w
        → q ≡ (expected_ok t s and last_ok t s and set_ok t (drop set_at s))
    unfolding set_ok last_ok ◌and◌
    set-lawful h f p q eq =
        rw
        (sym compared ∙ p, ap (λ (v : List ℕ). last_fits t v (get_or s last_at 0)) (sym e) ∙ f, ap (lawful_set t) (sym e) ∙ h)
        (eq ∙ ap (sizes_agree t) e)

module _ (t : Track) (s : List ℕ) (l : length s ≡ share_len) where
  -- no reference is marked
  pub none-held : (b : ℕ) → get_or s held_at 0 ≡ 0 → b ≡ all_bits (slice prft_at share_len s) → eqb b 0 ≡ reference_ok t s
  unfolding reference_ok
  none-held b e q = rw (eq-eqb _ _ e) (folded prft_at s b l q)

  -- one is
  pub one-held : (p q : Bool) → (get_or s held_at 0 ≡ 0 → ⊥) → p ≡ prft_ok s → q ≡ (expected_ok t s and last_ok t s and set_ok t (drop set_at s))
      → (eqb (get_or s held_at 0) 1 && (p && q)) ≡ reference_ok t s
  unfolding reference_ok ◌and◌
  one-held p q e hp hq = rw (ne_eqb _ _ e, hp, hq)

module _ (side : Side) (s : List ℕ) (l : length s ≡ share_len) where
  -- a closed share
  pub closed : (b : ℕ) → get_or s track_at 0 ≡ 0 → b ≡ all_bits (slice timescale_at share_len s) → eqb b 0 ≡ lawful side s
  unfolding lawful
  closed b e q = rw (eq-eqb _ _ e) (folded timescale_at s b l q ∙ sym (past_first s l e))

  module _ (e : get_or s track_at 0 ≡ 0 → ⊥) where
    -- an open share of bad parameters
    pub bad-track : lawful_track (asked_of s) ≡ false → false ≡ lawful side s
    unfolding lawful open_ok ◌and◌
    bad-track h = rw (ne_eqb _ _ e, h)

    -- an open share of good ones
    pub good-track : (p q : Bool) → lawful_track (asked_of s) ≡ true → p ≡ accepted_ok side (get_or s accepted_at 0) → q ≡ reference_ok (track_of s) s → (p && q) ≡ lawful side s
    unfolding lawful open_ok ◌and◌
    good-track p q h hp hq = rw (ne_eqb _ _ e, h, hp, hq)

-- eight stores from the first word on
pub eight-stored : (s : List ℕ) (a : Asked) → length s ≡ share_len → sets s 0 (param_words a) ≡ param_words a ++ drop accepted_at s
eight-stored s a l = sets-eq (param_words a) s 0 (omega arith)

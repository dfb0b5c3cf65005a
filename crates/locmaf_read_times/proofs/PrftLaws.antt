-- Laws of the producer reference time: one number of it, and the ways out of code. Assumes nothing.
use Prim.Native.Nat.{ℕ, ◌-◌, ◌^◌}
use mathlib.Core.Path.{◌≡◌, refl, ◌∙◌, ap}
use mathlib.Core.Bool.{Bool, true, false, cond}
use mathlib.Core.List.{List, [], ◌∷◌}
use borrow.Author.Tests.{eq-eqb, ne_eqb}
use lib.ListN.{get_or}
use Rattle.locmaf_read_index.specs.Places.{stands_at, number_at}
use Rattle.wire.specs.declared.zigzag.Coding.{Coding}
use Rattle.field_rules.specs.Fields.{coding_for}
use Rattle.std.specs.Prelude.{Option, Some, None}
use Rattle.wire.specs.Zigzag.{reached}
use Rattle.media.specs.declared.clocks.TrackTicks.{TrackTicks}
use Rattle.media.specs.declared.clocks.NtpUnits.{NtpUnits}
use Rattle.media.specs.Clocks.{as_track, track_at, as_ntp, ntp_at as ntp_reached}
use Rattle.share_words.specs.Share.{ntp_at, media_time_at, version_at, prft_flags_at}
use Rattle.locmaf_read_said.specs.Said.{Says, scalar_in}
use Rattle.locmaf_read_times.specs.declared.prft.Told.{Told}
use Rattle.locmaf_read_times.specs.Prft.{number_of, number_for, told, no_prft, told_by, times_of, prft_of}
use Rattle.prft_value.specs.declared.Prft.{Prft}
use Rattle.prft_value.specs.Prft.{media_most}
use Rattle.laws.specs.Options.{on_option}

-- ---- one number

-- what the index says of a scalar: nothing, or its number
module _ (index : List ℕ) (id : ℕ) where
  pub scalar-none : get_or index (stands_at id) 0 ≡ 0 → scalar_in index id ≡ None
  unfolding scalar_in
  scalar-none e = rw (eq-eqb _ _ e)

  pub scalar-some : (get_or index (stands_at id) 0 ≡ 0 → ⊥) → scalar_in index id ≡ Some (get_or index (number_at id) 0 ∷ [])
  unfolding scalar_in
  scalar-some h = rw (ne_eqb _ _ h)

-- by what is read against what: b is what `base` gives
module _ (delta : Bool) (index : List ℕ) (id share plain bound : ℕ) (b : Coding × ℕ) (is : b ≡ (coding_for delta, cond delta share plain)) where
  pub number-kept : get_or index (stands_at id) 0 ≡ 0 → Some b.1 ≡ number_for delta (scalar_in index) id share plain bound
  unfolding number_for number_of
  number-kept e = rw (is, scalar-none index id e)

  pub number-sent : (get_or index (stands_at id) 0 ≡ 0 → ⊥) → (r : Option ℕ) → r ≡ reached b.0 b.1 bound (get_or index (number_at id) 0)
      → r ≡ number_for delta (scalar_in index) id share plain bound
  unfolding number_for number_of
  number-sent h r e = rw (scalar-some index id h) (rw is at e)

-- ---- a time on its own clock

module _ (delta : Bool) (index : List ℕ) (share : NtpUnits) (b : Coding × NtpUnits) (is : b ≡ (coding_for delta, cond delta share (record { 0 = 0 }))) where
  as-number : ◌≡◌ {A = Coding × ℕ} (b.0, b.1.0) (coding_for delta, cond delta share.0 0)
  as-number = rw is (go delta)
    where
      go : (d : Bool) → ◌≡◌ {A = Coding × ℕ} (coding_for d, (cond d share (record { 0 = 0 })).0) (coding_for d, cond d share.0 0)
      go true = refl
      go false = refl

  pub ntp-kept : get_or index (stands_at 18) 0 ≡ 0 → Some b.1 ≡ as_ntp (number_for delta (scalar_in index) 18 share.0 0 (2 ^ 64 - 1))
  ntp-kept e = ap as_ntp (number-kept delta index 18 share.0 0 (2 ^ 64 - 1) _ as-number e)

  pub ntp-sent : (get_or index (stands_at 18) 0 ≡ 0 → ⊥) → (r : Option NtpUnits) → r ≡ ntp_reached b.0 b.1.0 (get_or index (number_at 18) 0)
      → r ≡ as_ntp (number_for delta (scalar_in index) 18 share.0 0 (2 ^ 64 - 1))
  unfolding ntp_reached
  ntp-sent h r e = e ∙ ap as_ntp (number-sent delta index 18 share.0 0 (2 ^ 64 - 1) _ as-number h _ refl)

module _ (delta : Bool) (index : List ℕ) (share : TrackTicks) (b : Coding × TrackTicks) (is : b ≡ (coding_for delta, cond delta share (record { 0 = 0 }))) (bound : ℕ) where
  as-count : ◌≡◌ {A = Coding × ℕ} (b.0, b.1.0) (coding_for delta, cond delta share.0 0)
  as-count = rw is (go delta)
    where
      go : (d : Bool) → ◌≡◌ {A = Coding × ℕ} (coding_for d, (cond d share (record { 0 = 0 })).0) (coding_for d, cond d share.0 0)
      go true = refl
      go false = refl

  pub media-kept : get_or index (stands_at 20) 0 ≡ 0 → Some b.1 ≡ as_track (number_for delta (scalar_in index) 20 share.0 0 bound)
  media-kept e = ap as_track (number-kept delta index 20 share.0 0 bound _ as-count e)

  pub media-sent : (get_or index (stands_at 20) 0 ≡ 0 → ⊥) → (r : Option TrackTicks) → r ≡ track_at b.0 b.1.0 bound (get_or index (number_at 20) 0)
      → r ≡ as_track (number_for delta (scalar_in index) 20 share.0 0 bound)
  unfolding track_at
  media-sent h r e = e ∙ ap as_track (number-sent delta index 20 share.0 0 bound _ as-count h _ refl)

-- the most that a media time may be, by the version
module _ (version : ℕ) where
  pub most-32 : version ≡ 0 → 0xffff_ffff ≡ media_most version
  most-32 e = rw (eq-eqb _ _ e)

  pub most-64 : (version ≡ 0 → ⊥) → 0xffff_ffff_ffff_ffff ≡ media_most version
  most-64 h = rw (ne_eqb _ _ h)

-- ---- the whole

module _ (delta : Bool) (says : Says) (s : List ℕ) where
  -- id 18 is not sent, and it is
  pub prft-none : says 18 ≡ None → no_prft true ≡ prft_of delta says s
  unfolding prft_of
  prft-none e = rw e

  pub prft-some : (zs : List ℕ) → says 18 ≡ Some zs
      → prft_of delta says s
      ≡ on_option (number_for delta says 22 (get_or s version_at 0) 1 1)
      (λ version. on_option (number_for delta says 24 (get_or s prft_flags_at 0) 0 (2 ^ 24 - 1)) (times_of delta says s version) (no_prft false))
      (no_prft false)
  unfolding prft_of
  prft-some zs e = rw e

-- as code finds it: where there is none, and where its numbers are reached, one after the other
pub prft-without : (delta : Bool) (index s : List ℕ) → get_or index (stands_at 18) 0 ≡ 0 → (r : Told) → r ≡ no_prft true
    → r ≡ prft_of delta (scalar_in index) s
prft-without delta index s h r e = e ∙ prft-none delta (scalar_in index) s (scalar-none index 18 h)

module _ (delta : Bool) (says : Says) (s zs : List ℕ) (on : says 18 ≡ Some zs)
    (v : Option ℕ) (ev : v ≡ number_for delta says 22 (get_or s version_at 0) 1 1) where
  pub version-outside : (u : Option Prft) → v ≡ None → u ≡ None → told_by u ≡ prft_of delta says s
  version-outside u q d = rw (d, prft-some delta says s zs on, ← ev, q)

  module _ (version : ℕ) (to : v ≡ Some version) (f : Option ℕ) (ef : f ≡ number_for delta says 24 (get_or s prft_flags_at 0) 0 (2 ^ 24 - 1)) where
    pub flags-outside : (u : Option Prft) → f ≡ None → u ≡ None → told_by u ≡ prft_of delta says s
    flags-outside u q d = rw (d, prft-some delta says s zs on, ← ev, to, ← ef, q)

    module _ (flags : ℕ) (has : f ≡ Some flags) (n : Option NtpUnits) (en : n ≡ as_ntp (number_for delta says 18 (get_or s ntp_at 0) 0 (2 ^ 64 - 1))) where
      pub ntp-outside : (u : Option Prft) → n ≡ None → u ≡ None → told_by u ≡ prft_of delta says s
      unfolding times_of
      ntp-outside u q d = rw (d, prft-some delta says s zs on, ← ev, to, ← ef, has, ← en, q)

      module _ (ntp : NtpUnits) (at : n ≡ Some ntp) (most : ℕ) (em : most ≡ media_most version)
          (m : Option TrackTicks) (e : m ≡ as_track (number_for delta says 20 (get_or s media_time_at 0) 0 most)) where
        pub media-outside : (u : Option Prft) → m ≡ None → u ≡ None → told_by u ≡ prft_of delta says s
        unfolding times_of
        media-outside u q d = rw (d, prft-some delta says s zs on, ← ev, to, ← ef, has, ← en, at, ← em, ← e, q)

        pub prft-is : (media : TrackTicks) → m ≡ Some media → told ntp media version flags ≡ prft_of delta says s
        unfolding times_of
        prft-is media q = rw (prft-some delta says s zs on, ← ev, to, ← ef, has, ← en, at, ← em, ← e, q)

-- The producer reference time of an object. 01: "Id 23 from `styp`, 18 and 20 from `prft`, 22 unless 1, 24 unless 0", and in a delta "both 18 and
-- 20, zigzag, against the group's current full object, 22 and 24 if they differ from it; without the two, no box."
-- ==== The rules
use Rattle.std.specs.Prelude.{ℕ, ◌-◌, ◌^◌, Bool, true, false, List, [], ◌∷◌, get_or, Option, Some, None}
use Rattle.wire.specs.declared.zigzag.Coding.{Coding}
use Rattle.wire.specs.Zigzag.{reached}
use Rattle.media.specs.declared.clocks.NtpUnits.{NtpUnits}
use Rattle.media.specs.declared.clocks.TrackTicks.{TrackTicks}
use Rattle.media.specs.Clocks.{as_track, as_ntp}
use Rattle.prft_value.specs.declared.Prft.{Prft}
use Rattle.prft_value.specs.Prft.{absent_prft, media_most, kept_for}
use Rattle.share_words.specs.Share.{ntp_at, media_time_at, version_at, prft_flags_at}
use Rattle.locmaf_read_said.specs.Said.{Says}
use Rattle.field_rules.specs.Fields.{coding_for}
use Rattle.locmaf_read_times.specs.declared.prft.Told.{Told}
use Rattle.laws.specs.Options.{on_option}

-- the number of an id: as it is sent, plain or against the kept one; or the kept one
unfoldable pub number_of : Coding → Option (List ℕ) → ℕ → ℕ → Option ℕ
number_of coding None kept bound = Some kept
number_of coding (Some []) kept bound = Some kept
number_of coding (Some (z ∷ zs)) kept bound = reached coding kept bound z

abbrev pub told : NtpUnits → TrackTicks → ℕ → ℕ → Told
told ntp media version flags =
    record { ok = true; prft = record { stands = true; ntp = ntp; media = media; version = version; flags = flags } }

abbrev pub no_prft : Bool → Told
no_prft ok = record { ok = ok; prft = absent_prft }

-- the number of an id, by the kind of object
unfoldable pub number_for : Bool → Says → ℕ → ℕ → ℕ → ℕ → Option ℕ
number_for delta says id share plain bound = number_of (coding_for delta) (says id) (kept_for delta share plain) bound

-- the two times, each on its own clock, once version and flags are known (D57)
unfoldable pub times_of : Bool → Says → List ℕ → ℕ → ℕ → Told
times_of delta says s version flags =
    on_option (as_ntp (number_for delta says 18 (get_or s ntp_at 0) 0 (2 ^ 64 - 1)))
    (λ ntp.
    on_option (as_track (number_for delta says 20 (get_or s media_time_at 0) 0 (media_most version))) (λ media. told ntp media version flags) (no_prft false))
    (no_prft false)

-- 01: "id 22 is 0 or 1"; id 24 has the 24 bits of its box field (D109)
unfoldable pub prft_of : Bool → Says → List ℕ → Told
prft_of delta says s = whole (says 18)
  where
    whole : Option (List ℕ) → Told
    whole None = no_prft true
    whole (Some zs) =
        on_option (number_for delta says 22 (get_or s version_at 0) 1 1)
        (λ version. on_option (number_for delta says 24 (get_or s prft_flags_at 0) 0 (2 ^ 24 - 1)) (times_of delta says s version) (no_prft false))
        (no_prft false)

-- ==== What only mirrors the code

-- a `prft` that stands, or a refusal where a number of it is outside its range
abbrev pub told_by : Option Prft → Told
told_by (Some p) = record { ok = true; prft = p }
told_by None = no_prft false

-- When the words of a slot's share are lawful.
-- ==== The rules
use Rattle.std.specs.Prelude.{ℕ, ◌-◌, Bool, cond, not, ◌&&◌, ◌||◌, List, [], ◌∷◌, ◌++◌, eqb, leb, get_or, drop, replicate}
use Rattle.std.proofs.Math.Seq.{slice}
use Rattle.laws.specs.Tests.{◌and◌, all_zero}
use Rattle.constants.specs.Maxima.{number_most}
use Rattle.track.specs.declared.Asked.{Asked}
use Rattle.track.specs.declared.Track.{Track}
use Rattle.track.specs.Track.{narrow, u32, lawful as lawful_track}
use Rattle.field_set.specs.Lawful.{lawful as lawful_set}
use Rattle.told_sizes.specs.Told.{sizes_agree}
use Rattle.effective.specs.declared.expected.Expected.{Expected}
use Rattle.effective.specs.Expected.{next_time, expected_by, same}
use Rattle.counters.specs.Protected.{last_fits}
use Rattle.slots.specs.declared.lawful.Side.{Side}
use Rattle.slots.specs.declared.lawful.Side.TheVariants.{Encoder, Receiver}
use Rattle.share_words.specs.Share.{track_at, timescale_at, track_description_at, track_duration_at, track_size_at, track_flags_at, protection_at, track_iv_size_at}
use Rattle.share_words.specs.Share.{accepted_at, held_at, prft_at, ntp_at, media_time_at, version_at, prft_flags_at, prft_end, past_at, expected_at, last_at, set_at, share_len}

abbrev pub u24 : ℕ
u24 = 0xff_ffff

-- 01: "any number on the wire"
abbrev pub u62 : ℕ
u62 = number_most

abbrev pub asked : ℕ → ℕ → ℕ → ℕ → ℕ → ℕ → ℕ → ℕ → Asked
asked track timescale description duration size flags protection iv_size =
    record {
      track = track;
      timescale = timescale;
      description = description;
      duration = duration;
      size = size;
      flags = flags;
      protection = protection;
      iv_size = iv_size;
    }

-- the parameters that a share's words have
abbrev pub asked_of : List ℕ → Asked
asked_of s =
    asked (get_or s track_at 0) (get_or s timescale_at 0) (get_or s track_description_at 0) (get_or s track_duration_at 0) (get_or s track_size_at 0)
    (get_or s track_flags_at 0) (get_or s protection_at 0) (get_or s track_iv_size_at 0)

abbrev pub track_of : List ℕ → Track
track_of s = narrow (asked_of s)

-- the eight words of the parameters
abbrev pub param_words : Asked → List ℕ
param_words a = a.track ∷ a.timescale ∷ a.description ∷ a.duration ∷ a.size ∷ a.flags ∷ a.protection ∷ a.iv_size ∷ []

-- 01: "`mfhd` counts accepted objects since opening from 1, 0 following 2^32-1": in the receiver's share; the encoder's has no use for it (D8)
abbrev pub accepted_ok : Side → ℕ → Bool
accepted_ok Encoder n = eqb n 0
accepted_ok Receiver n = leb n u32

-- the `prft` kept with the reference: none, and then nothing is stored of it; or one whose fields keep their ranges, the media time having 32
-- bits in version 0. It is a full object's, and so its times came off the wire, or went on it, as they are (D12).
unfoldable pub prft_ok : List ℕ → Bool
prft_ok s =
    cond (eqb (get_or s prft_at 0) 0) (all_zero (slice ntp_at prft_end s))
    (eqb (get_or s prft_at 0) 1
    && (leb (get_or s version_at 0) 1
    && ((eqb (get_or s version_at 0) 1 || leb (get_or s media_time_at 0) u32)
    && (leb (get_or s prft_flags_at 0) u24
    && (leb (get_or s ntp_at 0) u62
    && leb (get_or s media_time_at 0) u62)))))

-- the set of the reference: a lawful one, whose sizes and subsamples agree as far as the words tell them
unfoldable pub set_ok : Track → List ℕ → Bool
set_ok t w = lawful_set t w and sizes_agree t w

-- the BMDT that is expected, as the words have it
abbrev pub expected_in : List ℕ → Expected
expected_in s = record { past = get_or s past_at 0; time = get_or s expected_at 0 }

-- 02, order 7: "Store the expected BMDT in each share, encoder's and receiver's: the sum it replaces wherever a reference is held ..; a sum past 2^64-1 is kept as a
-- mark from which no BMDT is derived. A share where it differs is unlawful, 18." (D147)
unfoldable pub expected_ok : Track → List ℕ → Bool
expected_ok t s = same (expected_in s) (expected_by (next_time t (drop set_at s)))

-- 02, order 6: "The last sample's protected bytes (..) join the reference in both shares, encoder's and receiver's .. A share where they aren't so is unlawful, 18." (D152)
unfoldable pub last_ok : Track → List ℕ → Bool
last_ok t s = last_fits t (drop set_at s) (get_or s last_at 0)

-- the reference: none, and then nothing is stored of it, nor is anything expected; or a lawful set with a lawful `prft`, what is expected behind it, and its last
-- sample's protected bytes (D11)
unfoldable pub reference_ok : Track → List ℕ → Bool
reference_ok t s =
    cond (eqb (get_or s held_at 0) 0) (all_zero (drop prft_at s))
    (eqb (get_or s held_at 0) 1 and prft_ok s and expected_ok t s and last_ok t s and set_ok t (drop set_at s))

-- the words of an open share
unfoldable pub open_ok : Side → List ℕ → Bool
open_ok side s = lawful_track (asked_of s) and accepted_ok side (get_or s accepted_at 0) and reference_ok (track_of s) s

-- a slot is open exactly where its track_ID is not 0 (D7)
unfoldable pub is_open : List ℕ → Bool
is_open s = not (eqb (get_or s track_at 0) 0)

-- 01: "All zeros is fresh"; "A share is lawful if its numbers keep this page's rules and every place not in use is 0." (D9)
unfoldable pub lawful : Side → List ℕ → Bool
lawful side s = cond (eqb (get_or s track_at 0) 0) (all_zero s) (open_ok side s)

-- a share that was just opened
unfoldable pub opened : Asked → List ℕ
opened a = param_words a ++ replicate (share_len - accepted_at) 0

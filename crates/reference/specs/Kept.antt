-- The words of the reference that is kept in a share.
use Rattle.std.specs.Prelude.{ℕ, Bool, true, cond, not, List, [], ◌∷◌, ◌++◌, take, drop}
use Rattle.std.proofs.Math.Seq.{slice}
use Rattle.effective.specs.declared.expected.Expected.{Expected}
use Rattle.effective.specs.Expected.{next_time, expected_by}
use Rattle.counters.specs.Protected.{last_protected}
use Rattle.share_words.specs.Share.{accepted_at, prft_at, prft_end, past_at, set_at}
use Rattle.slots.specs.Share.{track_of}
use Rattle.prft_value.specs.declared.Prft.{Prft}
use Rattle.reference.specs.declared.keep.Replaced.{Replaced}

-- ==== The rules

-- the words of a `prft` that a full object leaves
unfoldable pub prft_words : Prft → List ℕ
prft_words p = cond p.stands 1 0 ∷ p.ntp.0 ∷ p.media.0 ∷ p.version ∷ p.flags ∷ []

-- and those of what is kept of the set beside it: the BMDT that is expected behind it, and its last sample's protected bytes
abbrev pub beside_words : Expected → ℕ → List ℕ
beside_words e last = e.past ∷ e.time ∷ last ∷ []

-- 02, order 7: "Store the expected BMDT in each share ..: the sum it replaces wherever a reference is held": that of the new set alone, on the share's track (D147)
unfoldable pub expected_after : List ℕ → List ℕ → Expected
expected_after new_set s = expected_by (next_time (track_of s) new_set)

-- 02, order 6: "The last sample's protected bytes (..) join the reference in both shares": of the new set, with so many bytes of payload, on the share's track (D152)
unfoldable pub last_after : List ℕ → ℕ → List ℕ → ℕ
last_after new_set payload s = last_protected (track_of s) new_set payload

-- the words of a reference: its mark, those of its `prft`, those that are kept beside the set, and the set
abbrev pub reference_words : List ℕ → List ℕ → List ℕ → List ℕ
reference_words prft beside new_set = 1 ∷ (prft ++ (beside ++ new_set))

-- the share s after an accepted object, whatever is kept beside the set: the count, the reference, and with a full object its `prft`. 01: "The reference is the previous
-- accepted chunk's set of moof fields, not the last full's .., kept with the current full's `prft`." (D73, D87)
abbrev pub kept_with : List ℕ → Bool → ℕ → Prft → List ℕ → List ℕ → List ℕ
kept_with beside delta sequence prft new_set s =
    take accepted_at s ++ (sequence ∷ reference_words (cond delta (slice prft_at prft_end s) (prft_words prft)) beside new_set)

-- and with what is kept beside its set, whose payload has so many bytes
unfoldable pub kept_words : Bool → ℕ → Prft → List ℕ → ℕ → List ℕ → List ℕ
kept_words delta sequence prft new_set payload s =
    kept_with (beside_words (expected_after new_set s) (last_after new_set payload s)) delta sequence prft new_set s

-- ==== What only mirrors the code

-- what an accepted object replaces of the reference: the set always, and what is kept beside it; and the `prft` with a full object
abbrev pub replaced_by : Bool → Replaced
replaced_by delta = record { set = true; prft = not delta; beside = true }

-- the share before what is kept beside the set is renewed
unfoldable pub stored_words : Bool → ℕ → Prft → List ℕ → List ℕ → List ℕ
stored_words delta sequence prft new_set s = kept_with (slice past_at set_at s) delta sequence prft new_set s

-- and the renewal, by the share's own track and set
unfoldable pub renewed : ℕ → List ℕ → List ℕ
renewed payload s =
    take past_at s
    ++ (beside_words (expected_by (next_time (track_of s) (drop set_at s))) (last_protected (track_of s) (drop set_at s) payload) ++ drop set_at s)

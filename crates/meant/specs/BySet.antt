-- The meaning of a chunk by what an object says of it: its set, `prft`, events, brands and payload. That this is the meaning of every chunk that no rule
-- refuses is a theorem.
-- ==== What only proofs need
use Rattle.std.specs.Prelude.{ℕ, zero, suc, ◌+◌, ◌*◌, ◌/◌, ◌≡◌, true, cond, ◌&&◌, ◌||◌, List, [], ◌∷◌, ◌++◌, eqb, pos, ◌-ℤ◌, length, get_or, take, drop, Option, Some, None}
use Rattle.laws.specs.Bytes.{be}
use Rattle.laws.specs.Tests.{all_le}
use Rattle.laws.specs.Ladder.{Hold}
use Rattle.media.specs.Flags.{wide_of}
use Rattle.track.specs.declared.Track.{Track}
use Rattle.track.specs.Track.{iv_ok}
use Rattle.field_table.specs.Lines.{bmdt_at}
use Rattle.field_set.specs.Lawful.{has, value_at, count_in}
use Rattle.boxes.specs.Box.{when, flag_when}
use Rattle.cmaf_write_senc.specs.Protected.{iv_bytes}
use Rattle.prft_value.specs.declared.Prft.{Prft}
use Rattle.event_value.specs.Events.{Event}
use Rattle.effective.specs.Sizes.{size_of}
use Rattle.cmaf_read_chunk.specs.Accepted.{prft, brands, boxes, payload, fields, accept_rungs}
use Rattle.meaning.specs.Meaning.{Subsample, Protection, Sample, Meaning, meaning_of}
use Rattle.cmaf_read_facts.specs.Given.{F}

-- k subsamples from the number j on
unfoldable pub pairs_by : List ℕ → ℕ → ℕ → List Subsample
pairs_by w zero j = []
pairs_by w (suc k) j = record { clear = value_at 13 j w; protected = value_at 15 j w } ∷ pairs_by w k (suc j)

-- how the sample with the number i is protected, where it is, by an IV of so many bytes; the first of its subsamples has the number j
unfoldable pub entry_by : List ℕ → ℕ → ℕ → ℕ → Protection
entry_by w bytes i j =
    record {
      iv = when (has 9 w) (iv_bytes w (bytes / 8) (i * (bytes / 8)));
      map = cond (has 11 w) (Some (pairs_by w (value_at 11 i w) j)) None;
    }

module _ (t : Track) (w : List ℕ) (n : ℕ) where
  -- that sample, with n bytes of payload
  unfoldable pub sample_by : ℕ → ℕ → Sample
  sample_by i j =
      record {
        size = size_of t w n i;
        duration = cond (has 3 w) (value_at 3 i w) (cond (has 4 w) (value_at 4 0 w) t.duration);
        offset = cond (has 5 w) (pos (value_at 5 i w) -ℤ pos 0x8000_0000) (pos 0);
        flags =
            wide_of
            (cond (eqb i 0 && has 12 w) (value_at 12 0 w)
            (cond (has 7 w) (value_at 7 i w) (cond (has 8 w) (value_at 8 0 w) t.flags)));
        protection = cond (has 9 w || has 11 w) (Some (entry_by w t.iv_size i j)) None;
      }

  -- k samples from the number i on
  unfoldable pub samples_by : ℕ → ℕ → ℕ → List Sample
  samples_by zero i j = []
  samples_by (suc k) i j = sample_by i j ∷ samples_by k (suc i) (j + flag_when (has 11 w) (value_at 11 i w))

-- what stands in a `styp`, by its brands
unfoldable pub styp_by : List ℕ → Option (List ℕ)
styp_by [] = None
styp_by (b ∷ bs) = Some (take 4 (b ∷ bs) ++ (be 4 0 ++ drop 4 (b ∷ bs)))

-- all of it
unfoldable pub meaning_by : Track → List ℕ → Prft → List Event → List ℕ → List ℕ → Meaning
meaning_by t w p events brands payload =
    record {
      bmdt = get_or w bmdt_at 0;
      description = cond (has 2 w) (value_at 2 0 w) t.description;
      samples = samples_by t w (length payload) (count_in w) 0 0;
      prft = p;
      events = events;
      brands = styp_by brands;
      payload = payload;
    }

-- the meaning of any chunk that no rule refuses is a function of that
abbrev pub MeansBySet : Type 0
MeansBySet = (t : Track) (c : List ℕ) → all_le 255 c ≡ true → iv_ok t.protection t.iv_size ≡ true → Hold (accept_rungs F t c)
    → meaning_of t c ≡ meaning_by t (fields t c) (prft c) (boxes c) (brands c) (payload c)

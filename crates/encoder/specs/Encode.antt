-- One chunk, by 01's order of answers.
-- ==== The rules
use Rattle.std.specs.Prelude.{ℕ, Bool, not, List, [], ◌∷◌, ◌++◌, eqb, leb, length, get_or, drop}
use Rattle.laws.specs.Ladder.{Rung, ◌else◌, ladder}
use Rattle.wire.specs.declared.form.Row.{Row}
use Rattle.slots.specs.declared.lawful.Side.TheVariants.{Encoder}
use Rattle.share_words.specs.Share.{accepted_at}
use Rattle.slots.specs.Table.{Out, out}
use Rattle.slots.specs.Calls.{opened_rungs}
use Rattle.answers.specs.Took.{Took, took, refused}
use Rattle.reference.specs.Kept.{kept_words}
use Rattle.cmaf_read_chunk.specs.Accepted.{prft, payload, fields, accept_rungs}
use Rattle.encoder.specs.Object.{track, gives_delta, fits_ok, front}

-- the wish 0 is for a full object, any other for a delta (D55)
abbrev pub wished : ℕ → Bool
wished wish = not (eqb wish 0)

-- 01: "every other refusal changes nothing, in the encoder too" (D74)
abbrev pub refusing : List ℕ → List ℕ → ℕ → Out Took
refusing output s k = out (refused output k) s

module _ (F : List Row) (wish : Bool) (c output s : List ℕ) where
  -- 01: "9, 17"; 17: "output shorter than the front" (D63, D119)
  unfoldable pub last_rungs : List Rung
  last_rungs = (fits_ok F s c wish else 9) ∷ (leb (length (front F s c wish)) (length output) else 17) ∷ []

  -- 01: "Then the encoder: 5, 6, 8, 7, 9, 17"
  unfoldable pub chunk_rungs : List Rung
  chunk_rungs = accept_rungs F (track F s c) c ++ last_rungs

  -- 01's order line from the share on: 18, 2, then the encoder's
  unfoldable pub encode_rungs : List Rung
  encode_rungs = opened_rungs Encoder s ++ chunk_rungs

  -- 01: "The reference is the previous accepted chunk's set of moof fields, .. kept with the current full's `prft`." (D73)
  unfoldable pub kept : List ℕ
  kept = kept_words (gives_delta F s c wish) (get_or s accepted_at 0) (prft c) (fields (track F s c) c) (length (payload c)) s

  -- 01: "The output holds the front: .. all of an object before the payload. Done reports the front's length; bytes past it stay."
  abbrev pub done : Out Took
  done = out (took 0 (length (front F s c wish)) (payload c) (front F s c wish ++ drop (length (front F s c wish)) output)) kept

  unfoldable pub encoding : Out Took
  encoding = ladder encode_rungs (refusing output s) done

-- ==== What only mirrors the code

module _ (F : List Row) (wish : Bool) (c output s : List ℕ) where
  -- from a place of the order on: of a chunk on an open share, and of one that was accepted
  abbrev pub on_open : Out Took
  on_open = ladder (chunk_rungs F wish c output s) (refusing output s) (done F wish c output s)

  abbrev pub on_accepted : Out Took
  on_accepted = ladder (last_rungs F wish c output s) (refusing output s) (done F wish c output s)

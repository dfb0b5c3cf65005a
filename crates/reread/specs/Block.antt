-- What the block of a chunk's object says of each id: the chunk c on the share s, as a delta or in full.
-- ==== What only proofs need
use Rattle.std.specs.Prelude.{ℕ, Bool, cond, not, ◌&&◌, List, [], ◌∷◌, eqb, leb, length, get_or, drop, Option, Some, None}
use Rattle.constants.specs.Ids.{id_count}
use Rattle.wire.specs.Zigzag.{wire_of}
use Rattle.block_items.specs.Events.{Event, enc_events}
use Rattle.track.specs.declared.Track.{Track}
use Rattle.field_table.specs.Lines.{lines, line_for, bmdt_at, count_at}
use Rattle.share_words.specs.Share.{ntp_at, media_time_at, version_at, prft_flags_at, set_at}
use Rattle.slots.specs.Share.{track_of}
use Rattle.locmaf_read_said.specs.Said.{Says}
use Rattle.field_rules.specs.Fields.{coding_for}
use Rattle.locmaf_read_said.specs.Deletions.{moof_field}
use Rattle.prft_value.specs.Prft.{kept_for}
use Rattle.cmaf_read_chunk.specs.Accepted.{prft, brands, events, fields}
use Rattle.locmaf_write_block.specs.Fields.{gone_of, bmdt_stands, count_stands}
use Rattle.encoder.specs.Object.{leaves_out}
use Rattle.cmaf_read_facts.specs.Given.{F}
use Rattle.reread.specs.Sayings.{line_says}

-- numbers that stand under a condition
abbrev pub said_if : Bool → List ℕ → Option (List ℕ)
said_if b zs = cond b (Some zs) None

-- the records of events, where there are any
abbrev pub event_says : List Event → Option (List ℕ)
event_says [] = None
event_says (e ∷ es) = Some (enc_events F (e ∷ es))

module _ (s c : List ℕ) (delta : Bool) where
  abbrev t : Track
  t = track_of s

  abbrev r : List ℕ
  r = drop set_at s

  abbrev x : List ℕ
  x = fields t c

  -- the ids that are deleted
  abbrev gone : List ℕ
  gone = gone_of t delta (leaves_out F s c delta) r x lines

  -- a number against the one that was
  abbrev against : ℕ → ℕ → List ℕ
  against old new = wire_of (coding_for delta) old new ∷ []

  -- a number of the `prft` that stands unless it is the usual one
  abbrev unless : ℕ → ℕ → Option (List ℕ)
  unless usual v = said_if ((prft c).stands && not (eqb v usual)) (against usual v)

  unfoldable pub block_says : Says
  block_says id =
      cond (moof_field id) (line_says t delta (leaves_out F s c delta) r x (line_for id lines))
      (cond (leb id_count id) None
      (cond (eqb id 10) (said_if (bmdt_stands t delta r x) (get_or x bmdt_at 0 ∷ []))
      (cond (eqb id 14) (said_if (count_stands delta r x) (against (get_or r count_at 0) (get_or x count_at 0)))
      (cond (eqb id 18) (said_if (prft c).stands (against (get_or s ntp_at 0) (prft c).ntp.0))
      (cond (eqb id 20) (said_if (prft c).stands (against (get_or s media_time_at 0) (prft c).media.0))
      (cond (eqb id 22) (unless (kept_for delta (get_or s version_at 0) 1) (prft c).version)
      (cond (eqb id 23) (said_if (not delta && not (eqb (length (brands c)) 0)) (brands c))
      (cond (eqb id 24) (unless (kept_for delta (get_or s prft_flags_at 0) 0) (prft c).flags)
      (cond (eqb id 25) (event_says (events t c))
      (cond (eqb id 27) (said_if (not (eqb (length gone) 0)) gone)
      None))))))))))

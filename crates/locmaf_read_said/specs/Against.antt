-- What an object is read against: a delta against the reference's fields and their lengths, a full object against nothing.
-- ==== What only mirrors the code
use Rattle.std.specs.Prelude.{ℕ, Bool, List}
use Rattle.track.specs.declared.Track.{Track}
use Rattle.locmaf_read_said.specs.declared.against.Against.{Against}
use Rattle.field_rules.specs.Fields.{coding_for}
use Rattle.field_rules.specs.Words.{was_of}

abbrev pub against_of : Track → Bool → List ℕ → Against
against_of t delta r = record { coding = coding_for delta; held = delta; was = was_of t delta r }

-- 02, order 9: "`senc` carries no size of its own; the track's parameter cuts its IVs". By the meaning of the boxes, not by way of the set.
-- ==== What is shown of the rules
use Rattle.std.specs.Prelude.{ℕ, ◌≡◌, true, List, length, Option, Some, None}
use Rattle.laws.specs.Tests.{all_le}
use Rattle.laws.specs.Each.{AllOf}
use Rattle.laws.specs.Ladder.{Hold}
use Rattle.track.specs.declared.Track.{Track}
use Rattle.track.specs.Track.{iv_ok}
use Rattle.cmaf_read_chunk.specs.Accepted.{accept_rungs}
use Rattle.meaning.specs.Meaning.{Protection, meaning_of}
use Rattle.cmaf_read_facts.specs.Given.{F}

-- a sample that is protected has an IV of as many bytes as the parameter says
abbrev pub SizedIv : Track → Option Protection → Type 0
SizedIv t None = Unit {0}
SizedIv t (Some p) = length p.iv ≡ t.iv_size

-- so it is with every sample of a chunk that no rule refuses
abbrev pub IvsSized : Type 0
IvsSized = (t : Track) (c : List ℕ) → all_le 255 c ≡ true → iv_ok t.protection t.iv_size ≡ true → Hold (accept_rungs F t c)
    → AllOf (λ s. SizedIv t s.protection) (meaning_of t c).samples

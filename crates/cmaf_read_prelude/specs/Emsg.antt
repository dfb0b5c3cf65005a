-- The `emsg` boxes of a chunk, one after another, and the words of their events.
use Rattle.std.specs.Prelude.{ℕ, zero, suc, ◌+◌, ◌-◌, ◌*◌, Bool, true, cond, List, [], ◌∷◌, ◌++◌, eqb, leb, ltb, length, drop}
use Rattle.std.proofs.Math.Seq.{slice}
use Rattle.laws.specs.Tests.{◌and◌}
use Rattle.boxes.specs.Box.{emsg}
use Rattle.event_value.specs.Events.{event_words}
use Rattle.cmaf_read_shape.specs.Words.{word_of}
use Rattle.byte_parts.specs.declared.Part.{Part}
use Rattle.cmaf_read_shape.specs.Parts.{end_of, box_at}
use Rattle.cmaf_read_tree.specs.Numbers.{u32, u64}

-- ==== The rules

-- how many bytes stand before the first zero byte; all, where there is none
unfoldable pub before_zero : List ℕ → ℕ
before_zero [] = 0
before_zero (x ∷ xs) = cond (eqb x 0) 0 (suc (before_zero xs))

-- the place of the first zero byte from a place on, before another; where there is none, the other, or the place itself if that is past it
unfoldable pub zero_from : List ℕ → ℕ → ℕ → ℕ
zero_from c from to = from + before_zero (slice from to c)

-- the scheme starts after the fixed fields, and the value after the scheme's end zero
abbrev pub scheme_at : Part → ℕ
scheme_at b = b.at + 32

unfoldable pub scheme_end : List ℕ → Part → ℕ
scheme_end c b = zero_from c (scheme_at b) (end_of b)

unfoldable pub value_end : List ℕ → Part → ℕ
value_end c b = zero_from c (scheme_end c b + 1) (end_of b)

-- 01: "`emsg`: version 1, flags 0", a word; "box lengths, an `emsg` string without its end zero .. are 6". The message may be empty (D36).
unfoldable pub emsg_ok : List ℕ → Part → Bool
emsg_ok c b = leb 32 b.len and ltb (scheme_end c b) (end_of b) and ltb (value_end c b) (end_of b) and eqb (word_of c b) 0x100_0000

-- the `emsg` at a place of the top
abbrev pub emsg_at : List ℕ → ℕ → Part
emsg_at c at = box_at c at (length c) emsg

-- k of them from the place on
unfoldable pub emsgs_ok : List ℕ → ℕ → ℕ → Bool
emsgs_ok c zero at = true
emsgs_ok c (suc k) at = emsg_ok c (emsg_at c at) and emsgs_ok c k (end_of (emsg_at c at))

-- an event's ten words, in the order of their places: place and length of scheme and value; timescale, presentation time, duration and id; place and length of the message
unfoldable pub box_words : List ℕ → Part → List ℕ
box_words c b =
    scheme_at b
    ∷ (scheme_end c b - scheme_at b)
    ∷ (scheme_end c b + 1)
    ∷ (value_end c b - (scheme_end c b + 1))
    ∷ u32 c (b.at + 12)
    ∷ u64 c (b.at + 16)
    ∷ u32 c (b.at + 24)
    ∷ u32 c (b.at + 28)
    ∷ (value_end c b + 1)
    ∷ (end_of b - (value_end c b + 1))
    ∷ []

-- the words of the events of k boxes from the place on
unfoldable pub emsg_words : List ℕ → ℕ → ℕ → List ℕ
emsg_words c zero at = []
emsg_words c (suc k) at = box_words c (emsg_at c at) ++ emsg_words c k (end_of (emsg_at c at))

-- ==== What only mirrors the code

-- words that these are stored in, from the first on: those of the event with the number i stand at event_words * i
unfoldable pub kept_events : List ℕ → ℕ → ℕ → List ℕ → List ℕ
kept_events c k at ws = emsg_words c k at ++ drop (event_words * k) ws

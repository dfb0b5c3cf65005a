-- What is to be shown of the words of a reference.
-- ==== What is shown of the rules
use Rattle.std.specs.Prelude.{ℕ, ◌≡◌, true, List, length, get_or, drop}
use Rattle.effective.specs.Expected.{next_time}
use Rattle.share_words.specs.Share.{held_at, past_at, expected_at, set_at, share_len}
use Rattle.slots.specs.declared.lawful.Side.{Side}
use Rattle.slots.specs.Share.{track_of, lawful}

-- 02, order 7: "the sum it replaces wherever a reference is held, else 0; a sum past 2^64-1 is kept as a mark from which no BMDT is derived". A lawful share has that sum and
-- never the mark, since its BMDT has 62 bits: a form of varints with 64 bits will have both
pub record Expects (s : List ℕ) : Type 0 where
  pub unmarked : get_or s past_at 0 ≡ 0
  pub held : get_or s held_at 0 ≡ 1 → get_or s expected_at 0 ≡ next_time (track_of s) (drop set_at s)
  pub none : get_or s held_at 0 ≡ 0 → get_or s expected_at 0 ≡ 0

abbrev pub ShareExpects : Type 0
ShareExpects = (side : Side) (s : List ℕ) → length s ≡ share_len → lawful side s ≡ true → Expects s

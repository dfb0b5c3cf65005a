-- The receiver of an incident. One line was left out of it, "the one that throws the old reference away when a full object comes in mid-group", and so "a stale
-- first-sample flag stayed alive".
-- ==== What is shown of the rules
use Rattle.std.specs.Prelude.{ℕ, ◌+◌, cond, not, ◌&&◌, List, ◌++◌, eqb, get_or, take, drop}
use Rattle.std.proofs.Math.Seq.{slice}
use Rattle.field_table.specs.Lines.{lines, line_for}
use Rattle.share_words.specs.Share.{set_at}
use Rattle.slots.specs.Table.{Out, out}
use Rattle.answers.specs.Took.{Took}
use Rattle.receiver.specs.Object.{is_delta}
use Rattle.receiver.specs.Receive.{receiving}
use Rattle.cmaf_read_facts.specs.Given.{F}

-- where the first sample's flags (id 12) stand in a share: a mark, and the value
unfoldable pub flags_at : ℕ
flags_at = set_at + (line_for 12 lines).place

-- the words w with the old ones of this field
abbrev pub alive : List ℕ → List ℕ → List ℕ
alive s w = take flags_at w ++ (slice flags_at (flags_at + 2) s ++ drop (flags_at + 2) w)

-- right in all else: an accepted full object leaves this one field of the old reference, where it stands there
abbrev pub stale_flag : (object room share : List ℕ) → Out Took
stale_flag o room s =
    let x : Out Took = receiving F o room s in
    cond (eqb x.answer.number 0 && (not (is_delta F o) && eqb (get_or s flags_at 0) 1)) (out x.answer (alive s x.words)) x

-- `locmaf_read_set::read::take_fields` meets its contract: where no field is sent and none stood, what is asked is all that is left of the
-- rules.
use mathlib.Core.Path.{sym, ◌∙◌}
use Rattle.laws.proofs.TestLaws.{both_of}
use Rattle.locmaf_read_set.proofs.BareLaws.{bare-read}
use Rattle.locmaf_read_set.proofs.read.take_fields.Goals as goal

pub none_sent-requires : goal.none_sent-requires
none_sent-requires c = c.requires.readable.marked.words

pub none_stands-requires : goal.none_stands-requires
none_stands-requires c = c.requires.readable.words

pub bare_rules-requires : goal.bare_rules-requires
bare_rules-requires c = c.requires.readable.marked.words

-- no field is sent, and none stood
pub returns-then-none_sent-a : goal.returns-then-none_sent-a
returns-then-none_sent-a c =
    let p = c.requires in
    let q = both_of _ _ c.if-none_sent-a.true in
    bare-read _ _ _ _ _ _ _ p.readable _ p.n_le_samples_most.1 (sym c.none_sent.ensures ∙ q.0) (rw c.none_stands.ensures at q.1) _ p.n_le_samples_most.2 _ c.bare_rules.ensures

pub take_standing-requires : goal.take_standing-requires
take_standing-requires c = record { readable = c.requires.readable; n_le_samples_most = c.requires.n_le_samples_most }

pub returns : goal.returns
returns c = c.take_standing.ensures

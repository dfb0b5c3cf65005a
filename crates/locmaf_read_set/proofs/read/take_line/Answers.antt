-- `locmaf_read_set::read::take_line` meets its contract, by the laws of `proofs/ReadableLaws.antt`.
use mathlib.Core.Path.{ap}
use Rattle.field_table.specs.declared.lines.Line.{Line}
use Rattle.locmaf_read_set.proofs.LeafLaws.{line-id}
use Rattle.locmaf_read_set.proofs.ReadableLaws.{lent-line, lent-word, line_taken}
use Rattle.locmaf_read_set.proofs.read.take_line.Goals as goal

pub word_of-word-requires : goal.word_of-word-requires
word_of-word-requires c =
    let p = c.requires in
    (line-id _ p.measured.1 _ (ap (λ (l : Line). l.id) c.line_at-l.ensures), p.readable.marked.words, p.readable.marked.gone-words)

pub take-requires : goal.take-requires
take-requires c =
    let p = c.requires in
    let el = c.line_at-l.ensures in record { takeable = lent-line _ _ _ _ _ _ _ p.readable _ p.measured.1 _ el _ _ p.measured.0 p.measured.2; spans = lent-word _ _ _ _ _ _ _ p.readable _ p.measured.1 _ el _ c.word_of-word.ensures }

pub shape_of-x : goal.shape_of-x
shape_of-x c = c.take.ensures.long

pub returns : goal.returns
returns c =
    let p = c.requires in
    line_taken _ _ _ _ _ _ _ p.readable _ p.measured.1 _ c.line_at-l.ensures _ c.word_of-word.ensures _ p.measured.0 _ _ _ c.take.ensures

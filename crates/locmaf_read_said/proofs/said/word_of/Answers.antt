-- `locmaf_read_said::said::word_of` meets its contract, by the words of the id.
use Rattle.locmaf_read_said.proofs.SaidLaws.{word-sent, word-deleted, word-omitted}
use Rattle.locmaf_read_said.proofs.said.word_of.Goals as goal

pub returns-then-mark-ne0 : goal.returns-then-mark-ne0
returns-then-mark-ne0 c = word-sent _ _ _ c.if-mark-ne0.true

pub returns-then-gone-id-ne0 : goal.returns-then-gone-id-ne0
returns-then-gone-id-ne0 c = word-deleted _ _ _ c.if-mark-ne0.false c.if-gone-id-ne0.true

pub returns : goal.returns
returns c = word-omitted _ _ _ c.if-mark-ne0.false c.if-gone-id-ne0.false

-- `locmaf_read_block::tuples::kind_of` meets its contract: its tests are those of the definition.
use borrow.Author.Tests.{eq-eqb, ne_eqb}
use Rattle.locmaf_read_block.specs.Tuples.{kind_of}
use Rattle.locmaf_read_block.proofs.tuples.kind_of.Goals as goal

pub returns-then-id-eq0 : goal.returns-then-id-eq0
unfolding kind_of
returns-then-id-eq0 c = rw (eq-eqb _ _ c.if-id-eq0.true)

pub returns-then-id-eq-EVENTS : goal.returns-then-id-eq-EVENTS
unfolding kind_of
returns-then-id-eq-EVENTS c = rw (ne_eqb _ _ c.if-id-eq0.false, eq-eqb _ _ c.if-id-eq-EVENTS.true)

pub returns-then-id : goal.returns-then-id
unfolding kind_of
returns-then-id c = rw (ne_eqb _ _ c.if-id-eq0.false, ne_eqb _ _ c.if-id-eq-EVENTS.false, c.if-id.true)

pub returns : goal.returns
unfolding kind_of
returns c = rw (ne_eqb _ _ c.if-id-eq0.false, ne_eqb _ _ c.if-id-eq-EVENTS.false, c.if-id.false)

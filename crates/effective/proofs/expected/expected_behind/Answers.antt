-- `effective::expected::expected_behind` meets its contract: BMDT and the durations of one set.
use Rattle.effective.proofs.expected.expected_behind.Goals as goal

pub returns : goal.returns
returns c = rw c.durations.ensures at c.expected_by.ensures

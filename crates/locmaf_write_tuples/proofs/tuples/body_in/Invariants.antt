-- `locmaf_write_tuples::tuples::body_in` meets its contract: no body that takes so many bytes has more than n, and in the end it has n.
use Rattle.locmaf_write_tuples.proofs.TupleLaws.{Above}
use Rattle.locmaf_write_tuples.proofs.tuples.body_in.Given as goal

abbrev pub invariant-loop-n : goal.invariant-loop-n
invariant-loop-n l = Above l.form l.m l.n

abbrev pub decreases-loop-n : goal.decreases-loop-n
decreases-loop-n l = l.n

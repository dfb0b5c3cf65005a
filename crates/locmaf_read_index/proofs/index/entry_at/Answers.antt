-- `locmaf_read_index::index::entry_at` meets its contract: a tuple, and then its count.
use mathlib.Core.Path.{sym}
use Rattle.locmaf_read_block.proofs.TupleRuns.{took}
use Rattle.locmaf_read_index.specs.Index.{entry_at, heard_at}
use Rattle.locmaf_read_index.proofs.IndexLoop.{lends}
use Rattle.locmaf_read_index.proofs.index.entry_at.Goals as goal

pub returns-in_err-t : goal.returns-in_err-t
unfolding entry_at heard_at
returns-in_err-t c = let q = sym c.in_err-t.ensures in (rw (c.from_residual.ensures, q), rw q)

pub weigh-requires : goal.weigh-requires
weigh-requires c = let p = c.requires in lends _ _ _ _ _ p _ _ (took _ _ _ _ _ _ p.inside p.some c.in_ok-t.ensures)

pub returns-in_err-count : goal.returns-in_err-count
unfolding entry_at heard_at
returns-in_err-count c =
    let q = sym c.in_ok-t.ensures in
    let w = c.in_err-count.ensures in
    (rw (c.from_residual-in_err-count.ensures, q, sym w.0), rw q w.1)

pub returns : goal.returns
unfolding entry_at heard_at
returns c =
    let q = sym c.in_ok-t.ensures in
    let w = c.in_ok-count.ensures in
    (rw (q, sym w.0), rw q w.1)

use native.Mathlib.Omega.{arith}
use Rattle.cmaf_read_set.proofs.EntryWalk.{walk_start, walk-head, walk_here, walk-pairs, walk-fits, walk-next, walk_end}
use mathlib.Core.Path.{sym, ◌∙◌}
use borrow.Author.Rules.{rules}
use Rattle.cmaf_read_set.proofs.entries.put_entries.Goals as goal

pub loop-i-init : goal.loop-i-init
loop-i-init c = walk_start _ _ _ c.requires.count_le_samples_most c.requires.x_len

pub pairs_at-k-requires : goal.pairs_at-k-requires
pairs_at-k-requires c = walk-head c.loop-i.invariant c.loop-i-test.true

pub put_entry-requires : goal.put_entry-requires
put_entry-requires c =
    let k = c.pairs_at-k.ensures.0 in
    let g = c.loop-i.invariant in
    let h = c.loop-i-test.true in
    record { k_value = (k, walk_here g h); i_lt_samples_most = (omega (arith, h, g.many), walk-pairs g h k, g.iv, g.long) }

pub map_length-requires : goal.map_length-requires
map_length-requires c = c.pairs_at-k.ensures.1

pub overflow_add-p : goal.overflow_add-p
overflow_add-p c =
    let g = c.loop-i.invariant in
    let t = c.loop-i-test.true in
    let k = c.pairs_at-k.ensures.0 in
    let h = walk-fits g t k c.map_length.ensures in
    search rules

pub overflow_add-p-in-loop-i : goal.overflow_add-p-in-loop-i
overflow_add-p-in-loop-i c =
    let g = c.loop-i.invariant in
    let t = c.loop-i-test.true in
    let k = c.pairs_at-k.ensures.0 in
    let h = walk-fits g t k c.map_length.ensures in
    search rules

pub overflow_add-j : goal.overflow_add-j
overflow_add-j c =
    let g = c.loop-i.invariant in
    let t = c.loop-i-test.true in
    let k = c.pairs_at-k.ensures.0 in
    let h = walk-pairs g t k in
    omega (arith, h)

pub loop-i-preserved : goal.loop-i-preserved
loop-i-preserved c =
    let g = c.loop-i.invariant in
    let t = c.loop-i-test.true in
    let k = c.pairs_at-k.ensures.0 in
    walk-next g t _ _ _ k c.map_length.ensures c.put_entry.ensures

pub shape_of-x : goal.shape_of-x
shape_of-x c = c.loop-i.invariant.long ∙ sym c.loop-i.invariant.begun

pub returns : goal.returns
returns c = walk_end c.loop-i.invariant c.loop-i-test.false

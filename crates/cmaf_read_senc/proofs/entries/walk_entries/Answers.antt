use borrow.Author.Rules.{rules}
use Rattle.cmaf_read_senc.proofs.EntryLaws.{walk_start, walk-short, walk-head, walk-cut, walk-len, walk-on, walk-over, walk-full}
use Rattle.cmaf_read_senc.proofs.entries.walk_entries.Goals as goal

pub loop-left-init : goal.loop-left-init
loop-left-init c = walk_start _ _ _ c.requires.at_le_end.0

pub returns-then-end-p : goal.returns-then-end-p
returns-then-end-p c =
    let a = c.requires in
    walk-short a.map_value.0 a.at_le_end.1 c.loop-left.invariant c.loop-left-test.true c.if-end-p.true

pub pairs_at-k-requires : goal.pairs_at-k-requires
pairs_at-k-requires c =
    let a = c.requires in
    walk-head a.map_value.0 a.at_le_end.1 c.loop-left.invariant c.if-end-p.false

pub overflow_add-len : goal.overflow_add-len
overflow_add-len c =
    let a = c.requires in
    let z = walk-len a.map_value.0 a.at_le_end.1 c.loop-left.invariant _ _ c.pairs_at-k.ensures.0 c.map_length.ensures in
    search rules

pub returns-then-end-p-2 : goal.returns-then-end-p-2
returns-then-end-p-2 c =
    let a = c.requires in
    walk-cut a.map_value.0 a.at_le_end.1 c.loop-left.invariant _ _ c.pairs_at-k.ensures.0 c.map_length.ensures
    c.loop-left-test.true c.if-end-p.false c.if-end-p-2.true

pub overflow_add-sum : goal.overflow_add-sum
overflow_add-sum c =
    let a = c.requires in
    let z = walk-len a.map_value.0 a.at_le_end.1 c.loop-left.invariant _ _ c.pairs_at-k.ensures.0 c.map_length.ensures in
    search rules

pub loop-left-preserved : goal.loop-left-preserved
loop-left-preserved c =
    let a = c.requires in
    walk-on a.map_value.0 a.at_le_end.1 c.loop-left.invariant _ _ c.pairs_at-k.ensures.0 c.map_length.ensures
    c.loop-left-test.true c.if-end-p-2.false

pub returns-then-p-end : goal.returns-then-p-end
returns-then-p-end c =
    let a = c.requires in
    walk-over a.map_value.0 a.at_le_end.1 c.loop-left.invariant c.loop-left-test.false c.if-p-end.true

pub returns : goal.returns
returns c =
    let a = c.requires in
    walk-full a.map_value.0 a.at_le_end.1 c.loop-left.invariant c.loop-left-test.false c.if-p-end.false

use Prim.Native.Nat.{◌-◌}
use native.Mathlib.Omega.{arith}
use Rattle.field_table.specs.Lines.{lines, line_for}
use Rattle.field_set.proofs.ValueLaws.{has_no, has-yes}
use Rattle.effective.proofs.SumLaws.{sizes-sized, match-start, match-fits, match-next, match-end, match_none}
use Rattle.effective.proofs.sums.protected_ok.Goals as goal

pub returns-then-w-eq0 : goal.returns-then-w-eq0
unfolding lines line_for
returns-then-w-eq0 c = match_none _ _ _ (has_no 11 _ c.if-w-eq0.true)

pub listed_sizes-listed-requires : goal.listed_sizes-listed-requires
listed_sizes-listed-requires c = c.requires.summable.words

pub last_size-last-requires : goal.last_size-last-requires
last_size-last-requires c =
    let s = c.requires in
    record { w_len = (s.summable.words, s.summable.few); sized = sizes-sized _ _ _ s.payload_le_payload_most.1 s.payload_le_payload_most.0 }

pub loop-i-init : goal.loop-i-init
loop-i-init c = match-start c.requires.summable _

pub pair_bytes-requires : goal.pair_bytes-requires
unfolding lines line_for
pair_bytes-requires c =
    let s = c.requires.summable in
    record { summable = s; k_bound = match-fits s _ (has-yes 11 _ c.if-w-eq0.false) _ _ _ c.loop-i.invariant c.loop-i-test.true }

pub overflow_add-j : goal.overflow_add-j
unfolding lines line_for
overflow_add-j c =
    let s = c.requires.summable in
    omega (arith, match-fits s _ (has-yes 11 _ c.if-w-eq0.false) _ _ _ c.loop-i.invariant c.loop-i-test.true)

pub loop-i-preserved : goal.loop-i-preserved
unfolding lines line_for
loop-i-preserved c =
    let s = c.requires.summable in
    match-next s _ (has-yes 11 _ c.if-w-eq0.false) _ _ _ c.loop-i.invariant c.loop-i-test.true
    _ c.pair_bytes.ensures.0 _ c.size_at.ensures

pub returns : goal.returns
unfolding lines line_for
returns c = match-end _ _ _ (has-yes 11 _ c.if-w-eq0.false) _ c.last_size-last.ensures _ _ _ c.loop-i.invariant c.loop-i-test.false

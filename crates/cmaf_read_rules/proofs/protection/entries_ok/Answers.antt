use borrow.Author.Rules.{rules}
use native.Mathlib.Omega.{arith}
use Rattle.cmaf_read_senc.proofs.EntryLaws.{left-few}
use Rattle.cmaf_read_rules.proofs.EntryRules.{checking-start, checking-head, checking-pairs, checking-here, checking-len, checking-next, checking-end}
use Rattle.cmaf_read_rules.proofs.protection.entries_ok.Goals as goal

pub loop-i-init : goal.loop-i-init
loop-i-init c =
    let w = c.requires.few_pairs in
    checking-start _ _ _ _ _ _ (left-few w) w.few

pub pairs_at-k-requires : goal.pairs_at-k-requires
pairs_at-k-requires c = checking-head _ _ _ _ _ c.loop-i.invariant c.loop-i-test.true

pub overflow_add-len : goal.overflow_add-len
overflow_add-len c =
    let m = c.map_length.ensures in
    let k = c.pairs_at-k.ensures.0 in
    let z = checking-len _ _ _ _ _ c.loop-i.invariant c.loop-i-test.true _ _ k m in
    search rules

pub size_at-size-requires : goal.size_at-size-requires
size_at-size-requires c =
    let p = c.requires.few_rows in
    record { rows_in = p.0.0; default_bound = p.1; i_lt_count = c.loop-i-test.true }

pub entry_ok-requires : goal.entry_ok-requires
entry_ok-requires c =
    let k = c.pairs_at-k.ensures.0 in
    let g = c.loop-i.invariant in
    let h = c.loop-i-test.true in
    let z = checking-pairs _ _ _ _ _ g h in
    record { k_value = (k, search rules); at_in_bounds = checking-here _ _ _ _ _ g h }

pub info_size-requires : goal.info_size-requires
info_size-requires c =
    let p = c.requires.inside in
    let h = c.loop-i-test.true in
    record { inside = p.0; b_value = (p.1, omega (arith, h, p.2)) }

pub overflow_add-p : goal.overflow_add-p
overflow_add-p c =
    let m = c.map_length.ensures in
    let k = c.pairs_at-k.ensures.0 in
    let g = c.loop-i.invariant in
    let z = checking-len _ _ _ _ _ g c.loop-i-test.true _ _ k m in
    search rules

pub loop-i-preserved : goal.loop-i-preserved
loop-i-preserved c =
    let m = c.map_length.ensures in
    let k = c.pairs_at-k.ensures.0 in
    let g = c.loop-i.invariant in
    checking-next _ _ _ _ _ g c.loop-i-test.true _ _ k m _ _ _ c.entry_ok.ensures
    c.size_at-size.ensures.0 c.info_size.ensures.0

pub returns : goal.returns
returns c = checking-end _ _ _ _ _ c.loop-i.invariant c.loop-i-test.false

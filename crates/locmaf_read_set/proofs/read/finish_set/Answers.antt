-- `locmaf_read_set::read::finish_set` meets its contract: each return by its law of `proofs/LastLaws.antt`.
use native.Mathlib.Omega.{arith}
use mathlib.Core.Path.{◌∙◌, ap}
use Rattle.wire.specs.Form.{rows}
use Rattle.locmaf_read_said.specs.Said.{says_in}
use Rattle.locmaf_read_set.proofs.LastLaws.{rules-said, rules-broken, values-broken, last-read}
use Rattle.locmaf_read_set.proofs.StandingLaws.{marks-count}
use mathlib.Core.Bool.{not}
use Rattle.locmaf_read_set.proofs.read.finish_set.Goals as goal

pub take_lines-d-requires : goal.take_lines-d-requires
take_lines-d-requires c =
    let p = c.requires in
    record { readable = p.readable; measured = (p.measured.0, omega arith, omega arith, p.measured.1); marks_value = p.marks_value }

pub rules_ok-rules-requires : goal.rules_ok-rules-requires
rules_ok-rules-requires c = marks-count _ _ _ _ _ c.requires.marks_value

pub shape_of-x-then-not-second-d : goal.shape_of-x-then-not-second-d
shape_of-x-then-not-second-d c = c.take_lines-d.ensures.long

pub returns-then-not-second-d : goal.returns-then-not-second-d
returns-then-not-second-d c =
    let p = c.requires in
    let a = c.args in
    rules-broken a.t a.a.held a.r.now (says_in (rows a.form) a.o.now a.index.now) a.m a.second a.within _ p.measured.1 _ _
    c.take_lines-d.ensures _ (rules-said _ _ _ _ _ _ _ p.readable _ _ p.marks_value _ c.rules_ok-rules.ensures) (ap not c.if-not-second-d.true)

pub same_iv_size-requires : goal.same_iv_size-requires
same_iv_size-requires c = c.take_lines-d.ensures.long ∙ c.requires.measured.1

pub shape_of-x-then-not-within-d : goal.shape_of-x-then-not-within-d
shape_of-x-then-not-within-d c = c.take_lines-d.ensures.long

pub returns-then-not-within-d : goal.returns-then-not-within-d
returns-then-not-within-d c =
    let p = c.requires in
    let a = c.args in
    values-broken a.t a.a.held a.r.now (says_in (rows a.form) a.o.now a.index.now) a.m a.second a.within _ p.measured.1 _ _
    c.take_lines-d.ensures _ (rules-said _ _ _ _ _ _ _ p.readable _ _ p.marks_value _ c.rules_ok-rules.ensures) (ap not c.if-not-second-d.false) _ c.same_iv_size.ensures (ap not c.if-not-within-d.true)

pub shape_of-x : goal.shape_of-x
shape_of-x c = c.take_lines-d.ensures.long

pub returns : goal.returns
returns c =
    let p = c.requires in
    let a = c.args in
    last-read a.t a.a.held a.r.now (says_in (rows a.form) a.o.now a.index.now) a.m a.second a.within _ p.measured.1 _ _
    c.take_lines-d.ensures _ (rules-said _ _ _ _ _ _ _ p.readable _ _ p.marks_value _ c.rules_ok-rules.ensures) (ap not c.if-not-second-d.false) _ c.same_iv_size.ensures (ap not c.if-not-within-d.false)

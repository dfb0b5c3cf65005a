-- `locmaf_read_set::read::first_rules` meets its contract: each return by its law of `proofs/FirstLaws.antt`.
use Rattle.locmaf_read_set.proofs.FirstLaws.{lengths-broken, sum-broken, both-kept}
use mathlib.Core.Path.{ap}
use mathlib.Core.Bool.{not}
use Rattle.locmaf_read_set.proofs.read.first_rules.Goals as goal

pub brands_fit-requires : goal.brands_fit-requires
brands_fit-requires c = c.requires

pub returns-then-not-e-b : goal.returns-then-not-e-b
returns-then-not-e-b c =
    let a = c.args in
    lengths-broken a.index.now a.e a.b a.c _ c.brands_fit.ensures (ap not c.if-not-e-b.true)

pub returns-then-not-b-c : goal.returns-then-not-b-c
returns-then-not-b-c c =
    let a = c.args in
    sum-broken a.index.now a.e a.b a.c _ c.brands_fit.ensures (ap not c.if-not-e-b.false) (ap not c.if-not-b-c.true)

pub returns : goal.returns
returns c =
    let a = c.args in
    both-kept a.index.now a.e a.b a.c _ c.brands_fit.ensures (ap not c.if-not-e-b.false) (ap not c.if-not-b-c.false)

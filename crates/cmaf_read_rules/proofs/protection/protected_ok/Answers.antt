-- `cmaf_read_rules::protection::protected_ok` meets its contract: where the counts are right, the entries are there.
use Rattle.cmaf_read_rules.proofs.CountLaws.{protected-not, counts-right, protected-by, leads-first, senc-head, senc-walk, infos-here}
use Rattle.cmaf_read_rules.proofs.RuleLaws.{run-right}
use mathlib.Core.Path.{ap}
use mathlib.Core.Bool.{not}
use Rattle.cmaf_read_rules.proofs.protection.protected_ok.Goals as goal

pub entries_of-e-requires : goal.entries_of-e-requires
entries_of-e-requires c =
    let p = c.requires in
    (p.right.0.senc-in, senc-head p.right.0 p.right.1)

pub counts_ok-requires : goal.counts_ok-requires
counts_ok-requires c = c.requires.right.0.saiz-in

pub returns-then-not-counts_ok : goal.returns-then-not-counts_ok
returns-then-not-counts_ok c =
    let a = c.args in
    protected-not a.t a.c.now a.top a.f c.entries_of-e.ensures.0 c.requires.r_value.0 _ c.counts_ok.ensures (ap not c.if-not-counts_ok.true)

pub leads_to-requires : goal.leads_to-requires
leads_to-requires c =
    let p = c.requires in
    (p.right.0.saio-in, p.right.0.senc-in, p.right.0.senc-after p.right.1)

pub entries_ok-requires : goal.entries_ok-requires
entries_ok-requires c =
    let a = c.args in
    let p = c.requires in
    let e = c.entries_of-e.ensures.0 in
    let h = counts-right a.t a.c.now a.top a.f e p.r_value.0 _ c.counts_ok.ensures (ap not c.if-not-counts_ok.false) in record { few_rows = (run-right a.t a.c.now a.top a.f a.r p.right.0 p.r_value.0, p.r_value.2); few_pairs = senc-walk p.right.0 p.right.1 e p.r_value.0 h; inside = (p.right.0.saiz-in, p.right.0.saiz-ok, infos-here p.right.0 p.r_value.0 h) }

pub returns : goal.returns
returns c =
    let a = c.args in
    let p = c.requires in
    let e = c.entries_of-e.ensures.0 in
    let h = counts-right a.t a.c.now a.top a.f e p.r_value.0 _ c.counts_ok.ensures (ap not c.if-not-counts_ok.false) in
    protected-by a.t a.c.now a.top a.f _ _ _ _ _ h e p.r_value.0 p.r_value.1 (leads-first a.t a.c.now a.f.senc a.f.saio a.top.moof e c.leads_to.ensures) c.entries_ok.ensures

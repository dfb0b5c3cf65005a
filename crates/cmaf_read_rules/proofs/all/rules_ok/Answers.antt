-- `cmaf_read_rules::all::rules_ok` meets its contract, by what each test ensures.
use native.Mathlib.Omega.{arith}
use mathlib.Core.Path.{◌∙◌, ap}
use mathlib.Core.List.{[]}
use Rattle.event_value.specs.Events.{events_of}
use Rattle.cmaf_read_moof.specs.declared.defaults.Defaults.{Defaults}
use Rattle.cmaf_read_trun.specs.Columns.{FewRows}
use Rattle.cmaf_read_rules.proofs.ClockLaws.{clocks-any}
use Rattle.cmaf_read_rules.proofs.RuleLaws.{run-right, rules-by, rest-bare, rest-protected}
use Rattle.cmaf_read_rules.proofs.all.rules_ok.Goals as goal

few : (c : goal.After-offset_ok) → FewRows c.args.c.now c.run_of-r.result
few c = let a = c.args in run-right a.t a.c.now a.top a.f _ c.requires.right c.run_of-r.ensures.0

few-2 : (c : goal.After-flags_ok) → FewRows c.args.c.now c.run_of-r.result
few-2 c = let a = c.args in run-right a.t a.c.now a.top a.f _ c.requires.right c.run_of-r.ensures.0

few-3 : (c : goal.After-offsets_ok) → FewRows c.args.c.now c.run_of-r.result
few-3 c = let a = c.args in run-right a.t a.c.now a.top a.f _ c.requires.right c.run_of-r.ensures.0

pub flags_ok-requires : goal.flags_ok-requires
flags_ok-requires c =
    let g = c.requires.right in
    record { inside = (g.trun-in, g.trun-ok); few_rows = (few c, c.requires.d_value.1.flags-lt) }

pub offsets_ok-requires : goal.offsets_ok-requires
offsets_ok-requires c = few-2 c

pub sizes_ok-sizes-requires : goal.sizes_ok-sizes-requires
sizes_ok-sizes-requires c = record { inside = c.requires.right.mdat-in; few_rows = (few-3 c, c.requires.d_value.1.size-lt) }

pub returns-then-senc-eq0 : goal.returns-then-senc-eq0
returns-then-senc-eq0 c =
    let a = c.args in
    rules-by a.t a.c.now a.top a.f (events_of a.c.now a.events.now a.top.events) _ _
    c.requires.d_value.0 c.run_of-r.ensures.0 _ _ _ _ _ _ _
    c.outer_ok.ensures (c.clocks_ok.ensures ∙ clocks-any [] a.c.now a.events.now a.top.events 0)
    c.offset_ok.ensures c.flags_ok.ensures c.offsets_ok.ensures c.sizes_ok-sizes.ensures
    (rest-bare a.t a.c.now a.top a.f c.run_of-r.result c.run_of-r.ensures.0 c.if-senc-eq0.true)

pub protected_ok-requires : goal.protected_ok-requires
protected_ok-requires c =
    let d = c.requires.d_value in
    record { right = (c.requires.right, omega arith); r_value = (c.run_of-r.ensures.0, ap (λ (x : Defaults). x.size) d.0, d.1.size-lt) }

pub returns : goal.returns
returns c =
    let a = c.args in
    rules-by a.t a.c.now a.top a.f (events_of a.c.now a.events.now a.top.events) _ _
    c.requires.d_value.0 c.run_of-r.ensures.0 _ _ _ _ _ _ _
    c.outer_ok.ensures (c.clocks_ok.ensures ∙ clocks-any [] a.c.now a.events.now a.top.events 0)
    c.offset_ok.ensures c.flags_ok.ensures c.offsets_ok.ensures c.sizes_ok-sizes.ensures
    (rest-protected a.t a.c.now a.top a.f c.if-senc-eq0.false _ c.protected_ok.ensures)

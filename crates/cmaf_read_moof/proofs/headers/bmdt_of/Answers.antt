-- `cmaf_read_moof::headers::bmdt_of` meets its contract: the length is the version's.
use native.Mathlib.Omega.{arith}
use mathlib.Core.Path.{sym, ◌∙◌}
use Rattle.cmaf_read_moof.proofs.HeaderLaws.{tfdt-long, tfdt-wide, bmdt-narrow, bmdt-wide}
use Rattle.cmaf_read_moof.proofs.headers.bmdt_of.Goals as goal

pub u32_at-requires : goal.u32_at-requires
u32_at-requires c = omega (arith, tfdt-long c.args.c.now c.args.b c.requires.b_value, c.requires.inside)

pub u32_at-requires-then-u32_at-eq0 : goal.u32_at-requires-then-u32_at-eq0
u32_at-requires-then-u32_at-eq0 c = omega (arith, tfdt-long c.args.c.now c.args.b c.requires.b_value, c.requires.inside)

pub returns-then-u32_at-eq0 : goal.returns-then-u32_at-eq0
returns-then-u32_at-eq0 c =
    let a = c.args in
    bmdt-narrow a.c.now a.b _ (sym c.u32_at.ensures.0 ∙ c.if-u32_at-eq0.true) c.u32_at-then-u32_at-eq0.ensures.0

pub u64_at-requires : goal.u64_at-requires
u64_at-requires c =
    let w = tfdt-wide c.args.c.now c.args.b c.requires.b_value (λ z. c.if-u32_at-eq0.false (c.u32_at.ensures.0 ∙ z)) in
    omega (arith, w, c.requires.inside)

pub returns : goal.returns
returns c =
    let a = c.args in
    bmdt-wide a.c.now a.b _ (λ z. c.if-u32_at-eq0.false (c.u32_at.ensures.0 ∙ z)) c.u64_at.ensures

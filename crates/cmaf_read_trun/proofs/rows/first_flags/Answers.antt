-- `cmaf_read_trun::rows::first_flags` meets its contract: flags that stand lie in the box.
use native.Mathlib.Omega.{arith}
use mathlib.Core.Path.{sym, ◌∙◌}
use Rattle.cmaf_read_trun.proofs.RowLaws.{trun-long, first-in, first-none, first-own}
use Rattle.cmaf_read_trun.proofs.rows.first_flags.Goals as goal

pub u32_at-word-requires : goal.u32_at-word-requires
u32_at-word-requires c = omega (arith, trun-long c.args.c.now c.args.b c.requires.b_value, c.requires.inside)

pub returns-then-bit-eq0 : goal.returns-then-bit-eq0
returns-then-bit-eq0 c =
    let a = c.args in
    (first-none a.c.now a.b _ c.u32_at-word.ensures.0 (sym c.bit.ensures.0 ∙ c.if-bit-eq0.true), omega arith)

pub u32_at-requires : goal.u32_at-requires
u32_at-requires c =
    let f =
    first-in c.args.c.now c.args.b c.requires.b_value _ c.u32_at-word.ensures.0
    (λ z. c.if-bit-eq0.false (c.bit.ensures.0 ∙ z)) in
    omega (arith, f, c.requires.inside)

pub returns : goal.returns
returns c =
    let a = c.args in (
      first-own a.c.now a.b _ _ c.u32_at-word.ensures.0
          (λ z. c.if-bit-eq0.false (c.bit.ensures.0 ∙ z)) c.u32_at.ensures.0,
      c.u32_at.ensures.1,
    )

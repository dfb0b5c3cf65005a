-- `cmaf_read_moof::defaults::field_of` meets its contract: a field whose flag is set lies in the box.
use native.Mathlib.Omega.{arith}
use mathlib.Core.Path.{sym, ◌∙◌}
use Rattle.cmaf_read_moof.proofs.DefaultLaws.{flag-some, tfhd-long, field-in, field-other, field-own}
use Rattle.cmaf_read_moof.proofs.defaults.field_of.Goals as goal

pub u32_at-word-requires : goal.u32_at-word-requires
u32_at-word-requires c = omega (arith, tfhd-long c.args.c.now c.args.b c.requires.b_value, c.requires.inside)

pub bit-requires : goal.bit-requires
bit-requires c = flag-some _ c.requires.flag_value

pub returns-then-bit-eq0 : goal.returns-then-bit-eq0
returns-then-bit-eq0 c = (
  field-other c.args.c.now c.args.b c.args.flag c.args.other _ c.u32_at-word.ensures.0
      (sym c.bit.ensures.0 ∙ c.if-bit-eq0.true),
  c.requires.other_bound,
)

pub nonzero_rem-word : goal.nonzero_rem-word
nonzero_rem-word c = omega (arith, flag-some _ c.requires.flag_value)

pub u32_at-requires : goal.u32_at-requires
u32_at-requires c =
    let f =
    field-in c.args.c.now c.args.b c.requires.b_value c.args.flag _ c.requires.flag_value c.u32_at-word.ensures.0
    (λ z. c.if-bit-eq0.false (c.bit.ensures.0 ∙ z)) in
    omega (arith, f, c.requires.inside, c.fields_in-before.ensures.0)

pub returns : goal.returns
returns c = (
  field-own c.args.c.now c.args.b c.args.flag c.args.other _ _ _ c.u32_at-word.ensures.0
      (λ z. c.if-bit-eq0.false (c.bit.ensures.0 ∙ z)) c.fields_in-before.ensures.0
      c.u32_at.ensures.0,
  c.u32_at.ensures.1,
)

-- `cmaf_read_senc::sizes::info_size` meets its contract: a box that counts the sample has its byte.
use mathlib.Core.Path.{sym, ◌∙◌}
use Rattle.cmaf_read_senc.proofs.SizeLaws.{saiz-stands, saiz-room, info-default, info-own}
use borrow.Author.Rules.{rules}
use Rattle.cmaf_read_senc.proofs.sizes.info_size.Goals as goal

pub u8_at-default-requires : goal.u8_at-default-requires
u8_at-default-requires c =
    let s = saiz-stands c.args.c.now c.args.b c.requires.b_value.1 in
    search rules

pub returns-then-default-ne0 : goal.returns-then-default-ne0
returns-then-default-ne0 c =
    let a = c.args in
    (info-default a.c.now a.b a.i _ c.u8_at-default.ensures.0 c.if-default-ne0.true, c.u8_at-default.ensures.1)

pub overflow_add-b-3 : goal.overflow_add-b-3
overflow_add-b-3 c =
    let s = saiz-room c.args.c.now c.args.b c.requires.b_value.0 c.requires.b_value.1 (sym c.u8_at-default.ensures.0 ∙ c.if-default-ne0.false) in
    search rules

pub u8_at-requires : goal.u8_at-requires
u8_at-requires c =
    let s = saiz-room c.args.c.now c.args.b c.requires.b_value.0 c.requires.b_value.1 (sym c.u8_at-default.ensures.0 ∙ c.if-default-ne0.false) in
    search rules

pub returns : goal.returns
returns c =
    let a = c.args in (
      c.u8_at.ensures.0 ∙ info-own a.c.now a.b a.i (sym c.u8_at-default.ensures.0 ∙ c.if-default-ne0.false),
      c.u8_at.ensures.1,
    )

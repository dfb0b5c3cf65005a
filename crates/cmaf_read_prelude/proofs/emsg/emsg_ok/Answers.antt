-- `cmaf_read_prelude::emsg::emsg_ok` meets its contract, by the length.
use Rattle.cmaf_read_prelude.proofs.EmsgLaws.{emsg-short, emsg-long, scheme-most}
use borrow.Author.Rules.{rules}
use Rattle.cmaf_read_prelude.proofs.emsg.emsg_ok.Goals as goal

pub returns-then-b-lt32 : goal.returns-then-b-lt32
returns-then-b-lt32 c = emsg-short _ _ c.if-b-lt32.true

pub overflow_add-scheme : goal.overflow_add-scheme
overflow_add-scheme c =
    let m = scheme-most _ _ c.if-b-lt32.false c.requires _ _ c.end_of-end.ensures c.zero_from-scheme.ensures in
    search rules

pub returns : goal.returns
returns c = emsg-long _ _ c.if-b-lt32.false _ _ _ _ c.end_of-end.ensures c.zero_from-scheme.ensures c.zero_from-value.ensures c.u32_at.ensures.0

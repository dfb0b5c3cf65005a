-- `cmaf_read_senc::entries::entries_of` meets its contract, by what it reads.
use Rattle.cmaf_read_senc.proofs.SencLaws.{entries-are}
use borrow.Author.Rules.{rules}
use Rattle.cmaf_read_senc.proofs.entries.entries_of.Goals as goal

pub returns : goal.returns
returns c =
    let a = c.args in (
      entries-are a.t a.c.now a.b _ _ c.u32_at.ensures.0 c.u32_at-2.ensures.0,
      (c.u32_at-2.ensures.1, search rules),
    )

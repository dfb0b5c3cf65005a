-- `locmaf_read_block::records::keep` meets its contract: two runs of five words are a record's ten.
use Rattle.locmaf_read_block.proofs.KeptLaws.{kept-none, kept-is}
use Rattle.locmaf_read_block.proofs.records.keep.Goals as goal

pub returns-then-n-ge-EVENTS : goal.returns-then-n-ge-EVENTS
returns-then-n-ge-EVENTS c = let a = c.args in kept-none a.out.now a.n a.r c.if-n-ge-EVENTS.true

pub returns : goal.returns
returns c =
    let a = c.args in
    kept-is a.out.now a.n a.r c.if-n-ge-EVENTS.false _ _ c.put_five.ensures c.put_five-2.ensures

-- `locmaf_read_said::against::base_of` meets its contract.
use Rattle.locmaf_read_said.proofs.AgainstLaws.{against-delta, against-plain}
use Rattle.locmaf_read_said.proofs.against.base_of.Goals as goal

pub measure-requires : goal.measure-requires
measure-requires c = let p = c.requires in record { w_len = p.0; iv_size_bound = p.1; w_value = p.2 c.if-held.true }

pub returns-then-held : goal.returns-then-held
returns-then-held c = against-delta c.args.t _ c.args.r.now _ c.if-held.true c.measure.ensures

pub returns : goal.returns
returns c = against-plain c.args.t _ c.args.r.now c.if-held.false

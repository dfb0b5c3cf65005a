use Rattle.cmaf_read_prelude.proofs.EmsgLaws.{looking-start, looking-next, looking-end, emsg-lies}
use borrow.Author.Rules.{rules}
use Rattle.cmaf_read_prelude.proofs.emsg.emsgs_ok.Goals as goal

pub loop-i-init : goal.loop-i-init
loop-i-init c = looking-start _ _ _ c.requires

pub emsg_ok-ok-requires : goal.emsg_ok-ok-requires
emsg_ok-ok-requires c = emsg-lies _ _ _ c.box_at-b.ensures c.loop-i.invariant.within

pub end_of-p-requires : goal.end_of-p-requires
end_of-p-requires c =
    let n = (emsg-lies _ _ _ c.box_at-b.ensures c.loop-i.invariant.within).within in
    search rules

pub loop-i-preserved : goal.loop-i-preserved
loop-i-preserved c = looking-next _ _ _ _ _ _ c.loop-i.invariant c.loop-i-test.true _ _ _ c.box_at-b.ensures c.emsg_ok-ok.ensures c.end_of-p.ensures

pub returns : goal.returns
returns c = looking-end _ _ _ _ _ _ c.loop-i.invariant c.loop-i-test.false

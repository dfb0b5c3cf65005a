-- `receiver::receive::take_share` meets its contract: what `opened` finds decides.
use mathlib.Core.Path.{subst}
use Rattle.wire.specs.Form.{rows}
use Rattle.receiver.specs.Opened.{OpenedAs}
use Rattle.answers.proofs.AnsweredLaws.{answered-on}
use Rattle.receiver.proofs.ReceiveLaws.{track-lawful}
use Rattle.receiver.proofs.receive.take_share.Goals as goal

pub track_of-t-requires : goal.track_of-t-requires
track_of-t-requires c =
    let a = c.args in
    let z = subst (OpenedAs (rows a.form) a.o.now a.s.now) c.in-Ok.is c.opened.ensures in
    (c.requires, track-lawful (rows a.form) a.o.now a.s.now z.judgeable)

pub take_block-requires : goal.take_block-requires
take_block-requires c =
    let a = c.args in
    let z = subst (OpenedAs (rows a.form) a.o.now a.s.now) c.in-Ok.is c.opened.ensures in
    let e = c.track_of-t.ensures in
    rw e z.judgeable

pub returns-in-Err : goal.returns-in-Err
returns-in-Err c =
    let a = c.args in
    let z = subst (OpenedAs (rows a.form) a.o.now a.s.now) c.in-Err.is c.opened.ensures in
    answered-on (c.refuse.ensures _ a.output.now) (z a.output.now)

pub returns-in-Ok : goal.returns-in-Ok
returns-in-Ok c =
    let a = c.args in
    let z = subst (OpenedAs (rows a.form) a.o.now a.s.now) c.in-Ok.is c.opened.ensures in
    answered-on c.take_block.ensures (z.goes_on a.output.now)

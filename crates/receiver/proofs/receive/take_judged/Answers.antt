-- `receiver::receive::take_judged` meets its contract, by the laws of `proofs/ReceiveLaws.antt`.
use Rattle.answers.proofs.AnsweredLaws.{answered-on}
use Rattle.receiver.proofs.ReceiveLaws.{judged-stops, judged-climbs}
use Rattle.receiver.proofs.receive.take_judged.Goals as goal

pub returns-in-Err : goal.returns-in-Err
returns-in-Err c =
    let output = c.args.output.now in
    λ F d. answered-on (c.refuse.ensures _ output) (judged-stops _ _ _ output _ _ _ (rw c.in-Err.is at d.judged))

pub accept-requires : goal.accept-requires
accept-requires c =
    let h = c.requires in
    (h.0, record { head = h.1.head; ready = h.1.judged.ready _ c.in-Ok.is })

pub returns-in-Ok : goal.returns-in-Ok
returns-in-Ok c =
    let output = c.args.output.now in
    λ F d.
    answered-on (c.accept.ensures F (record { head = d.head; ready = d.judged.ready _ c.in-Ok.is }))
    (judged-climbs _ _ _ output _ _ _ (rw c.in-Ok.is at d.judged))

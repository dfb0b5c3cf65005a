-- `receiver::receive::take_object` meets its contract: what was answered on the share is handed out.
use Rattle.std.proofs.lemmas.Result.{err_from_is_err_and}
use Rattle.answers.proofs.AnsweredLaws.{handed_out}
use Rattle.receiver.proofs.receive.take_object.Goals as goal

pub returns-in_err-a : goal.returns-in_err-a
returns-in_err-a c =
    let p = err_from_is_err_and c.from_residual.result c.from_residual.ensures.1 in
    rw (p.1, p.2) c.in_err-a.ensures.so

pub hand_out-requires : goal.hand_out-requires
hand_out-requires c = c.in_ok-a.ensures.inside

pub returns : goal.returns
returns c = handed_out _ c.hand_out.result c.in_ok-a.ensures c.hand_out.ensures.front c.hand_out.ensures.payload

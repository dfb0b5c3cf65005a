-- `cmaf_write_front::front::front_length` meets its contract.
use Rattle.event_value.specs.Events.{events_of}
use Rattle.cmaf_write_front.proofs.FrontLaws.{front_length}
use Rattle.cmaf_write_front.proofs.front.front_length.Goals as goal

pub returns : goal.returns
returns c =
    let a = c.args in
    λ sequence payload o fit.
    front_length a.t sequence a.w.now payload a.prft (events_of o a.events.now a.k) a.brands.now _ _ _ _ c.styp_length.ensures.0
    (c.prft_length.ensures.0 a.t) (c.emsgs_length.ensures.0 o fit) (c.moof_length.ensures.length sequence payload)

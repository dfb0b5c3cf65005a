-- `receiver::receive::accept` meets its contract, by the laws of `proofs/AcceptLaws.antt`.
use borrow.Author.Tests.{leb-true}
use Rattle.cmaf_write_front.proofs.FrontLaws.{weighable}
use Rattle.answers.proofs.AnsweredLaws.{answered-on}
use Rattle.receiver.proofs.AcceptLaws.{brands-lent, writable, long-is, short, long-enough}
use mathlib.Core.Path.{sym, ◌∙◌}
use Rattle.receiver.proofs.receive.accept.Goals as goal

pub front_length-need-requires : goal.front_length-need-requires
front_length-need-requires c =
    let v = c.requires.1 in
    weighable (writable _ _ _ _ _ v.head _ _ _ v.ready (brands-lent _ _ _ _ _ v.head _ _ _ v.ready))

pub returns-then-not-has_room : goal.returns-then-not-has_room
returns-then-not-has_room c =
    let output = c.args.output.now in
    λ F v.
    let e = long-is _ _ _ _ _ v.head _ _ _ v.ready (brands-lent _ _ _ _ _ v.head _ _ _ v.ready) _
    (λ q. c.front_length-need.ensures q _ _ v.ready.writable.events) in
    answered-on (c.refuse.ensures _ output) (short _ _ _ output _ e (sym c.has_room.ensures ∙ c.if-not-has_room.true))

pub write-requires : goal.write-requires
write-requires c =
    let v = c.requires.1 in
    let n = brands-lent _ _ _ _ _ v.head _ _ _ v.ready in
    let e = long-is _ _ _ _ _ v.head _ _ _ v.ready n _ (λ q. c.front_length-need.ensures q _ _ v.ready.writable.events) in
    (c.requires.0, record { acceptable = v; named = n; needed = e; room = leb-true _ _ (sym c.has_room.ensures ∙ c.if-not-has_room.false) })

pub returns : goal.returns
returns c =
    let output = c.args.output.now in
    λ F v.
    let n = brands-lent _ _ _ _ _ v.head _ _ _ v.ready in
    let e = long-is _ _ _ _ _ v.head _ _ _ v.ready n _ (λ q. c.front_length-need.ensures q _ _ v.ready.writable.events) in
    let k = sym c.has_room.ensures ∙ c.if-not-has_room.false in
    answered-on (c.write.ensures F (record { acceptable = v; named = n; needed = e; room = leb-true _ _ k })) (long-enough _ _ _ output _ e k)

-- `cmaf_read_shape::inner::pick` meets its contract: the first of the three that has the type.
use Rattle.cmaf_read_shape.proofs.InnerLaws.{pick_first, pick_second, pick-third, pick-none}
use Rattle.cmaf_read_shape.proofs.inner.pick.Goals as goal

pub returns-then-a-kind : goal.returns-then-a-kind
returns-then-a-kind c = let a = c.args in pick_first a.kind a.a a.b a.d c.if-a-kind.true

pub returns-then-b-kind : goal.returns-then-b-kind
returns-then-b-kind c =
    let a = c.args in
    pick_second a.kind a.a a.b a.d c.if-a-kind.false c.if-b-kind.true

pub returns-then-d-kind : goal.returns-then-d-kind
returns-then-d-kind c =
    let a = c.args in
    pick-third a.kind a.a a.b a.d c.if-a-kind.false c.if-b-kind.false c.if-d-kind.true

pub returns : goal.returns
returns c =
    let a = c.args in
    pick-none a.kind a.a a.b a.d c.if-a-kind.false c.if-b-kind.false c.if-d-kind.false

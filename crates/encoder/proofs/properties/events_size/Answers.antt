-- `encoder::properties::events_size` meets its contract: no events, or one tuple with their records.
use native.Mathlib.Omega.{arith}
use Rattle.encoder.proofs.EventLaws.{events-none, events-wide, events-weighed}
use mathlib.Core.Path.{sym, ap}
use mathlib.Core.Bool.{not}
use Rattle.locmaf_write_tuples.proofs.ItemLaws.{weighed-as, weighed-nothing}
use Rattle.encoder.proofs.properties.events_size.Goals as goal

pub returns-then-count-eq0 : goal.returns-then-count-eq0
returns-then-count-eq0 c = λ o h. weighed-as (sym (events-none c.args.form h c.if-count-eq0.true)) weighed-nothing

pub times_fit-requires : goal.times_fit-requires
times_fit-requires c = c.requires.0

pub returns-then-not-times_fit : goal.returns-then-not-times_fit
returns-then-not-times_fit c = λ o h. events-wide c.args.form h c.if-count-eq0.false c.times_fit.ensures (ap not c.if-not-times_fit.true)

pub body_size-requires : goal.body_size-requires
body_size-requires c = omega (arith, c.requires.1)

pub returns : goal.returns
returns c = λ o h. events-weighed c.args.form h c.if-count-eq0.false c.times_fit.ensures (ap not c.if-not-times_fit.false) c.body_size.ensures

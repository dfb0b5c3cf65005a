-- `counters::follow::ivs_follow` meets its contract: the walk begins where IVs stand, and tells it all.
use native.Mathlib.Omega.{arith}
use Rattle.counters.proofs.WalkLaws.{begun}
use Rattle.counters.proofs.FollowLaws.{follow-none, both-stand, follow-all}
use Rattle.counters.proofs.follow.ivs_follow.Goals as goal

pub returns-then-r-x : goal.returns-then-r-x
returns-then-r-x c = λ payload. follow-none _ _ _ _ payload c.if-r-x.true

pub overflow_sub-r : goal.overflow_sub-r
overflow_sub-r c =
    let h = both-stand c.args.r.now c.args.x.now c.if-r-x.false in
    (begun c.args.t c.args.last c.args.r.now c.args.x.now c.requires h.0).some

pub counter_at-requires : goal.counter_at-requires
counter_at-requires c =
    let h = both-stand c.args.r.now c.args.x.now c.if-r-x.false in
    let g = begun c.args.t c.args.last c.args.r.now c.args.x.now c.requires h.0 in
    (g.long, g.words, omega (arith, g.some, g.few))

pub all_follow-requires : goal.all_follow-requires
all_follow-requires c =
    let h = both-stand c.args.r.now c.args.x.now c.if-r-x.false in
    (c.requires.new-words, c.requires.new, (begun c.args.t c.args.last c.args.r.now c.args.x.now c.requires h.0).words, c.requires.small)

pub returns : goal.returns
returns c =
    let a = c.args in
    let h = both-stand a.r.now a.x.now c.if-r-x.false in
    λ payload. follow-all a.t a.last a.r.now a.x.now payload _ h.0 h.1 (c.all_follow.ensures _ payload c.counter_at.ensures)

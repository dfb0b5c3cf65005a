-- `counters::follow::derive` meets its contract: what is put from the reference's last counter on is what follows.
use Prim.Native.Nat.{◌-◌}
use native.Mathlib.Omega.{arith}
use mathlib.Core.Path.{◌∙◌}
use Rattle.field_set.specs.Lawful.{count_in}
use Rattle.counters.specs.Follow.{iv_words}
use Rattle.counters.proofs.WalkLaws.{begun, stands-fit}
use Rattle.counters.proofs.DeriveLaws.{derived-all}
use Rattle.counters.proofs.follow.derive.Goals as goal

pub overflow_sub-r : goal.overflow_sub-r
overflow_sub-r c = (begun c.args.t c.args.last c.args.r.now c.args.x.now c.requires.behind c.requires.r_value.0).some

pub counter_at-requires : goal.counter_at-requires
counter_at-requires c =
    let g = begun c.args.t c.args.last c.args.r.now c.args.x.now c.requires.behind c.requires.r_value.0 in
    (g.long, g.words, omega (arith, g.some, g.few))

pub put_all-requires : goal.put_all-requires
put_all-requires c =
    let h = c.requires.behind in
    (h.new-words, h.new, (begun c.args.t c.args.last c.args.r.now c.args.x.now h c.requires.r_value.0).words, h.small)

pub returns : goal.returns
returns c =
    let a = c.args in
    let g = begun a.t a.last a.r.now a.x.now c.requires.behind c.requires.r_value.0 in
    let fit = stands-fit (iv_words a.t) (count_in a.r.now - 1) a.r.now g.words (omega (arith, g.some, g.few)) g.long
    (λ p. (c.type_inv.r p).fits) in
    λ payload.
    derived-all a.t a.last a.r.now a.x.now _ payload _
    (c.put_all.ensures _ payload c.counter_at.ensures (c.counter_at.ensures.fits ∙ fit))

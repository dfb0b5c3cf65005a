use Prim.Native.Nat.{◌-◌}
use native.Mathlib.Omega.{arith}
use mathlib.Core.Path.{◌∙◌, ap}
use borrow.Author.Tests.{not-true, not-false}
use Rattle.counters.proofs.WalkLaws.{walked, stands-fit, place-start, place-fits, place-next}
use Rattle.counters.proofs.FollowLaws.{follow-start, follow-other, follow-more, follow-end-is}
use mathlib.Core.Bool.{not}
use Rattle.counters.proofs.follow.all_follow.Goals as goal

pub loop-i-init : goal.loop-i-init
loop-i-init c =
    let a = c.args in
    let s = walked a.t a.k a.x.now c.requires.0 c.requires.1 c.requires.2 in
    (s, place-start s a.c a.last c.requires.3, λ m h. follow-start a.t s m a.last a.c h)

pub counter_at-d-requires : goal.counter_at-d-requires
counter_at-d-requires c =
    let s = c.loop-i.invariant.0 in
    (s.sums.words, s.words, omega (arith, s.sums.few, c.loop-i-test.true))

pub comes-requires : goal.comes-requires
comes-requires c = c.loop-i.invariant.1.small

-- another one stands there
pub returns-then-not-comes : goal.returns-then-not-comes
returns-then-not-comes c =
    let l = c.loop-i in
    let a = c.args in
    let x = a.x.now in
    let lt = c.loop-i-test.true in
    let s = l.invariant.0 in
    let e = c.counter_at-d in
    let fit = stands-fit a.k l.i x s.words (omega (arith, s.sums.few, lt)) s.sums.words (λ p. (c.shared_slice_known-1.given p).fits) in
    λ m payload h.
    let f = l.invariant.2 m h in
    follow-other a.t s m a.last l.v l.i f lt _
    (c.comes.ensures a.k f.number _ s.words c.top_of-top.ensures f.counts e.ensures (e.ensures.fits ∙ fit))
    (not-true _ (ap not c.if-not-comes.true)) payload

pub past-v-requires : goal.past-v-requires
past-v-requires c =
    let l = c.loop-i in
    let lt = c.loop-i-test.true in
    (l.invariant.0.sums, lt, place-fits l.invariant.0 l.v l.i l.invariant.1 lt)

pub loop-i-preserved : goal.loop-i-preserved
loop-i-preserved c =
    let l = c.loop-i in
    let a = c.args in
    let x = a.x.now in
    let lt = c.loop-i-test.true in
    let s = l.invariant.0 in
    let e = c.counter_at-d in
    let fit = stands-fit a.k l.i x s.words (omega (arith, s.sums.few, lt)) s.sums.words (λ p. (c.shared_slice_known-1.given p).fits) in (
      s,
      place-next s l.v l.i l.invariant.1 lt a.t _ _ c.past-v.ensures,
      λ m h.
          let f = l.invariant.2 m h in
          follow-more a.t s m a.last l.v l.i f lt _
          (c.comes.ensures a.k f.number _ s.words c.top_of-top.ensures f.counts e.ensures (e.ensures.fits ∙ fit))
          (not-false _ (ap not c.if-not-comes.false)) _ e.ensures _ c.past-v.ensures,
    )

-- none is left
pub returns : goal.returns
returns c =
    let l = c.loop-i in
    let a = c.args in
    λ m payload h. follow-end-is a.t l.invariant.0 m a.last l.v l.i (l.invariant.2 m h) c.loop-i-test.false payload

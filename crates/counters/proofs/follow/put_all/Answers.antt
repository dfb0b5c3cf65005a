use Prim.Native.Nat.{◌-◌}
use native.Mathlib.Omega.{arith}
use mathlib.Core.Path.{◌∙◌}
use mathlib.Core.Bool.{true}
use Rattle.counters.proofs.WalkLaws.{walked, place-start, place-next}
use Rattle.counters.proofs.DeriveLaws.{put-none, put-more, put-length, put-asks, put-passed, derive-start, derive-more, derive-end}
use Rattle.counters.proofs.follow.put_all.Goals as goal

pub loop-i-init : goal.loop-i-init
loop-i-init c =
    let a = c.args in
    let s = walked a.t a.k a.x.now c.requires.0 c.requires.1 c.requires.2 in
    (s, place-start s a.c a.last c.requires.3, put-none a.k a.x.now, λ m h good. derive-start a.t a.k m a.last a.x.now a.c h good)

pub next-d-requires : goal.next-d-requires
next-d-requires c = c.loop-i.invariant.1.small

pub put_counter-requires : goal.put_counter-requires
put_counter-requires c =
    let l = c.loop-i in
    let s = l.invariant.0 in
    (put-length s _ _ l.invariant.1.inside l.invariant.2 ∙ s.sums.words, s.words, omega (arith, s.sums.few, c.loop-i-test.true))

pub past-v-requires : goal.past-v-requires
past-v-requires c =
    let l = c.loop-i in
    put-asks l.invariant.0 _ l.v l.i l.invariant.1 c.loop-i-test.true (put-more _ _ _ _ _ l.invariant.2 c.put_counter.ensures.1)

pub loop-i-preserved : goal.loop-i-preserved
loop-i-preserved c =
    let l = c.loop-i in
    let a = c.args in
    let s = l.invariant.0 in
    let lt = c.loop-i-test.true in
    let q = put-more _ _ _ _ _ l.invariant.2 c.put_counter.ensures.1 in
    let w = put-passed s _ l.v l.i l.invariant.1 lt q a.t _ _ c.past-v.ensures in (
      s,
      place-next s l.v l.i l.invariant.1 lt a.t _ _ w,
      q,
      λ m h good.
          let f = l.invariant.3 m h good in
          derive-more a.t a.k m a.last a.x.now _ l.v l.i f lt _
          (c.next-d.ensures a.k f.number s.words c.top_of-top.ensures f.counts) _
          c.put_counter.ensures.2 _ w,
    )

pub shape_of-x : goal.shape_of-x
shape_of-x c =
    let l = c.loop-i in
    put-length l.invariant.0 _ _ l.invariant.1.inside l.invariant.2

pub returns : goal.returns
returns c =
    let l = c.loop-i in
    let a = c.args in
    λ m payload h good.
    derive-end a.t a.k m a.last a.x.now _ l.v l.i (l.invariant.3 m h good) c.loop-i-test.false
    (put-length l.invariant.0 _ _ l.invariant.1.inside l.invariant.2) payload

-- `iv_counter::next` meets its contract: within the last word, with one carried, or past its size.
use native.Mathlib.Omega.{arith}
use Rattle.iv_counter.specs.Counter.{blocks}
use Rattle.iv_counter.proofs.CounterLaws.{next-within, next-carried, next_past}
use Rattle.iv_counter.proofs.next.Goals as goal

pub returns-then-c-room : goal.returns-then-c-room
unfolding blocks
returns-then-c-room c =
    let a = c.args in
    λ k n kk e h. next-within k n (blocks a.bytes) kk a.c h (omega (arith, c.requires)) c.if-c-room.true

pub returns-then-c-top : goal.returns-then-c-top
unfolding blocks
returns-then-c-top c =
    let a = c.args in
    λ k n kk e h.
    next-carried k n (blocks a.bytes) kk a.c h (omega (arith, c.requires)) c.if-c-room.false
    (omega (arith, c.struct_known-then-c-top-2-1.given.1.1.0.fits)) (omega (arith, e, c.if-c-top.true))

pub returns : goal.returns
unfolding blocks
returns c =
    let a = c.args in
    λ k n kk e h. next_past k n (blocks a.bytes) kk a.c h (omega (arith, c.requires)) c.if-c-room.false (omega (arith, e, c.if-c-top.false))

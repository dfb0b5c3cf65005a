-- `locmaf_read_said::deletions::mark` meets its contract, by the laws of `proofs/DeletionLaws.antt`.
use native.Mathlib.Omega.{arith}
use Rattle.locmaf_read_said.proofs.DeletionLaws.{unlisted, listed_at}
use Rattle.locmaf_read_said.proofs.deletions.mark.Goals as goal

pub returns-then-index-eq0 : goal.returns-then-index-eq0
returns-then-index-eq0 c = let p = c.requires in unlisted _ _ _ p.telling _ _ p.r_len c.if-index-eq0.true

pub overflow_add-end : goal.overflow_add-end
overflow_add-end c =
    let p = c.requires in
    omega (arith, (listed_at _ _ _ p.telling c.if-index-eq0.false).inside)

pub strike_all-requires : goal.strike_all-requires
strike_all-requires c =
    let p = c.requires in
    record { telling = (p.telling, listed_at _ _ _ p.telling c.if-index-eq0.false); r_len = p.r_len }

-- `wire_vectors::run_lines::run` is safe and ends: at most 64 varints of at most 8 bytes each fit after the first 3 of 520 bytes.
use Rattle.std.proofs.Common.{arith}
use Rattle.wire_vectors.proofs.RoomLaws.{run_room}
use Rattle.wire_vectors.proofs.run_lines.run.Goals as goal

pub put-last-requires : goal.put-last-requires
put-last-requires g c =
    let a = c.args in
    omega (arith, run_room a.coding a.base a.old.now a.new.now)

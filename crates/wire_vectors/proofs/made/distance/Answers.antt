-- `wire_vectors::made::distance` is safe and ends: a varint of at most 8 bytes fits into 8.
use Rattle.std.proofs.Common.{arith}
use Rattle.wire_vectors.proofs.RoomLaws.{varint-room}
use Rattle.wire_vectors.proofs.made.distance.Goals as goal

pub put-last-requires : goal.put-last-requires
put-last-requires g c = omega (arith, varint-room c.args.z)

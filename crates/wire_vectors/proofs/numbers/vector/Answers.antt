-- `wire_vectors::numbers::vector` is safe and ends: a varint of at most 8 bytes fits from a place up to 8 of 16.
use Rattle.std.proofs.Common.{arith}
use Rattle.wire_vectors.proofs.RoomLaws.{varint-room}
use Rattle.wire_vectors.proofs.numbers.vector.Goals as goal

pub put-next-requires : goal.put-next-requires
put-next-requires g c = omega (arith, varint-room c.args.v)

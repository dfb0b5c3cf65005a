-- `locmaf_write_block::set::put_middle` meets its contract: fields without their marks have no items.
use native.Mathlib.Omega.{arith}
use Rattle.locmaf_write_tuples.proofs.PutLaws.{put_as, put-nothing}
use Rattle.locmaf_write_block.proofs.AbsentLaws.{middle-absent}
use Rattle.locmaf_write_block.proofs.set.put_middle.Goals as goal

pub returns-then-x : goal.returns-then-x
returns-then-x c = put_as _ (middle-absent _ _ _ _ _ _ c.if-x.true) (put-nothing _ _ _ (omega (arith, c.requires.room_for)))

pub put_lines-requires : goal.put_lines-requires
put_lines-requires c = record { based = c.requires.based; from_le_to = (omega arith, omega arith); kept_each = c.requires.kept_each; to_value = c.requires.before_count_value; room_for = c.requires.room_for }

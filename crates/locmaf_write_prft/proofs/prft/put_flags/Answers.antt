-- `locmaf_write_prft::prft::put_flags` meets its contract: an id that stands in a `prft` unless it is what its absence means.
use native.Mathlib.Omega.{arith}
use Rattle.locmaf_write_prft.specs.Prft.{flags_items}
use Rattle.locmaf_write_prft.proofs.prft.put_flags.Goals as goal

pub if_absent-usual-requires : goal.if_absent-usual-requires
if_absent-usual-requires c = omega (arith, c.requires.s_len)

pub put_unless-requires : goal.put_unless-requires
unfolding flags_items
put_unless-requires c = record { v_value = rw c.if_absent-usual.ensures c.requires.p_value; room_for = rw c.if_absent-usual.ensures c.requires.room_for }

pub returns : goal.returns
unfolding flags_items
returns c = rw c.if_absent-usual.ensures at c.put_unless.ensures

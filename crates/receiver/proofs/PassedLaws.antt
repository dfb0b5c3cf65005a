-- What is known of an object and its share where no rule is broken. Assumes nothing.
use Prim.Native.Nat.{ℕ, ◌≤◌}
use mathlib.Core.Path.{◌≡◌}
use mathlib.Core.Bool.{true}
use mathlib.Core.List.{List, ◌∷◌, ◌++◌}
use borrow.Author.Tests.{leb-true}
use lib.Dec.{leb}
use lib.ListN.{length}
use Rattle.constants.specs.Maxima.{payload_most, number_most}
use Rattle.laws.specs.Ladder.{Rung, ◌else◌, Hold}
use Rattle.laws.proofs.LadderLaws.{hold-front, hold-back}
use Rattle.laws.proofs.TestLaws.{left, and_left, and_right}
use Rattle.wire.specs.declared.form.Row.{Row}
use Rattle.slots.specs.declared.lawful.Side.TheVariants.{Receiver}
use Rattle.slots.specs.Share.{track_of, is_open, lawful}
use Rattle.slots.specs.Calls.{opened_rungs}
use Rattle.locmaf_read_set.specs.Read.{set_rungs}
use Rattle.receiver.specs.Object.{is_delta, head_rungs, saying, payload}
use Rattle.receiver.specs.Receive.{reference, bmdt, prft, values_ok, sums_ok, ivs_fit, held_ok, split_rungs, value_rungs, judge_rungs, chunk, room_rungs, receive_rungs}

-- no rule is broken
pub record Passed (F : List Row) (o output s : List ℕ) : Type 0 where
  pub lawful : lawful Receiver s ≡ true
  pub opened : is_open s ≡ true
  pub head : Hold (head_rungs F o)
  pub held : held_ok F o s ≡ true
  pub split : Hold (split_rungs F o s)
  pub fields : Hold (set_rungs (track_of s) (is_delta F o) (reference F o s) (saying F o))
  pub values : values_ok F o s ≡ true
  pub sums : sums_ok F o s ≡ true
  pub ivs : ivs_fit F o s ≡ true
  pub room : length (chunk F o s) ≤ length output

pub passed : (F : List Row) (o output s : List ℕ) → Hold (receive_rungs F o output s) → Passed F o output s
unfolding receive_rungs value_rungs
passed F o output s h =
    let set : List Rung = set_rungs (track_of s) (is_delta F o) (reference F o s) (saying F o) in
    let last : List Rung = judge_rungs F o s ++ room_rungs F o output s in
    let behind : List Rung = (held_ok F o s else 11) ∷ last in
    let object : Hold (head_rungs F o ++ behind) = hold-back (opened_rungs Receiver s) (head_rungs F o ++ behind) h in
    let rest : Hold behind = hold-back (head_rungs F o) behind object in
    let judged : Hold (judge_rungs F o s) = hold-front (judge_rungs F o s) (room_rungs F o output s) rest.1 in
    let roomy : Hold (room_rungs F o output s) = hold-back (judge_rungs F o s) (room_rungs F o output s) rest.1 in
    let read : Hold (set ++ value_rungs F o s) = hold-back (split_rungs F o s) (set ++ value_rungs F o s) judged in
    let valued : Hold (value_rungs F o s) = hold-back set (value_rungs F o s) read in
    record {
      lawful = h.0;
      opened = h.1.0;
      head = hold-front (head_rungs F o) behind object;
      held = rest.0;
      split = hold-front (split_rungs F o s) (set ++ value_rungs F o s) judged;
      fields = hold-front set (value_rungs F o s) read;
      values = valued.0;
      sums = valued.1.0;
      ivs = valued.1.1.0;
      room = leb-true _ _ roomy.0;
    }

-- of the values, what the new share rests on
pub value-facts : (F : List Row) (o s : List ℕ) → values_ok F o s ≡ true
    → (bmdt F o s ≤ number_most) × ((prft F o s).ok ≡ true) × (length (payload F o) ≤ payload_most)
unfolding values_ok
value-facts F o s h =
    let ok = left _ _ h in
    let rest = and_right (leb (bmdt F o s) number_most) _ ok in (
      leb-true _ _ (and_left (leb (bmdt F o s) number_most) _ ok),
      and_left (prft F o s).ok _ rest,
      leb-true _ _ (and_left (leb (length (payload F o)) payload_most) _ (and_right (prft F o s).ok _ rest)),
    )

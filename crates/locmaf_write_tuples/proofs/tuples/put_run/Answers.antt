-- `locmaf_write_tuples::tuples::put_run` meets its contract: the head, and the numbers after it.
use Prim.Native.Nat.{ℕ, ◌+◌, ◌-◌, ◌≤◌, ◌<◌}
use mathlib.Core.Path.{◌≡◌}
use mathlib.Core.Bool.{true}
use mathlib.Core.List.{List, [], ◌∷◌, ◌++◌}
use lib.ListN.{length}
use Rattle.laws.specs.Options.{is_some}
use Rattle.constants.specs.Ids.{id_count}
use Rattle.constants.specs.Maxima.{subsamples_most, block_most}
use Rattle.wire.specs.declared.form.Form.{Form}
use Rattle.wire.specs.declared.zigzag.Coding.{Coding}
use Rattle.laws.proofs.PartLaws.{Parts, parts_all, parts-room, parts_then, parts_none}
use Rattle.wire.specs.Form.{rows}
use Rattle.wire.specs.Varint.{encode, size_of}
use Rattle.runs.specs.Run.{run_of}
use Rattle.locmaf_write_tuples.specs.Items.{run_item, bytes_of, RoomFor}
use Rattle.locmaf_write_tuples.proofs.TupleLaws.{run-head, run-body, body-found}
use Rattle.locmaf_write_tuples.proofs.tuples.put_run.Goals as goal

pub overflow_sub-bytes : goal.overflow_sub-bytes
overflow_sub-bytes c =
    let a = c.args in
    let p = c.requires in
    run-head a.form a.coding a.id a.base a.old.now a.new.now p.id_lt_id_count.0 p.id_lt_id_count.1 p.value _ _ p.bytes_value c.size.ensures

pub body_in-n-requires : goal.body_in-n-requires
body_in-n-requires c =
    let a = c.args in
    let p = c.requires in
    run-body a.form a.coding a.id a.base a.old.now a.new.now p.id_lt_id_count.0 p.id_lt_id_count.1 p.value _ _ p.bytes_value c.size.ensures

-- the tuple in two parts, where the length n of its body was found
parts : (form : Form) (coding : Coding) (id base : ℕ) (old new : List ℕ) → id < id_count → length new ≤ subsamples_most
    → is_some (run_item (rows form) coding id base old new) ≡ true → (bytes s : ℕ) → bytes ≡ length (bytes_of (rows form) (run_item (rows form) coding id base old new))
    → s ≡ size_of (rows form) id → (n : ℕ) → ((k : ℕ) → k ≤ block_most → bytes - s ≡ size_of (rows form) k + k → n ≡ k)
    → (out : List ℕ) (at : ℕ) → RoomFor (rows form) (run_item (rows form) coding id base old new) out at
    → Parts out at (bytes_of (rows form) (run_item (rows form) coding id base old new)) out at
    ((encode (rows form) id ++ encode (rows form) n) ∷ run_of (rows form) coding base old new ∷ [])
parts form coding id base old new low short fits bytes s all head n is out at room =
    parts_all out at _ (body-found form coding id base old new low short fits bytes s all head n is) room

pub put_head-a-requires : goal.put_head-a-requires
put_head-a-requires c =
    let a = c.args in
    let p = c.requires in
    parts-room (parts a.form a.coding a.id a.base a.old.now a.new.now p.id_lt_id_count.0 p.id_lt_id_count.1 p.value _ _ p.bytes_value
    c.size.ensures _ c.body_in-n.ensures _ _ p.room_for)

pub put-requires : goal.put-requires
put-requires c =
    let a = c.args in
    let p = c.requires in
    parts-room (parts_then (parts a.form a.coding a.id a.base a.old.now a.new.now p.id_lt_id_count.0 p.id_lt_id_count.1 p.value _ _ p.bytes_value
    c.size.ensures _ c.body_in-n.ensures _ _ p.room_for) c.put_head-a.ensures)

pub returns : goal.returns
returns c =
    let a = c.args in
    let p = c.requires in
    parts_none (parts_then (parts_then (parts a.form a.coding a.id a.base a.old.now a.new.now p.id_lt_id_count.0 p.id_lt_id_count.1 p.value _ _ p.bytes_value
    c.size.ensures _ c.body_in-n.ensures _ _ p.room_for) c.put_head-a.ensures) c.put.ensures)

-- `locmaf_read_field::cells::take` meets its contract, by the laws of `proofs/TakeLaws.antt`.
use Rattle.locmaf_read_field.proofs.CellLaws.{taken-always}
use Rattle.locmaf_read_field.proofs.TakeLaws.{take-deleted, take-omitted, take-sent}
use Rattle.locmaf_read_field.proofs.cells.take.Goals as goal

pub send-requires : goal.send-requires
send-requires c =
    let p = c.requires in
    record { region_fits = p.takeable; spans = rw c.in-Sent.is at p.spans }

pub returns-in-Deleted : goal.returns-in-Deleted
returns-in-Deleted c = taken-always (take-deleted _ _ _ _ _ _ _ _ _ _ _ _ c.in-Deleted.is c.well.ensures)

pub shape_of-x-in-Omitted : goal.shape_of-x-in-Omitted
shape_of-x-in-Omitted c = c.keep.ensures.long

pub returns-in-Omitted : goal.returns-in-Omitted
returns-in-Omitted c = take-omitted _ _ _ _ _ _ _ _ _ _ _ _ _ c.in-Omitted.is c.keep.ensures

pub shape_of-x-in-Sent : goal.shape_of-x-in-Sent
shape_of-x-in-Sent c = c.send.ensures.long

pub returns-in-Sent : goal.returns-in-Sent
returns-in-Sent c = taken-always (take-sent _ _ _ _ _ _ _ _ _ _ _ _ _ _ c.in-Sent.is c.send.ensures)

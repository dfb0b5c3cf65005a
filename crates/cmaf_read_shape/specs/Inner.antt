-- The boxes inside the `moof`. 01: "`moof` has `mfhd`, then one `traf`: `tfhd`, `tfdt` (version 0 or 1), `trun` (0 or 1), then `senc`, `saiz`,
-- `saio` in any order, all three or none."
-- ==== The rules
use Rattle.std.specs.Prelude.{ℕ, ◌+◌, Bool, cond, not, ◌&&◌, ◌||◌, List, eqb}
use Rattle.boxes.specs.Box as kinds
use Rattle.byte_parts.specs.declared.Part.{Part}
use Rattle.cmaf_read_shape.specs.declared.parts.Any.{Any}
use Rattle.cmaf_read_shape.specs.declared.inner.Inner.{Inner}
use Rattle.cmaf_read_shape.specs.declared.inner.Last.{Last}
use Rattle.cmaf_read_shape.specs.Parts.{part, end_of, body_of, any_at, box_at, first_in}

-- "in any order": the one of three boxes that has the type; of no bytes if none has it
unfoldable pub pick_of : ℕ → Any → Any → Any → Part
pick_of kind a b d =
    cond (eqb a.kind kind) (part a.at a.len)
    (cond (eqb b.kind kind) (part b.at b.len)
    (cond (eqb d.kind kind) (part d.at d.len)
    (part a.at 0)))

-- "then `senc`, `saiz`, `saio` in any order": up to three boxes from the place at on, in the list that ends at the place end
unfoldable pub last_of : List ℕ → ℕ → ℕ → Last
last_of c at end =
    let a = any_at c at end in
    let b = any_at c (a.at + a.len) end in
    let d = any_at c (b.at + b.len) end in
    record { senc = pick_of kinds.senc a b d; saiz = pick_of kinds.saiz a b d; saio = pick_of kinds.saio a b d; end = d.at + d.len }

-- "`tfhd`, `tfdt`, `trun`", and these: each box where the one before it ends, of no bytes if it doesn't stand there (D28)
unfoldable pub traf_of : List ℕ → Part → Part → Inner
traf_of c mfhd traf =
    let boxes = body_of traf in
    let tfhd = first_in c traf kinds.tfhd in
    let tfdt = box_at c (end_of tfhd) (end_of boxes) kinds.tfdt in
    let trun = box_at c (end_of tfdt) (end_of boxes) kinds.trun in
    let last = last_of c (end_of trun) (end_of boxes) in
    record {
      mfhd = mfhd;
      traf = traf;
      tfhd = tfhd;
      tfdt = tfdt;
      trun = trun;
      senc = last.senc;
      saiz = last.saiz;
      saio = last.saio;
      end = last.end;
    }

-- "`moof` has `mfhd`, then one `traf`"
unfoldable pub inner_of : List ℕ → Part → Inner
inner_of c moof =
    let mfhd = first_in c moof kinds.mfhd in
    let traf = box_at c (end_of mfhd) (end_of (body_of moof)) kinds.traf in
    traf_of c mfhd traf

-- "all three or none": nothing after the `trun`; or each type among the three boxes after it, and nothing after these (D35)
unfoldable pub three_or_none : Inner → Bool
three_or_none f =
    eqb (end_of f.trun) (end_of f.traf)
    || ((not (eqb f.senc.len 0) && (not (eqb f.saiz.len 0) && not (eqb f.saio.len 0))) && eqb f.end (end_of f.traf))

-- the boxes that must stand do, and the `traf` ends with the `moof`
unfoldable pub inner_ok : Part → Inner → Bool
inner_ok moof f =
    (not (eqb f.mfhd.len 0)
    && (not (eqb f.traf.len 0)
    && (not (eqb f.tfhd.len 0) && (not (eqb f.tfdt.len 0) && not (eqb f.trun.len 0)))))
    && (eqb (end_of f.traf) (end_of moof) && three_or_none f)

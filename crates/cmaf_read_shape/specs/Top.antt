-- The boxes at the top of a chunk. 01: "Order: `styp`? `prft`? `emsg`* `moof` `mdat`, nothing after."
-- ==== The rules
use Rattle.std.specs.Prelude.{ℕ, suc, ◌+◌, ◌-◌, Bool, cond, not, ◌&&◌, List, eqb, length, drop}
use Rattle.laws.specs.ByLength.{by_length}
use Rattle.laws.specs.Tests.{◌and◌}
use Rattle.boxes.specs.Box as kinds
use Rattle.cmaf_read_tree.specs.Whole.{size_of, kind_of, after_of, sized}
use Rattle.cmaf_read_shape.specs.declared.top.Top.{Top}
use Rattle.cmaf_read_shape.specs.declared.top.Row.{Row}
use Rattle.cmaf_read_shape.specs.Parts.{part, end_of, box_at}

abbrev pub row : ℕ → ℕ → Row
row end count = record { end = end; count = count }

-- "`emsg`*": the boxes of this type at the front of a list, as many as there are: their bytes, and their number. The equation of `emsgs`:
abbrev pub emsgs_by : (List ℕ → Row) → List ℕ → Row
emsgs_by emsgs l =
    cond (sized l and eqb (kind_of l) kinds.emsg)
    (row (size_of l + (emsgs (after_of l)).end) (suc (emsgs (after_of l)).count))
    (row 0 0)

unfoldable pub emsgs : List ℕ → Row
emsgs l = by_length (row 0 0) emsgs_by l

-- those from the place at on: the place after them, and their number
unfoldable pub emsgs_from : List ℕ → ℕ → Row
emsgs_from c at = row (at + (emsgs (drop at c)).end) (emsgs (drop at c)).count

-- "`styp`? `prft`? `emsg`* `moof` `mdat`": each box where the one before it ends, of no bytes if it doesn't stand there
unfoldable pub top_of : List ℕ → Top
top_of c =
    let styp = box_at c 0 (length c) kinds.styp in
    let prft = box_at c (end_of styp) (length c) kinds.prft in
    let run = emsgs_from c (end_of prft) in
    let moof = box_at c run.end (length c) kinds.moof in
    let mdat = box_at c (end_of moof) (length c) kinds.mdat in
    record {
      styp = styp;
      prft = prft;
      emsgs = part (end_of prft) (run.end - end_of prft);
      events = run.count;
      moof = moof;
      mdat = mdat;
    }

-- `moof` and `mdat` stand, "nothing after" (D16)
unfoldable pub top_ok : List ℕ → Top → Bool
top_ok c top = not (eqb top.moof.len 0) && (not (eqb top.mdat.len 0) && eqb (end_of top.mdat) (length c))

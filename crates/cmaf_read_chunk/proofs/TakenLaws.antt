-- What is taken of the boxes of a chunk. Assumes nothing.
use Prim.Native.Nat.{ℕ, ◌+◌}
use mathlib.Core.Path.{◌≡◌, sym, ◌∙◌, ap}
use mathlib.Core.Bool.{true}
use mathlib.Core.List.{List}
use lib.ListN.{drop}
use Rattle.laws.proofs.SliceLaws.{slice-to-end}
use Rattle.track.specs.declared.Track.{Track}
use Rattle.byte_parts.specs.declared.Part.{Part}
use Rattle.cmaf_read_shape.specs.declared.top.Top.{Top}
use Rattle.cmaf_read_shape.specs.Parts.{body_of, end_of}
use Rattle.cmaf_read_shape.specs.Top.{top_of}
use Rattle.cmaf_read_shape.proofs.PartLaws.{body-in}
use Rattle.cmaf_read_shape.proofs.TopLaws.{top-says, top-eights}
use Rattle.prft_value.specs.declared.Prft.{Prft}
use Rattle.cmaf_read_prelude.specs.Prft.{prft_of}
use Rattle.cmaf_read_chunk.specs.Accepted.{top, prft, payload}
use Rattle.cmaf_read_boxes.specs.Right.{boxes_ok}
use Rattle.cmaf_read_chunk.specs.Chunks.{taken_as}
use Rattle.cmaf_read_boxes.proofs.BoxLaws.{boxes-hold}

pub taken-by : (c : List ℕ) (top : Top) (list : ℕ) {p : Prft} {b d : Part} → top ≡ top_of c
    → p ≡ prft_of c top.prft → b ≡ body_of top.styp → d ≡ body_of top.mdat
    → record { prft = p; events = top.events; list = list; brands = b; payload = d } ≡ taken_as c list
unfolding prft
taken-by c top list et ep eb ed = rw (ep, eb, ed, et)

-- the payload is what is left of the chunk behind the header of the `mdat`
pub payload-behind : (t : Track) (c : List ℕ) → boxes_ok t c ≡ true → payload c ≡ drop ((top c).mdat.at + 8) c
unfolding payload
payload-behind t c e =
    let k = (boxes-hold t c e).top-ok in
    let mdat = body-in (top c).mdat in
    let long = (top-eights c k).1 in
    slice-to-end (body_of (top c).mdat).at (end_of (body_of (top c).mdat)) c (sym (mdat.same_end long ∙ (top-says c (top c) k).ends))
    ∙ ap (λ (n : ℕ). drop n c) (mdat.past_head long)

-- The boxes before the `moof`: each is one box, or none where it may be missing; the `styp` and the body of a box, read. Assumes nothing.
use Prim.Native.Nat.{ℕ, ◌+◌, ◌%◌, ◌≤◌}
use native.Mathlib.Omega.{arith}
use mathlib.Core.Path.{◌≡◌, sym, ◌∙◌, ap, ap₂, refl}
use mathlib.Core.List.{List, [], ◌∷◌, ◌++◌, append_assoc}
use lib.ListN.{length, take, drop, length-append, take-append-drop, length-take, length-drop}
use lib.Seq.{length-take-le, take_at, drop_at, slice_empty}
use Rattle.constants.specs.Maxima.{brand_bytes_most}
use Rattle.laws.specs.Bytes.{be}
use Rattle.laws.proofs.BytesLaws.{length-be}
use Rattle.boxes.specs.Box.{box, when}
use Rattle.boxes.specs.Box as B
use Rattle.boxes.proofs.BoxLaws.{length-box, length-full_box}
use Rattle.byte_parts.specs.declared.Part.{Part}
use Rattle.cmaf_read_shape.specs.Parts.{part, body_of}
use Rattle.cmaf_write_prelude.specs.Prelude.{styp_box, media_bytes, prft_box}
use Rattle.cmaf_write_emsg.specs.Emsg.{emsg_box, emsg_boxes}
use Rattle.event_value.specs.Events.{Event}
use Rattle.cmaf_read_chunk.specs.Accepted.{bytes_at, brands_of}
use Rattle.cmaf_read_shape.specs.Left.{Left}
use Rattle.cmaf_read_shape.proofs.LeftLaws.{left-inside, body-part}
use mathlib.Core.Bool.{Bool, true, false, cond}
use lib.Dec.{eqb}
use Rattle.track.specs.declared.Track.{Track}
use Rattle.cmaf_read_tree.specs.Whole.{container, whole}
use Rattle.cmaf_read_shape.proofs.OneBoxLaws.{OneBox, leaf-box, leaf-full, one-front, Maybe, stands, lacks}
use Rattle.prft_value.specs.declared.Prft.{Prft}
use Rattle.rebuilt.specs.Chunk.{Short, AllShort}

-- each is one box, or none where it may be missing
pub styp-box : (bs : List ℕ) → length bs ≤ brand_bytes_most → Maybe B.styp (styp_box bs)
unfolding styp_box container
styp-box [] h = lacks refl
styp-box (b ∷ bs) h =
    stands (leaf-box B.styp _ (simp (length-box, length-append, length-be, length-take, length-drop) (omega arith)) (omega arith) refl)

media-few : (version media : ℕ) → length (media_bytes version media) ≤ 8
unfolding media_bytes
media-few version media = by (eqb version 0)
  where
    by : (b : Bool) → length (cond b (be 4 media) (be 8 media)) ≤ 8
    by true = simp length-be (omega arith)
    by false = simp length-be (omega arith)

when-box : {kind : ℕ} {xs : List ℕ} (b : Bool) → OneBox kind xs → Maybe kind (when b xs)
when-box true x = stands x
when-box false x = lacks refl

pub prft-box : (t : Track) (p : Prft) → Maybe B.prft (prft_box t p)
unfolding prft_box container
prft-box t p =
    when-box p.stands
    (leaf-full B.prft p.version p.flags _ (simp (length-full_box, length-append, length-be) (omega (arith, media-few p.version p.media.0)))
    (omega arith) refl)

pub emsg-box : (e : Event) → Short e → OneBox B.emsg (emsg_box e)
unfolding emsg_box container
emsg-box e h = leaf-full B.emsg 1 0 _ (simp (length-full_box, length-append, length-be) (omega (arith, h))) (omega arith) refl

pub emsgs-front : (es : List Event) (l : List ℕ) → AllShort es → whole (emsg_boxes es ++ l) ≡ whole l
unfolding emsg_boxes
emsgs-front [] l h = refl
emsgs-front (e ∷ es) l h = rw append_assoc (one-front (emsg-box e h.0) (emsg_boxes es ++ l) ∙ emsgs-front es l h.1)

-- the bytes of a box that stands
pub box-bytes : {c : List ℕ} {at end : ℕ} (type : ℕ) (body ys : List ℕ) → Left c at end (box type body ++ ys)
    → bytes_at c (body_of (part at (8 + length body))) ≡ body
box-bytes {c} {at} {end} type body ys h = ap (λ (p : Part). bytes_at c p) (body-part at (length body)) ∙ (left-inside type body ys h).is

-- brands with their minor version, and without
brands-back : (ns : List ℕ) → 4 ≤ length ns → brands_of (take 4 ns ++ (be 4 0 ++ drop 4 ns)) ≡ ns
unfolding brands_of
brands-back ns h =
    let n : length (take 4 ns) ≡ 4 = length-take-le 4 ns h in
    let m : length (take 4 ns ++ be 4 0) ≡ 8 = omega (arith, length-append (take 4 ns) (be 4 0), length-be 4 0) in
    ap₂ (λ (a b : List ℕ). a ++ b) (take_at (take 4 ns) (be 4 0 ++ drop 4 ns) 4 n)
    (ap (drop 8) (sym (append_assoc (take 4 ns) (be 4 0) (drop 4 ns))) ∙ drop_at (take 4 ns ++ be 4 0) (drop 4 ns) 8 m)
    ∙ take-append-drop 4 ns

-- the brands of the `styp`, or none
pub brands-read : {c : List ℕ} {end : ℕ} (ns ys : List ℕ) → length ns % 4 ≡ 0 → Left c 0 end (styp_box ns ++ ys)
    → brands_of (bytes_at c (body_of (part 0 (length (styp_box ns))))) ≡ ns
unfolding styp_box brands_of body_of
brands-read {c} {end} [] ys fours h = ap (λ (l : List ℕ). take 4 l ++ drop 8 l) (slice_empty 0 c)
brands-read {c} {end} (b ∷ bs) ys fours h =
    let ns : List ℕ = b ∷ bs in
    let body : List ℕ = take 4 ns ++ (be 4 0 ++ drop 4 ns) in
    ap (λ (n : ℕ). brands_of (bytes_at c (body_of (part 0 n)))) (length-box B.styp body)
    ∙ ap brands_of (box-bytes B.styp body ys h)
    ∙ brands-back ns (omega arith)

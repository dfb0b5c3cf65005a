-- What is written of a chunk that was accepted, and what stands in the share then. Assumes nothing.
use Prim.Native.Nat.{ℕ, ◌≤◌, ◌<◌}
use native.Mathlib.Omega.{arith}
use mathlib.Core.Path.{◌≡◌, sym, ◌∙◌, ap, subst}
use mathlib.Core.Bool.{Bool}
use mathlib.Core.List.{List}
use borrow.Author.Tests.{le-leb, lt-leb}
use lib.ListN.{length, get_or}
use lib.Seq.{length-slice}
use Rattle.laws.proofs.LadderLaws.{broken, passed, top}
use Rattle.laws.proofs.WriteLaws.{wrote-front, wrote_as}
use Rattle.wire.specs.declared.form.Row.{Row}
use Rattle.wire.specs.declared.form.Form.{Form}
use Rattle.wire.specs.Form.{rows}
use Rattle.track.specs.declared.Track.{Track}
use Rattle.byte_parts.specs.declared.Part.{Part}
use Rattle.cmaf_read_shape.specs.Parts.{body_of, end_of}
use Rattle.share_words.specs.Share.{accepted_at}
use Rattle.slots.specs.Share.{track_of}
use Rattle.slots.specs.Table.{out}
use Rattle.std.specs.Prelude.{Some, None, Ok}
use Rattle.answers.specs.Took.{took}
use Rattle.answers.specs.declared.answer.Answer.{Answer}
use Rattle.answers.specs.Answered.{handed, AnsweredAs}
use Rattle.reference.specs.Kept.{kept_words}
use Rattle.cmaf_read_chunk.specs.declared.read.Chunk.{Chunk}
use Rattle.cmaf_read_chunk.specs.Accepted.{bytes_at, prft, payload, fields}
use Rattle.cmaf_read_chunk.specs.Accepted as A
use Rattle.encoder.specs.declared.front.Plan.{Plan}
use Rattle.encoder.specs.Object.{gives_delta, object_of, front}
use Rattle.encoder.specs.Encode.{refusing, last_rungs, kept, on_accepted}
use Rattle.encoder.specs.Planned.{Encodable, front_bytes, WrittenAs, PlannedAs}
use Rattle.cmaf_read_chunk.proofs.ChunkFacts.{payload-in}
use Rattle.encoder.proofs.FrontLaws.{planned-front, front_length}

module _ (form : Form) (t : Track) (s c : List ℕ) (k : Chunk) (ws x : List ℕ) (e : Encodable (rows form) t s c k ws x) where
  abbrev F : List Row
  F = rows form

  -- ---- the payload

  part-is : body_of (A.top c).mdat ≡ k.payload
  part-is = ap (λ (z : Chunk). z.payload) (sym e.accepted.chunk-is)

  part-in : end_of k.payload ≤ length c
  part-in = subst (λ (p : Part). end_of p ≤ length c) part-is (payload-in c)

  part_bytes : bytes_at c k.payload ≡ payload c
  unfolding payload
  part_bytes = ap (bytes_at c) (sym part-is)

  part_length : k.payload.len ≡ length (payload c)
  part_length =
      let n = length-slice k.payload.at (end_of k.payload) c part-in in
      omega (arith, n, ap length part_bytes)

  -- ---- the returns

  module _ (wish : Bool) (output : List ℕ) where
    -- there is no object for it
    pub unfit : PlannedAs F s c wish None → refusing output s 9 ≡ on_accepted F wish c output s
    unfolding last_rungs
    unfit p = broken _ 9 _ _ _ (sym p.answered)

    module _ (a : Plan) (p : PlannedAs F s c wish (Some a)) (n : ℕ) (q : n ≡ front_bytes F a) where
      long : n ≡ length (front F s c wish)
      long = q ∙ front_length form p.plan

      -- what its length is, is at most as much as there is
      pub room : (m : ℕ) → n ≤ m → length (object_of F s c a.delta) ≤ m
      room m l = omega (arith, long, ap length (planned-front form p.plan))

      -- there is no room for it
      pub short : length output < n → refusing output s 17 ≡ on_accepted F wish c output s
      unfolding last_rungs
      short l = passed _ 9 _ _ _ (sym p.answered) (broken _ 17 _ _ _ (lt-leb (length (front F s c wish)) (length output) (omega (arith, long))))

      -- there is
      pub done-is : n ≤ length output → {r : Answer} {after words : List ℕ} → WrittenAs F s c a k x output r after words
          → AnsweredAs (on_accepted F wish c output s) c (Ok r) after words
      unfolding last_rungs kept
      done-is l {r = ans} {after} {words} g =
          let f = wrote-front (wrote_as (planned-front form p.plan) g.written) in
          let d : a.delta ≡ gives_delta F s c wish = p.plan.kind in
          let r : k.prft ≡ prft c = ap (λ (z : Chunk). z.prft) e.accepted.chunk-is in
          let v : x ≡ fields (track_of s) c = e.accepted.set_is ∙ ap (λ (u : Track). fields u c) e.on-share.track-is in
          let y : words ≡ kept F wish c output s = g.kept ∙ (λ i. kept_words (d i) (get_or s accepted_at 0) (r i) (v i) (part_length i) s) in
          record {
            so =
                ap (λ (z : Answer). out (handed c (Ok z) after) words) g.answer
                ∙ passed _ 9 _ _ _ (sym p.answered)
                (passed _ 17 _ _ _ (le-leb (length (front F s c wish)) (length output) (omega (arith, long)))
                ((λ i. out (took 0 (f.0 i) (part_bytes i) (f.1 i)) (y i)) ∙ top _ _));
            inside = subst (λ (z : Answer). end_of z.payload ≤ length c) (sym g.answer) part-in;
          }

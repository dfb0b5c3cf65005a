-- The events of a chunk, as its boxes have them, are those that are kept of it as words. Assumes nothing.
use Prim.Native.Nat.{ℕ, zero, suc, ◌+◌, ◌-◌, ◌*◌, ◌≤◌}
use native.Mathlib.Nat.{add-zero}
use native.Mathlib.Omega.{arith}
use mathlib.Core.Path.{◌≡◌, refl, sym, ◌∙◌, ap₂}
use mathlib.Core.Bool.{true}
use mathlib.Core.List.{List, ◌∷◌, ◌++◌, append_assoc}
use lib.ListN.{length, get_or, length-append}
use lib.Seq.{slice, get_or-append-add}
use Rattle.laws.proofs.SliceLaws.{slice-lent}
use Rattle.laws.proofs.TestLaws.{left, right}
use Rattle.byte_parts.specs.declared.Part.{Part}
use Rattle.cmaf_read_shape.specs.Parts.{end_of, Inside}
use Rattle.event_value.specs.Events.{Event, part, event_at}
use Rattle.event_value.specs.Events as E
use Rattle.cmaf_read_prelude.specs.Emsg.{scheme_at, scheme_end, value_end, emsg_ok, emsg_at, emsgs_ok, box_words, emsg_words}
use Rattle.cmaf_read_prelude.proofs.EmsgLaws.{strings, emsg-inside}
use Rattle.cmaf_read_prelude.proofs.EventLaws.{event-length}
use Rattle.meaning.specs.Meaning.{event_of, events_from}

module _ (c : List ℕ) where
  -- a text by two words, its place and its length
  text-is : {at size : ℕ} (from to : ℕ) → at ≡ from → size ≡ to - from → from ≤ to → to ≤ length c → part c at size ≡ slice from to c
  text-is from to p q h k = ap₂ (part c) p q ∙ slice-lent from to c h k

  -- an event by its ten words, which stand among others
  event-means : (b : Part) (pre rest : List ℕ) (i : ℕ) → length pre ≡ 10 * i → Inside c b → emsg_ok c b ≡ true
      → event_at c (pre ++ (box_words c b ++ rest)) i ≡ event_of c b
  unfolding event_at event_of box_words
  event-means b pre rest i n inside ok =
      let s = strings c b ok in
      let within : end_of b ≤ length c = inside.within in
      let word : (q : ℕ) → get_or (pre ++ (box_words c b ++ rest)) (10 * i + q) 0 ≡ get_or (box_words c b ++ rest) q 0 =
      λ q. rw (← n) (get_or-append-add pre (box_words c b ++ rest) q 0) in
      λ x.
      record {
        scheme = text-is (scheme_at b) (scheme_end c b) (rw add-zero at (word 0)) (word 1) s.scheme-from (omega (arith, s.scheme-to)) x;
        value = text-is (scheme_end c b + 1) (value_end c b) (word 2) (word 3) s.value-from (omega (arith, s.value-to)) x;
        timescale = word 4 x;
        time = word 5 x;
        duration = word 6 x;
        id = word 7 x;
        message = text-is (value_end c b + 1) (end_of b) (word 8) (word 9) (omega (arith, s.value-to)) within x;
      }

  -- k of them from a place on
  pub events-mean : (k i at : ℕ) (pre : List ℕ) → length pre ≡ 10 * i → at ≤ length c → emsgs_ok c k at ≡ true
      → events_from c k at ≡ E.events_from c (pre ++ emsg_words c k at) k i
  unfolding events_from E.events_from emsg_words emsgs_ok
  events-mean zero i at pre n h ok = refl
  events-mean (suc k) i at pre n h ok =
      let b : Part = emsg_at c at in
      let rest : List ℕ = emsg_words c k (end_of b) in
      let m : length (pre ++ box_words c b) ≡ 10 * suc i = omega (arith, length-append pre (box_words c b), event-length c b) in
      ap₂ (λ (e : Event) (es : List Event). e ∷ es) (sym (event-means b pre rest i n (emsg-inside c at h) (left _ _ ok)))
      (rw append_assoc at (events-mean k (suc i) (end_of b) (pre ++ box_words c b) m (emsg-inside c at h).within (right _ _ ok)))

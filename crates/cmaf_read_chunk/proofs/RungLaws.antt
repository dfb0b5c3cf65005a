-- The numbers of a chunk, by the tests of the code in their order. Assumes nothing.
use Prim.Native.Nat.{ℕ, ◌*◌, ◌≤◌, ◌<◌}
use native.Mathlib.Omega.{arith}
use mathlib.Core.Path.{◌≡◌, refl, sym, ◌∙◌, ap, subst}
use mathlib.Core.Bool.{Bool, true, false, not}
use mathlib.Core.List.{List}
use borrow.Author.Tests.{le-leb, lt-leb, not-false}
use lib.ListN.{length}
use Rattle.laws.specs.Gate.{gate}
use Rattle.laws.specs.Ladder.{ladder}
use Rattle.laws.specs.Tests.{◌and◌}
use Rattle.laws.proofs.LadderLaws.{number_of, broken, passed, top as done}
use Rattle.laws.proofs.GateLaws.{failed, held}
use Rattle.laws.proofs.TestLaws.{left, both}
use Rattle.constants.specs.Maxima.{event_bytes_most}
use Rattle.wire.specs.declared.form.Row.{Row}
use Rattle.track.specs.declared.Track.{Track}
use Rattle.cmaf_read_tree.specs.Whole.{whole}
use Rattle.cmaf_read_shape.specs.declared.top.Top.{Top}
use Rattle.cmaf_read_shape.specs.declared.inner.Inner.{Inner}
use Rattle.cmaf_read_shape.specs.Top.{top_of}
use Rattle.cmaf_read_shape.specs.Inner.{inner_of}
use Rattle.event_value.specs.Events.{event_words}
use Rattle.locmaf_write_events.specs.Records.{list_bytes}
use Rattle.cmaf_read_rules.specs.Rules.{rules_ok}
use Rattle.cmaf_read_chunk.specs.declared.read.Chunk.{Chunk}
use Rattle.std.specs.Prelude.{Some, None, Ok, Err}
use Rattle.std.proofs.lemmas.Option.{none-some, same_Some}
use Rattle.std.proofs.lemmas.Result.{IfOk-at_ok}
use Rattle.refusal.specs.declared.Refusal.{Refusal}
use Rattle.refusal.specs.declared.Refusal.TheVariants.{PastMaximum, BrokenRule}
use Rattle.refusal.specs.Numbers.{number_of as number}
use Rattle.cmaf_read_chunk.specs.Accepted.{top, inner, boxes, events, fields, counts_ok, maxima_ok, late_rungs, accept_rungs}
use Rattle.cmaf_read_boxes.specs.Right.{boxes_ok}
use Rattle.cmaf_read_chunk.specs.Chunks.{taken_as, Listed, CountedAs, SettledAs, Accepted, ReadAs}
use Rattle.cmaf_read_chunk.proofs.EventLaws.{words-there}

module _ (F : List Row) (t : Track) (c : List ℕ) where
  -- ---- the maxima

  -- one is passed
  maxima-break : {ws : List ℕ} → maxima_ok F t c ≡ false → CountedAs F t c None ws
  maxima-break e = record { answered = sym e; listed = λ n z. absurd (none-some _ z) }

  -- by a count
  pub counts-break : {ws : List ℕ} → counts_ok t c ≡ false → CountedAs F t c None ws
  unfolding maxima_ok ◌and◌
  counts-break e = maxima-break (rw e)

  module _ (k : counts_ok t c ≡ true) {list : ℕ} (l : list ≡ list_bytes F (events t c)) where
    -- or by the bytes of the list
    pub list-breaks : {ws : List ℕ} → event_bytes_most < list → CountedAs F t c None ws
    unfolding maxima_ok ◌and◌
    list-breaks h = maxima-break (rw k (lt-leb (list_bytes F (events t c)) event_bytes_most (omega (arith, l))))

    -- none is
    pub maxima-keep : {ws : List ℕ} → list ≤ event_bytes_most → Listed F t c list ws → CountedAs F t c (Some list) ws
    unfolding maxima_ok
    maxima-keep h s =
        let m : maxima_ok F t c ≡ true = both _ _ k (le-leb (list_bytes F (events t c)) event_bytes_most (omega (arith, l))) in
        record { answered = sym m; listed = λ n z. rw (sym (same_Some _ _ z)) s }

  -- none was passed
  module _ {list : ℕ} {ws : List ℕ} (h : CountedAs F t c (Some list) ws) where
    maxima-kept : maxima_ok F t c ≡ true
    maxima-kept = sym h.answered

    pub counts-kept : counts_ok t c ≡ true
    unfolding maxima_ok
    counts-kept = left _ _ maxima-kept

    -- and the words of the events are there
    pub events-there : {y : Top} → y ≡ top_of c → event_words * y.events ≤ length ws
    events-there et = rw et (words-there ws (top c).events (h.listed list refl).words)

  -- ---- all of them

  read_none : (q : Refusal) {ws x : List ℕ} → number q ≡ number_of (accept_rungs F t c) → ReadAs F t c (Err q) ws x
  read_none q h = record { answered = h; taken = λ k z. absurd (IfOk-at_ok (λ _. ⊥) z tt) }

  -- a box is wrong, or the tree is broken, which comes before it
  pub boxes-break : {q : Refusal} {ws x : List ℕ} → boxes_ok t c ≡ false → number q ≡ gate (whole c) 5 6 → ReadAs F t c (Err q) ws x
  unfolding accept_rungs ladder gate
  boxes-break {q} h e = read_none q (e ∙ ap (gate (whole c) 5) (broken _ 6 (late_rungs F t c) (λ n. n) 0 h))

  module _ (w : whole c ≡ true) (b : boxes_ok t c ≡ true) where
    -- past the tree and the boxes
    late : {n : ℕ} → n ≡ number_of (late_rungs F t c) → n ≡ number_of (accept_rungs F t c)
    unfolding accept_rungs
    late e = passed _ 5 _ (λ n. n) 0 w (passed _ 6 _ (λ n. n) 0 b e)

    -- a maximum is passed
    pub counted-break : {ws vs x : List ℕ} → CountedAs F t c None ws → ReadAs F t c (Err PastMaximum) vs x
    unfolding late_rungs
    counted-break h = read_none PastMaximum (late (broken _ 8 _ (λ n. n) 0 (sym h.answered)))

    -- none is
    module _ {list : ℕ} {ws : List ℕ} (h : CountedAs F t c (Some list) ws) {y : Top} {f : Inner} (et : y ≡ top_of c) (ef : f ≡ inner_of c y.moof)
        {ok : Bool} {x : List ℕ} (s : SettledAs t c y f ws ok x) where
      -- the rules that were asked are the chunk's
      rules-are : ok ≡ rules_ok t c (top c) (inner c) (boxes c)
      rules-are = s.asked ∙ rw (ef, et, (h.listed list refl).boxes-are)

      -- a rule is broken
      pub rules-break : {vs xs : List ℕ} → not ok ≡ true → ReadAs F t c (Err BrokenRule) vs xs
      unfolding late_rungs
      rules-break n = read_none BrokenRule (late (passed _ 8 _ (λ n. n) 0 (maxima-kept h) (broken _ 7 _ (λ n. n) 0 (failed rules-are n))))

      -- none is
      pub rules-keep : {k : Chunk} → k ≡ taken_as c list → not ok ≡ false → ReadAs F t c (Ok k) ws x
      unfolding late_rungs fields
      rules-keep {k} e n =
          let l : k.list ≡ list = ap (λ (y : Chunk). y.list) e in
          let a : Accepted F t c k ws x =
          record {
            chunk-is = e ∙ ap (taken_as c) (sym l);
            set_is = s.filled (not-false _ n) ∙ rw (ef, et);
            listed = rw l (h.listed list refl);
          }
          in
          record {
            answered = late (passed _ 8 _ (λ n. n) 0 (maxima-kept h) (passed _ 7 _ (λ n. n) 0 (held rules-are n) (done (λ n. n) 0)));
            taken = λ j z. subst (λ (y : Chunk). Accepted F t c y ws x) (IfOk-at_ok (λ (y : Chunk). k ≡ y) z refl) a;
          }

-- `cmaf_read_chunk::read::read_rest` meets its contract: its tests are the definitions', in their order.
use Prim.Native.Nat.{ℕ, ◌+◌}
use native.Mathlib.Omega.{arith}
use mathlib.Core.Path.{◌≡◌, sym, ◌∙◌, ap}
use mathlib.Core.Bool.{Bool, not}
use mathlib.Core.List.{List, ◌++◌}
use lib.ListN.{length, take, drop, replicate, length-append, length-drop}
use Rattle.std.specs.Prelude.{Option, Some, None, Ok, ok_or}
use Rattle.std.proofs.lemmas.Result.{err_from_is_err_and}
use Rattle.refusal.specs.declared.Refusal.TheVariants.{PastMaximum}
use Rattle.wire.specs.declared.form.Row.{Row}
use Rattle.wire.specs.Form.{rows}
use Rattle.track.specs.declared.Track.{Track}
use Rattle.cmaf_read_shape.specs.declared.top.Top.{Top}
use Rattle.cmaf_read_shape.specs.declared.inner.Inner.{Inner}
use Rattle.field_table.specs.Lines.{set_len}
use Rattle.event_value.specs.Events.{events_len}
use Rattle.cmaf_read_boxes.proofs.BoxLaws.{found-hold}
use Rattle.cmaf_read_chunk.specs.Chunks.{CountedAs, SettledAs}
use Rattle.laws.proofs.HalvesLaws.{zeros-long, zeros-rest, front-in, front_long, front-new, rest-stays}
use Rattle.cmaf_read_chunk.proofs.MaximaLaws.{right_is, gatherable}
use Rattle.cmaf_read_chunk.proofs.RungLaws.{counted-break, counts-kept, events-there, rules-break, rules-keep}
use Rattle.cmaf_read_chunk.proofs.read.read_rest.Goals as goal

-- the words are zeros, as many as those of the events and of the set
module _ {w : List ℕ} (z : w ≡ replicate (events_len + set_len) 0) where
  long : length w ≡ events_len + set_len
  long = zeros-long events_len set_len z

  front-of : length (take events_len w) ≡ events_len
  front-of = front_long events_len set_len w long

  -- `count` leaves the words ys for the events
  module _ (ys : List ℕ) (l : length ys ≡ length (take events_len w)) where
    front : take events_len (ys ++ drop events_len w) ≡ ys
    front = front-new events_len set_len w long ys l

    rest : drop events_len (ys ++ drop events_len w) ≡ drop events_len w
    rest = rest-stays events_len set_len w long ys l

    -- what `settle` did, with the words of the events as `count` left them
    settled : {t : Track} {c x : List ℕ} {y : Top} {f : Inner} {ok : Bool} → SettledAs t c y f (take events_len (ys ++ drop events_len w)) ok x
        → SettledAs t c y f ys ok x
    settled s = rw front at s

    as-long : length (ys ++ drop events_len w) ≡ events_len + set_len
    as-long = omega (arith, length-append ys (drop events_len w), length-drop events_len w, l, front-of, long)

-- what was counted, where it was something
counted : {F : List Row} {t : Track} {c ws : List ℕ} (o : Option ℕ) (n : ℕ) → ok_or o PastMaximum ≡ Ok n → CountedAs F t c o ws
    → CountedAs F t c (Some n) ws
counted o n e h = let x : o ≡ Some n = grind arith in rw x at h

pub slice_bounds-count-end : goal.slice_bounds-count-end
slice_bounds-count-end c = front-in events_len set_len c.args.words.now (long c.requires.words_value)

pub slice_bounds-count-end-2 : goal.slice_bounds-count-end-2
slice_bounds-count-end-2 c = sym (front-of c.requires.words_value)

pub count-requires : goal.count-requires
count-requires c = record {
  top_value = c.requires.top_value;
  c_value = (c.requires.iv_size_bound.2, front-of c.requires.words_value);
  pairs_value = c.requires.pairs_value;
}

pub returns-in_err-list : goal.returns-in_err-list
returns-in_err-list c =
    let a = c.args in
    let p = err_from_is_err_and c.from_residual.result c.from_residual.ensures.1 in
    let n : c.count.result ≡ None = grind arith in
    let m : c.in_err-list.field-0.0 ≡ PastMaximum = grind arith in
    rw (p.1, p.2, m) (counted-break (rows a.form) a.t a.c.now c.requires.iv_size_bound.1 c.requires.iv_size_bound.2 (rw n at c.count.ensures))

pub settle-requires : goal.settle-requires
settle-requires c =
    let a = c.args in
    let x = c.requires.top_value.0 in
    let y = c.requires.top_value.1 in
    let h = counted _ _ (sym c.ok_or.ensures.value ∙ c.in_ok-list.was) c.count.ensures in
    let l = c.count.auto.events in
    let k = counts-kept (rows a.form) a.t a.c.now h in
    record {
      right = (
        right_is a.t a.c.now _ _ x y c.requires.iv_size_bound.2 k,
        gatherable a.t a.c.now _ _ x y c.requires.iv_size_bound.2 k c.requires.iv_size_bound.0,
      );
      events_bound = (
        omega (arith, events-there (rows a.form) a.t a.c.now h x, l, front-of c.requires.words_value),
        as-long c.requires.words_value _ l,
        rest c.requires.words_value _ l ∙ zeros-rest events_len set_len c.requires.words_value,
      );
    }

pub returns-then-not-settle : goal.returns-then-not-settle
returns-then-not-settle c =
    let a = c.args in
    rules-break (rows a.form) a.t a.c.now c.requires.iv_size_bound.1 c.requires.iv_size_bound.2 (counted _ _ (sym c.ok_or.ensures.value ∙ c.in_ok-list.was) c.count.ensures)
    c.requires.top_value.0 c.requires.top_value.1 (settled c.requires.words_value _ c.count.auto.events c.settle.ensures.0) (ap not c.if-not-settle.true)

pub taken-requires : goal.taken-requires
taken-requires c =
    let a = c.args in
    (c.requires.top_value.0, (found-hold a.t a.c.now _ _ c.requires.top_value.0 c.requires.top_value.1 c.requires.iv_size_bound.2).prft-ok)

pub returns : goal.returns
returns c =
    let a = c.args in
    rw (c.settle.ensures.1 ∙ front c.requires.words_value _ c.count.auto.events)
    (rules-keep (rows a.form) a.t a.c.now c.requires.iv_size_bound.1 c.requires.iv_size_bound.2 (counted _ _ (sym c.ok_or.ensures.value ∙ c.in_ok-list.was) c.count.ensures)
    c.requires.top_value.0 c.requires.top_value.1 (settled c.requires.words_value _ c.count.auto.events c.settle.ensures.0) c.taken.ensures (ap not c.if-not-settle.false))

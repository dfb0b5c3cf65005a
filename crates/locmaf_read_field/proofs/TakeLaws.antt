-- One field by what is said of it: the ways out of `keep`, `send` and `take`. Assumes nothing.
use Prim.Native.Nat.{ℕ, ◌+◌, ◌≤◌, ◌<◌}
use native.Mathlib.Nat.{add-zero}
use native.Mathlib.Omega.{arith}
use mathlib.Core.Path.{◌≡◌, refl, ◌∙◌}
use mathlib.Core.Bool.{Bool, true, false, cond, not}
use mathlib.Core.List.{List}
use borrow.Author.Tests.{eq-eqb, ne_eqb}
use lib.ListN.{length, get_or}
use lib.Seq.{slice-cons, slice_empty}
use Rattle.laws.proofs.GateLaws.{failed, held as passed}
use Rattle.wire.specs.declared.form.Row.{Row}
use Rattle.wire.specs.declared.zigzag.Coding.{Coding}
use Rattle.runs.specs.Run.{first}
use Rattle.track.specs.declared.Track.{Track}
use Rattle.field_table.specs.declared.lines.Want.TheVariants.{One}
use Rattle.field_table.specs.declared.lines.Line.{Line}
use Rattle.field_table.specs.declared.lines.Measure.{Measure}
use Rattle.field_table.specs.Lines.{wanted, absent_value}
use Rattle.locmaf_read_said.specs.declared.said.Span.{Span}
use Rattle.locmaf_read_said.specs.declared.said.Word.{Word}
use Rattle.locmaf_read_said.specs.declared.said.Word.TheVariants.{Omitted, Deleted, Sent}
use Rattle.locmaf_read_field.specs.declared.cells.Cell.{Cell}
use Rattle.locmaf_read_field.specs.Cells.{Came, TakenAs, Clear, TakenIf, right, carried, sent_one, kept_field, sent_field, cell_of, values_at, values_if, list_sent, sent_in, said}
use Rattle.field_rules.specs.Fields.{coding_of, stood, old_values}

-- ---- the reference's values: b says that the field stood

-- there are no more than have room
pub olds-room : (b : Bool) (j room u : ℕ) → u ≡ cond b j 0 → (b ≡ true → j ≤ room) → u ≤ room
olds-room true j room u e h = omega (arith, h refl)
olds-room false j room u e h = omega arith

module _ (b : Bool) (r : List ℕ) (was : Measure) (l : Line) where
  olds-are : (u : ℕ) → u ≡ cond b (wanted l.want was) 0 → values_at r l u ≡ values_if b r was l
  olds-are u e = rw e (go b)
    where
      go : (b : Bool) → values_at r l (cond b (wanted l.want was) 0) ≡ values_if b r was l
      go true = refl
      go false = rw add-zero (slice_empty (l.place + 1) r)

  -- the first of them, where there is one
  old-is : l.want ≡ One → l.place + 1 < length r → (base : ℕ) → cond b (get_or r (l.place + 1) 0) base ≡ first base (values_if b r was l)
  unfolding wanted
  old-is o h base = go b
    where
      go : (b : Bool) → cond b (get_or r (l.place + 1) 0) base ≡ first base (values_if b r was l)
      go true = rw (o, slice-cons (l.place + 1) (l.place + 1 + 1) r 0 (omega arith) (omega arith))
      go false = refl

-- ---- a field that is omitted
abbrev kept_by : Bool → List ℕ → Measure → Line → Measure → Came
kept_by b r was l m = kept_field b l.want (wanted l.want was) (wanted l.want m) (values_at r l (wanted l.want was))

module _ (b : Bool) (r : List ℕ) (was : Measure) (l : Line) (m : Measure) {x : List ℕ} {c : Cell} where
  pub kept-none : not b ≡ true → c ≡ right → TakenAs (kept_by b r was l m) l.place x c x
  kept-none n q =
      let e : b ≡ false = failed refl n in
      rw e (record { answered = q; stored = λ _ _ _. refl; long = refl })

  pub kept_on : not b ≡ false → (j k : ℕ) → j ≡ wanted l.want was → k ≡ wanted l.want m → {after : List ℕ}
      → TakenIf (Clear l k x) (carried l.want j k (values_at r l j)) l.place x c after
      → TakenIf (Clear l (wanted l.want m) x) (kept_by b r was l m) l.place x c after
  kept_on n j k ej ek h =
      let e : b ≡ true = passed refl n in
      rw (e, ← ej, ← ek) h

-- ---- a field that is sent
module _ (F : List Row) (o : List ℕ) (s : Span) (t : Track) (coding : Coding) (l : Line) (m : Measure) (b : Bool) (r : List ℕ) (was : Measure)
    {x : List ℕ} {c : Cell} {after : List ℕ} {coded : Coding} (ec : coded ≡ coding_of coding l.absent) {base : ℕ} (eb : base ≡ absent_value t l.absent) where
  pub send-value : l.room ≡ 1 → l.want ≡ One → l.place + 1 + l.room ≤ length r → (old : ℕ) → old ≡ cond b (get_or r (l.place + 1) 0) base
      → TakenAs (sent_one coded old l.bound s.number) l.place x c after
      → TakenAs (sent_field t coding l m (values_if b r was l) (sent_in F o l s)) l.place x c after
  send-value n w h old eo k =
      let e : old ≡ first base (values_if b r was l) = eo ∙ old-is b r was l w (omega arith) base in
      rw (eq-eqb l.room 1 n, ← ec, ← eb, ← e) k

  pub send-values : (l.room ≡ 1 → ⊥) → (k u : ℕ) → k ≡ wanted l.want m → u ≡ cond b (wanted l.want was) 0
      → TakenAs (list_sent F o coded base l s k (values_at r l u)) l.place x c after
      → TakenAs (sent_field t coding l m (values_if b r was l) (sent_in F o l s)) l.place x c after
  send-values n k u ek eu h = rw (ne_eqb l.room 1 n, ← ec, ← eb, ← ek, ← olds-are b r was l u eu) h

-- ---- whichever
module _ (F : List Row) (o : List ℕ) (t : Track) (coding : Coding) (held : Bool) (r : List ℕ) (was : Measure) (l : Line) (m : Measure) (word : Word)
    (x : List ℕ) (c : Cell) where
  pub take-deleted : word ≡ Deleted → c ≡ right → TakenAs (cell_of t coding held r was l m (said F o l word)) l.place x c x
  unfolding cell_of said
  take-deleted e q = rw e (record { answered = q; stored = λ _ _ _. refl; long = refl })

  pub take_none : word ≡ Omitted → stood held r l ≡ false → c ≡ right
      → TakenAs (cell_of t coding held r was l m (said F o l word)) l.place x c x
  unfolding cell_of said
  take_none e n q = rw (e, n) (record { answered = q; stored = λ _ _ _. refl; long = refl })

  module _ (after : List ℕ) where
    pub take-omitted : word ≡ Omitted → {clear : Type 0} → TakenIf clear (kept_by (stood held r l) r was l m) l.place x c after
        → TakenIf clear (cell_of t coding held r was l m (said F o l word)) l.place x c after
    unfolding cell_of said old_values
    take-omitted e {clear} h = rw e (go (stood held r l) h)
      where
        go : (b : Bool) → TakenIf clear (kept_by b r was l m) l.place x c after
            → TakenIf clear (kept_field b l.want (wanted l.want was) (wanted l.want m) (values_if b r was l)) l.place x c after
        go true h = h
        go false h = h

    pub take-sent : (s : Span) → word ≡ Sent s → TakenAs (sent_field t coding l m (values_if (stood held r l) r was l) (sent_in F o l s)) l.place x c after
        → TakenAs (cell_of t coding held r was l m (said F o l word)) l.place x c after
    unfolding cell_of said old_values
    take-sent s e h = rw e h

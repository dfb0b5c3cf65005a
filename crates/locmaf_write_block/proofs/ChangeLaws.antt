-- What an object says of a field, as code finds it test by test. Assumes nothing.
use Prim.Native.Nat.{ℕ}
use mathlib.Core.Path.{◌≡◌, refl, sym, ◌∙◌}
use mathlib.Core.Bool.{Bool, true, false, false≢true, cond, not}
use mathlib.Core.List.{List}
use borrow.Author.Tests.{eq-eqb, ne_eqb, not-true, not-false}
use lib.ListN.{length, get_or}
use Rattle.laws.specs.Tests.{same}
use Rattle.wire.specs.declared.form.Row.{Row}
use Rattle.track.specs.declared.Track.{Track}
use Rattle.field_table.specs.declared.lines.Line.{Line}
use Rattle.field_rules.specs.Fields.{is_ivs, stood}
use Rattle.locmaf_write_block.specs.declared.cells.Change.{Change}
use Rattle.locmaf_write_block.specs.declared.cells.Change.TheVariants.{Omitted, Deleted, Sent}
use Rattle.locmaf_write_tuples.specs.Items.{nothing, bytes_of}
use Rattle.locmaf_write_tuples.proofs.ItemLaws.{not-nothing}
use Rattle.locmaf_write_block.specs.Changes.{on_change, stands, news, olds, omits, change_of, sent_items, line_items}

module _ (t : Track) (delta follow : Bool) (r x : List ℕ) (l : Line) (old : Bool) (eo : old ≡ stood delta r l) where
  -- it doesn't stand, and did
  pub vanished : get_or x l.place 0 ≡ 0 → old ≡ true → Deleted ≡ change_of t delta follow r x l
  unfolding change_of
  vanished z h = rw (eq-eqb (get_or x l.place 0) 0 z, sym eo ∙ h)

  -- and didn't
  pub never : get_or x l.place 0 ≡ 0 → old ≡ false → Omitted ≡ change_of t delta follow r x l
  unfolding change_of
  never z h = rw (eq-eqb (get_or x l.place 0) 0 z, sym eo ∙ h)

  -- it stands
  module _ (here : get_or x l.place 0 ≡ 0 → ⊥) where
    -- and there was none
    pub afresh : not old ≡ true → Sent ≡ change_of t delta follow r x l
    unfolding change_of
    afresh h = rw (ne_eqb (get_or x l.place 0) 0 here, ← eo, not-true old h)

    -- and there was: of IVs by whether they follow, of others by whether they are the same
    module _ (was : not old ≡ false) (ivs : Bool) (ei : ivs ≡ is_ivs l.want) where
      pub ivs-by : ivs ≡ true → (s : Bool) → s ≡ follow → cond s Omitted Sent ≡ change_of t delta follow r x l
      unfolding change_of
      ivs-by h s e = rw (ne_eqb (get_or x l.place 0) 0 here, ← eo, not-false old was, ← ei, h, e)

      pub compared : ivs ≡ false → (s : Bool) → s ≡ same (olds t delta r x l) (news t delta r x l) → cond s Omitted Sent ≡ change_of t delta follow r x l
      unfolding change_of
      compared h s e = rw (ne_eqb (get_or x l.place 0) 0 here, ← eo, not-false old was, ← ei, h, ← e)

-- a field that is sent stands
pub sent-stands : (t : Track) (delta follow : Bool) (r x : List ℕ) (l : Line) → change_of t delta follow r x l ≡ Sent → stands t delta r x l ≡ true
unfolding change_of
sent-stands t delta follow r x l e =
    go (stands t delta r x l) (stood delta r l) (omits t delta follow r x l) e
  where
    go : (a b c : Bool) → cond a (cond c Omitted Sent) (cond b Deleted Omitted) ≡ Sent → a ≡ true
    go true b c h = refl
    go false true c h = absurd (false≢true (let z : false ≡ true = cc in z))
    go false false c h = absurd (false≢true (let z : false ≡ true = cc in z))

-- and one that has items is sent
some-sent : (F : List Row) (t : Track) (delta follow : Bool) (r x : List ℕ) (l : Line) → (nothing ≡ line_items t delta follow r x l F → ⊥) → change_of t delta follow r x l ≡ Sent
unfolding line_items
some-sent F t delta follow r x l n = go (change_of t delta follow r x l) refl
  where
    go : (c : Change) → change_of t delta follow r x l ≡ c → c ≡ Sent
    go Omitted e = absurd (n (rw e))
    go Deleted e = absurd (n (rw e))
    go Sent e = refl

-- what stands of the line that code looked up
module _ (F : List Row) (t : Track) (delta follow : Bool) (r x : List ℕ) (l q : Line) (el : l ≡ q) (c : Change) (ec : c ≡ change_of t delta follow r x l) where
  -- the field's items, or nothing
  pub line-sent : c ≡ Sent → sent_items t delta r x l F ≡ line_items t delta follow r x q F
  unfolding line_items
  line-sent e = rw (← el, sym ec ∙ e)

  pub line-unsent : (c ≡ Sent → ⊥) → nothing ≡ line_items t delta follow r x q F
  unfolding line_items
  line-unsent h = rw (← el, ← ec) (go c h)
    where
      go : (d : Change) → (d ≡ Sent → ⊥) → nothing ≡ on_change d (sent_items t delta r x l F) nothing
      go Omitted n = refl
      go Deleted n = refl
      go Sent n = absurd (n refl)

-- where that has some bytes, the field stands, and its items are those that are sent
module _ (F : List Row) (t : Track) (delta follow : Bool) (r x : List ℕ) (l q : Line) (el : l ≡ q)
    (bytes : ℕ) (k : bytes ≡ length (bytes_of F (line_items t delta follow r x q F))) (n : bytes ≡ 0 → ⊥) where
  sent : change_of t delta follow r x l ≡ Sent
  sent = some-sent F t delta follow r x l (rw el (not-nothing F (line_items t delta follow r x q F) bytes k n))

  pub bytes-stand : stands t delta r x l ≡ true
  bytes-stand = sent-stands t delta follow r x l sent

  pub bytes-sent : sent_items t delta r x l F ≡ line_items t delta follow r x q F
  bytes-sent = line-sent F t delta follow r x l q el (change_of t delta follow r x l) refl sent

-- A field that was written is read as the field of the new set, whichever it is, sent, deleted or omitted; of IVs that are left out there is room alone. Assumes nothing.
use Prim.Native.Nat.{ℕ, ◌+◌, ◌*◌, ◌<◌}
use native.Mathlib.Nat.{add-sub_cancel_left}
use native.Mathlib.Omega.{arith}
use mathlib.Core.Path.{◌≡◌, refl, sym, ◌∙◌, ap}
use mathlib.Core.Bool.{Bool, true, false, false≢true, cond, not, ◌&&◌, ◌||◌}
use mathlib.Core.List.{List, [], ◌∷◌}
use borrow.Author.Tests.{leb-true, eqb-true, eq-eqb, ne_eqb}
use borrow.Table.Steps.{cases}
use lib.Dec.{eqb}
use lib.ListN.{length, get_or, replicate}
use lib.Seq.{length-slice}
use Rattle.std.specs.Prelude.{Some, None}
use Rattle.std.proofs.lemmas.Bool.{and_left as no-left, and_right as no-right}
use Rattle.laws.specs.Tests.{◌and◌, all_le, same}
use Rattle.laws.proofs.TestLaws.{left, both_of, same-is}
use Rattle.wire.specs.declared.zigzag.Coding.{Coding}
use Rattle.wire.proofs.ZigzagLaws.{back}
use Rattle.runs.specs.Run.{first}
use Rattle.locmaf_read_block.specs.Wires.{wires}
use Rattle.locmaf_read_block.proofs.WiresLaws.{wires-length, steps_back}
use Rattle.track.specs.declared.Track.{Track}
use Rattle.field_table.specs.declared.lines.Line.{Line}
use Rattle.field_table.specs.declared.lines.Want.{Want}
use Rattle.field_table.specs.Lines.{lines, spare, every, wanted, absent_value, u64, line_count}
use Rattle.field_set.specs.Lawful.{measure_of}
use Rattle.field_table.proofs.LineLaws.{line-count, every-at}
use Rattle.field_set.proofs.LawfulLaws.{lawful-region}
use Rattle.field_set.proofs.RegionLaws.{used}
use Rattle.field_rules.proofs.SetWords.{field_in}
use Rattle.locmaf_read_said.specs.Said.{Saying, omitted, deleted, sent}
use Rattle.locmaf_read_field.specs.Cells.{Came, well, carried, sent_one, sent_list, cell_of}
use Rattle.field_rules.specs.Fields.{Held, coding_for, coding_of, is_ivs, packed, stood, old_values}
use Rattle.field_rules.specs.Words.{was_of}
use Rattle.locmaf_write_tuples.specs.Items.{wide_bytes}
use Rattle.locmaf_write_block.specs.Changes.{basis_of, stands, news, olds, omits, change_of, Writable}
use Rattle.locmaf_write_block.proofs.FieldLaws.{Field, field-of}
use Rattle.locmaf_write_block.proofs.WideLaws.{wide-length, packed-back}
use Rattle.reread.specs.Sayings.{sent_numbers, line_says, line_saying}

-- a list of one number
alone : (vs : List ℕ) → length vs ≡ 1 → vs ≡ get_or vs 0 0 ∷ []
alone [] e = absurd (omega arith)
alone (v ∷ []) e = refl
alone (v ∷ u ∷ vs) e = absurd (omega arith)

-- IVs have 64 bits a word
ivs_wide : Line → Bool
ivs_wide l = not (is_ivs l.want) || eqb l.bound u64

all-wide : every ivs_wide lines ≡ true
unfolding every lines ivs_wide ◌and◌
all-wide = refl

-- a field as the object tells it: zeros keep the room of IVs that are left out
abbrev pub told_field : Track → Bool → Bool → List ℕ → List ℕ → Line → Held
told_field t delta follow r x l =
    cond (stands t delta r x l && (is_ivs l.want && omits t delta follow r x l)) (Some (replicate (wanted l.want (measure_of t x)) 0)) (field_in t x l)

module _ {t : Track} {delta : Bool} {r x : List ℕ} (w : Writable t delta r x) (i : ℕ) (lt : i < line_count) where
  abbrev l : Line
  l = get_or lines i spare

  f : Field t (basis_of t delta false r x) r x l
  f = field-of t (basis_of t delta false r x) r x i l (w, refl) (lt, refl)

  -- the values, as many as there were and are to be
  abbrev old : List ℕ
  old = olds t delta r x l

  abbrev new : List ℕ
  new = news t delta r x l

  abbrev j : ℕ
  j = wanted l.want (was_of t delta r)

  abbrev k : ℕ
  k = wanted l.want (measure_of t x)

  abbrev coding : Coding
  coding = coding_of (coding_for delta) l.absent

  abbrev base : ℕ
  base = absent_value t l.absent

  abbrev cell : Saying → Came
  cell s = cell_of t (coding_for delta) delta r (was_of t delta r) l (measure_of t x) s

  new-length : length new ≡ k
  new-length = length-slice (l.place + 1) (l.place + 1 + k) x (omega (arith, f.here, f.new-room)) ∙ add-sub_cancel_left (l.place + 1) k

  old-length : stood delta r l ≡ true → length old ≡ j
  unfolding old_values
  old-length e = rw e (length-slice (l.place + 1) (l.place + 1 + j) r (omega (arith, f.there, f.old-room)) ∙ add-sub_cancel_left (l.place + 1) j)

  -- the new values keep their bound
  within : stands t delta r x l ≡ true → all_le l.bound new ≡ true
  within e =
      let z : get_or x l.place 0 ≡ 0 → ⊥ = λ q. false≢true (sym (ap not (eq-eqb (get_or x l.place 0) 0 q)) ∙ e) in
      rw (← used (get_or x l.place 0) k z) at (lawful-region t x i w.new lt).values

  -- where there is room for one value, there is one
  one_value : l.room ≡ 1 → new ≡ get_or new 0 0 ∷ []
  unfolding wanted
  one_value e = alone new (new-length ∙ ap (λ (q : Want). wanted q (measure_of t x)) (f.single e))

  wide-bound : is_ivs l.want ≡ true → l.bound ≡ u64
  unfolding ivs_wide
  wide-bound e = eqb-true _ _ (rw e at (every-at ivs_wide lines i spare all-wide (omega (arith, line-count))))

  -- one that is sent: IVs, a value, or a list
  sent_back : stands t delta r x l ≡ true → cell (sent (sent_numbers t delta r x l)) ≡ well (Some new)
  unfolding cell_of sent_numbers sent_list sent_one all_le
  sent_back s =
      cases (is_ivs l.want)
      (λ a.
      let o : eqb l.room 1 ≡ false = ne_eqb _ _ (λ q. false≢true (sym (ap is_ivs (f.single q)) ∙ a)) in
      let n : length (wide_bytes new) ≡ 8 * k = wide-length new ∙ ap (λ (m : ℕ). 8 * m) new-length in
      let p : packed k (wide_bytes new) ≡ new =
      ap (λ (m : ℕ). packed m (wide_bytes new)) (sym new-length) ∙ packed-back new (rw (wide-bound a) at (within s)) in
      rw (a, o, eq-eqb (length (wide_bytes new)) (8 * k) n, p))
      (λ a.
      cases (eqb l.room 1)
      (λ o.
      let v : ℕ = get_or new 0 0 in
      let one : new ≡ v ∷ [] = one_value (eqb-true _ _ o) in
      rw (a, o, one, back coding (first base old) v l.bound (leb-true _ _ (left _ _ (rw one at (within s))))))
      (λ o.
      let n : length (wires coding base old new) ≡ k = wires-length coding base old new ∙ new-length in
      rw (a, o, eq-eqb (length (wires coding base old new)) k n, steps_back coding base l.bound old new (within s))))

  -- one that is deleted, or was never there, isn't there
  none-deleted : cell deleted ≡ well None
  unfolding cell_of
  none-deleted = refl

  none-there : stood delta r l ≡ false → cell omitted ≡ well None
  unfolding cell_of
  none-there o = rw o

  -- `follow` says that the IVs follow
  module _ (follow : Bool) where
    -- a field that is omitted is what it was
    kept_back : is_ivs l.want ≡ false → omits t delta follow r x l ≡ true → cell omitted ≡ well (Some new)
    unfolding cell_of carried
    kept_back v e =
        let (s, more) = both_of (stood delta r l) (cond (is_ivs l.want) follow (same old new)) e in
        let q : old ≡ new = same-is _ _ (rw v at more) in
        let m : j ≡ k = sym (old-length s) ∙ ap length q ∙ new-length in
        rw (s, v, eq-eqb j k m, q)

    -- but for IVs, which get room
    room_back : is_ivs l.want ≡ true → omits t delta follow r x l ≡ true → cell omitted ≡ well (Some (replicate k 0))
    unfolding cell_of carried
    room_back v e = let s : stood delta r l ≡ true = (both_of (stood delta r l) (cond (is_ivs l.want) follow (same old new)) e).0 in rw (s, v)

    -- what is said of it
    said-omitted : stands t delta r x l ≡ true → omits t delta follow r x l ≡ true → line_saying t delta follow r x l ≡ omitted
    unfolding line_saying line_says change_of
    said-omitted a e = rw (a, e)

    said-sent : stands t delta r x l ≡ true → omits t delta follow r x l ≡ false → line_saying t delta follow r x l ≡ sent (sent_numbers t delta r x l)
    unfolding line_saying line_says change_of
    said-sent a e = rw (a, e)

    said-deleted : stands t delta r x l ≡ false → stood delta r l ≡ true → line_saying t delta follow r x l ≡ deleted
    unfolding line_saying line_says change_of
    said-deleted a o = rw (a, o)

    said-never : stands t delta r x l ≡ false → stood delta r l ≡ false → line_saying t delta follow r x l ≡ omitted
    unfolding line_saying line_says change_of
    said-never a o = rw (a, o)

    -- how it is told
    told-room : stands t delta r x l ≡ true → is_ivs l.want ≡ true → omits t delta follow r x l ≡ true → told_field t delta follow r x l ≡ Some (replicate k 0)
    told-room a v e = λ z. cond (a z && (v z && e z)) (Some (replicate k 0)) (field_in t x l)

    told-own : (stands t delta r x l && (is_ivs l.want && omits t delta follow r x l)) ≡ false → told_field t delta follow r x l ≡ field_in t x l
    told-own e = ap (λ (b : Bool). cond b (Some (replicate k 0)) (field_in t x l)) e

    own_new : stands t delta r x l ≡ true → field_in t x l ≡ Some new
    own_new a = ap (λ (b : Bool). cond b (Some new) None) a

    own-none : stands t delta r x l ≡ false → field_in t x l ≡ None
    own-none a = ap (λ (b : Bool). cond b (Some new) None) a

    -- whichever
    pub field_back : cell (line_saying t delta follow r x l) ≡ well (told_field t delta follow r x l)
    field_back =
        cases (stands t delta r x l)
        (λ a.
        cases (omits t delta follow r x l)
        (λ e.
        cases (is_ivs l.want)
        (λ v. ap cell (said-omitted a e) ∙ room_back v e ∙ sym (ap well (told-room a v e)))
        (λ v. ap cell (said-omitted a e) ∙ kept_back v e ∙ sym (ap well (told-own (no-right _ _ (no-left _ _ v)) ∙ own_new a))))
        (λ e. ap cell (said-sent a e) ∙ sent_back a ∙ sym (ap well (told-own (no-right _ _ (no-right _ _ e)) ∙ own_new a))))
        (λ a.
        cases (stood delta r l)
        (λ o. ap cell (said-deleted a o) ∙ none-deleted ∙ sym (ap well (told-own (no-left _ _ a) ∙ own-none a)))
        (λ o. ap cell (said-never a o) ∙ none-there o ∙ sym (ap well (told-own (no-left _ _ a) ∙ own-none a))))

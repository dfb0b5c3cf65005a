-- The set of the boxes that say what a canonical set has is that set. Assumes nothing.
use Prim.Native.Nat.{ℕ, ◌+◌, ◌≤◌, ◌<◌}
use native.Mathlib.Nat.{add-zero}
use native.Mathlib.Omega.{arith}
use mathlib.Core.Path.{◌≡◌, refl, sym, ◌∙◌, ap, ap₂, subst}
use mathlib.Core.Bool.{Bool, true, false, not, cond}
use mathlib.Core.List.{List, [], ◌∷◌, ◌++◌, map, map-id}
use borrow.Author.Tests.{eq-eqb, ne_eqb}
use lib.Dec.{eqb}
use lib.ListN.{length, get_or}
use lib.Seq.{slice}
use Rattle.std.specs.Prelude.{Some, None}
use Rattle.track.specs.declared.Track.{Track}
use Rattle.track.specs.Track.{iv_ok}
use Rattle.track.proofs.TrackLaws.{iv-size-le}
use Rattle.media.specs.Flags.{wide_of, five_of}
use Rattle.media.proofs.FlagLaws.{five-wide}
use Rattle.field_table.specs.declared.lines.Line.{Line}
use Rattle.field_table.specs.Lines.{lines, spare, line_for, wanted, bmdt_at, count_at, line_count}
use Rattle.field_set.specs.Lawful.{has, measure_of, value_at, count_in}
use Rattle.cmaf_read_shape.specs.declared.inner.Inner.{Inner}
use Rattle.field_rules.specs.Fields.{Held}
use Rattle.field_rules.specs.Words.{region_of, regions_of, set_words}
use Rattle.cmaf_read_trun.specs.Rows.{durations, offsets, sample_flags, first, first_flags, cell, has_column}
use Rattle.cmaf_read_shape.specs.Words.{bit_of}
use Rattle.cmaf_read_trun.specs.Samples.{each_from, column_of}
use Rattle.cmaf_read_samples.specs.Held.{held_if, raised}
use Rattle.cmaf_read_set.specs.Set.{run, held_for, field_of, chunk_set}
use Rattle.rebuilt.proofs.SencValues.{values_from, values-slice, values-each}
use Rattle.field_rules.proofs.SetWords.{field_in, set-words}
use Rattle.cmaf_read_facts.specs.Given.{Canonical}
use Rattle.rebuilt.specs.Read.{Read}
use Rattle.cmaf_read_samples.proofs.CellLaws.{held_same}
use Rattle.field_table.proofs.LineLaws.{shaped}
use Rattle.field_rules.proofs.SetLaws.{line-of-id}
use Rattle.field_rules.proofs.Bounds.{line-room, Bounded, bounded}
use Rattle.cmaf_read_trun.proofs.EachLaws.{each_map, each_same}
use Rattle.rebuilt_set.proofs.SizeLines.{one-is, six-is}
use Rattle.rebuilt_set.proofs.SencLines.{nine-line, eleven-line, thirteen-line, fifteen-line}

-- fields that are the same on every line
infixr 1 ◌also◌
data Alike (f g : Line → Held) : List Line → Type 0 where
  done : Alike f g []
  ◌also◌ : {l : Line} {ls : List Line} → f l ≡ g l → Alike f g ls → Alike f g (l ∷ ls)

regions-alike : {f g : Line → Held} {ls : List Line} → Alike f g ls → regions_of f ls ≡ regions_of g ls
unfolding regions_of
regions-alike done = refl
regions-alike (◌also◌ {l} e h) = ap₂ (λ (a b : List ℕ). a ++ b) (ap (region_of l) e) (regions-alike h)

-- a value that is the track's own where its field doesn't stand
differs : (a : Bool) (d v own : ℕ) → d ≡ cond a v own → (a ≡ true → v ≡ own → ⊥) → not (eqb d own) ≡ a
differs true d v own e h = ap not (ne_eqb d own (λ (q : d ≡ own). h refl (sym e ∙ q)))
differs false d v own e h = ap not (eq-eqb d own e)

scalar : (id : ℕ) (w : List ℕ) (d own : ℕ) → d ≡ cond (has id w) (value_at id 0 w) own → (has id w ≡ true → value_at id 0 w ≡ own → ⊥)
    → held_if (not (eqb d own)) (d ∷ []) ≡ held_if (has id w) (values_from id w 1 0)
unfolding values_from
scalar id w d own e h =
    held_same _ _ _ _ (differs (has id w) d (value_at id 0 w) own e h)
    (λ q. ap (λ (v : ℕ). v ∷ []) (e ∙ ap (λ (b : Bool). cond b (value_at id 0 w) own) q))

-- flags, in their five-bit form
five-is : (a : Bool) (v d : ℕ) → (a ≡ true → v ≤ 31) → d ≤ 31 → five_of (cond a (wide_of v) (wide_of d)) ≡ cond a v d
five-is true v d h l = five-wide v (let q = h refl in omega arith)
five-is false v d h l = five-wide d (omega arith)

module _ {t : Track} {c : List ℕ} {f : Inner} {w : List ℕ} {n offset : ℕ} (k : Read t c f w n offset) (g : Canonical t w n)
    (ok : iv_ok t.protection t.iv_size ≡ true) (own : t.flags ≤ 31) where
  iv : t.iv_size ≤ 16
  iv = iv-size-le t.protection t.iv_size ok

  bounds : Bounded t w
  bounds = bounded t w g.long iv g.is_lawful

  -- a column of the `trun`, each of whose values is put into another form
  mapped : (id column : ℕ) (h : ℕ → ℕ) → has_column (run t c f) column ≡ has id w
      → (has id w ≡ true → (i : ℕ) → i < count_in w → h (cell c (run t c f) column i) ≡ value_at id i w)
      → held_if (has_column (run t c f) column) (map h (column_of c (run t c f) column)) ≡ held_if (has id w) (values_from id w (count_in w) 0)
  unfolding column_of
  mapped id column h e s =
      held_same _ _ _ _ e
      (λ q.
      ap₂ (λ (b : Bool) (m : ℕ). map h (cond b (each_from (cell c (run t c f) column) m 0) [])) (e ∙ q) k.trun.count
      ∙ each_map h (cell c (run t c f) column) (count_in w) 0
      ∙ each_same (λ i. h (cell c (run t c f) column i)) (λ j. value_at id j w) (count_in w) 0 (λ j lt. s q j (omega arith))
      ∙ values-each id w (count_in w) 0)

  -- the field of a line, by the values of its id
  held_at : (i : ℕ) → i < line_count
      → held_if (has (get_or lines i spare).id w) (values_from (get_or lines i spare).id w (wanted (get_or lines i spare).want (measure_of t w)) 0)
      ≡ field_in t w (get_or lines i spare)
  unfolding has held_if
  held_at i lt =
      let l : Line = get_or lines i spare in
      let k : ℕ = wanted l.want (measure_of t w) in
      let q : line_for l.id lines ≡ l = line-of-id i lt in
      let inside : l.place + 1 + 0 + k ≤ length w = omega (arith, g.long, (shaped i lt).inside, line-room t w g.long iv g.is_lawful i lt) in
      let v : values_from l.id w k 0 ≡ slice (l.place + 1) (l.place + 1 + k) w =
      values-slice l.id w k 0 (subst (λ (m : Line). m.place + 1 + 0 + k ≤ length w) (sym q) inside)
      ∙ ap (λ (m : Line). slice (m.place + 1 + 0) (m.place + 1 + 0 + k) w) q
      ∙ ap (λ (m : ℕ). slice m (m + k) w) (add-zero (l.place + 1)) in
      ap₂ (λ (m : Line) (vs : List ℕ). cond (not (eqb (get_or w m.place 0) 0)) (Some vs) None) q v

  -- ---- line by line, each with its id

  line-3 : held_if (has_column (run t c f) durations) (column_of c (run t c f) durations) ≡ held_if (has 3 w) (values_from 3 w (count_in w) 0)
  line-3 = ap (held_if _) (sym (map-id (column_of c (run t c f) durations))) ∙ mapped 3 durations (λ v. v) k.trun.has-durations k.trun.duration-at

  line-5 : held_if (has_column (run t c f) offsets) (map raised (column_of c (run t c f) offsets)) ≡ held_if (has 5 w) (values_from 5 w (count_in w) 0)
  line-5 = mapped 5 offsets raised k.trun.has-offsets (λ q i lt. ap raised (k.trun.offset-at q i lt) ∙ omega (arith, bounds.offsets q i lt))

  line-7 : held_if (has_column (run t c f) sample_flags) (map five_of (column_of c (run t c f) sample_flags)) ≡ held_if (has 7 w) (values_from 7 w (count_in w) 0)
  line-7 =
      mapped 7 sample_flags five_of k.trun.has-flags
      (λ q i lt. ap five_of (k.trun.flags-at q i lt) ∙ five-wide (value_at 7 i w) (omega (arith, bounds.all-flags q i lt)))

  line-12 : held_if (eqb (bit_of (run t c f).word first) 1) (five_of (first_flags c f.trun) ∷ []) ≡ held_if (has 12 w) (values_from 12 w 1 0)
  unfolding values_from
  line-12 =
      held_same _ _ _ _ k.trun.has_first
      (λ q.
      let low : value_at 12 0 w ≤ 31 = bounds.first q 0 (omega arith) in
      ap (λ (v : ℕ). five_of v ∷ []) (k.trun.first-is ∙ rw q) ∙ ap (λ (v : ℕ). v ∷ []) (five-wide (value_at 12 0 w) (omega arith)))

  line-16 : None ≡ held_if (has 16 w) (values_from 16 w 1 0)
  unfolding held_if
  line-16 = rw g.no-iv-size

  all_lines : Alike (field_of t c f) (field_in t w) lines
  unfolding lines held_for wanted
  all_lines =
      one-is k g ∙ held_at 0 (omega arith)
      also scalar 2 w _ t.description k.description g.description ∙ held_at 1 (omega arith)
      also line-3 ∙ held_at 2 (omega arith)
      also scalar 4 w _ t.duration k.duration g.duration ∙ held_at 3 (omega arith)
      also line-5 ∙ held_at 4 (omega arith)
      also six-is k g ∙ held_at 5 (omega arith)
      also line-7 ∙ held_at 6 (omega arith)
      also scalar 8 w _ t.flags (ap five_of k.flags ∙ five-is (has 8 w) (value_at 8 0 w) t.flags (λ q. bounds.flags q 0 (omega arith)) own) g.flags
      ∙ held_at 7 (omega arith)
      also nine-line t c w g ok f.senc k.senc ∙ held_at 8 (omega arith)
      also eleven-line t c w g ok f.senc k.senc ∙ held_at 9 (omega arith)
      also line-12 ∙ held_at 10 (omega arith)
      also thirteen-line t c w g ok f.senc k.senc ∙ held_at 11 (omega arith)
      also fifteen-line t c w g ok f.senc k.senc ∙ held_at 12 (omega arith)
      also line-16 ∙ held_at 13 (omega arith)
      also done

  -- the set that is read is the set
  pub set-read : chunk_set t c f ≡ w
  unfolding chunk_set set_words
  set-read =
      ap₂ (λ (a b : ℕ). set_words a b (field_of t c f)) k.time k.trun.count
      ∙ ap (λ (l : List ℕ). get_or w bmdt_at 0 ∷ get_or w count_at 0 ∷ l) (regions-alike all_lines)
      ∙ set-words t w g.long g.is_lawful

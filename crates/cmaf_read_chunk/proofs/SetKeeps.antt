-- Each field of a chunk's set keeps its line of the table: it has as many values as the line wants, and they keep its bound. Assumes nothing.
use Prim.Native.Nat.{ℕ, ◌-◌, ◌*◌, ◌/◌, ◌≤◌, ◌<◌}
use native.Mathlib.Omega.{arith}
use mathlib.Core.Path.{◌≡◌, refl, sym, ◌∙◌, ap, subst}
use mathlib.Core.Bool.{Bool, true, false, false≢true, not, ◌&&◌}
use mathlib.Core.List.{List, [], map}
use Rattle.std.specs.Prelude.{Some, None}
use borrow.Author.Tests.{not-true}
use lib.Dec.{eqb}
use lib.ListN.{length, get_or, take, length-map, length-take}
use Rattle.constants.specs.Maxima.{samples_most, subsamples_most}
use Rattle.laws.specs.Tests.{all_le, sum}
use Rattle.laws.proofs.TestLaws.{and_right, one-le}
use Rattle.media.specs.Flags.{five_of}
use Rattle.track.specs.declared.Track.{Track}
use Rattle.cmaf_read_shape.specs.declared.inner.Inner.{Inner}
use Rattle.laws.specs.Options.{is_some}
use Rattle.field_table.specs.declared.lines.Line.{Line}
use Rattle.field_table.specs.declared.lines.Measure.{Measure}
use Rattle.field_table.specs.Lines.{lines, spare, wanted, Small, subsamples_line}
use Rattle.field_table.proofs.LineLaws.{line-count}
use Rattle.field_rules.specs.Fields.{numbers, Held}
use Rattle.field_rules.specs.Words.{measure}
use Rattle.field_rules.proofs.RoomLaws.{wanted_room}
use Rattle.field_rules.proofs.SetLaws.{Keeps}
use Rattle.cmaf_read_trun.specs.declared.rows.Run.{Run}
use Rattle.cmaf_read_trun.specs.Rows.{durations, offsets, sample_flags, has_column, size_at}
use Rattle.cmaf_read_trun.specs.Samples.{column_of, sizes_of}
use Rattle.cmaf_read_senc.specs.declared.entries.Entries.{Entries}
use Rattle.cmaf_read_senc.proofs.SencLaws.{entries-iv}
use Rattle.cmaf_read_set.specs.Entries.{all_ivs, all_counts}
use Rattle.cmaf_read_samples.specs.Held.{held_if, raised}
use Rattle.cmaf_read_set.specs.Set.{held_for, field_of, run, entries, several, equal, size, has_map}
use Rattle.cmaf_read_set.specs.Set as G
use Rattle.cmaf_read_trun.proofs.EachLaws.{each-length}
use Rattle.cmaf_read_set.proofs.EntryLengths.{ivs-length, counts-length, all-clear-length, all-protected-length}
use Rattle.cmaf_read_set.proofs.FitLaws.{Each, each_at, column-length, some_bytes}
use Rattle.cmaf_read_chunk.proofs.SetValues.{map-le, five-le, raised-le, other-le, zero-or-other-le, column-le, sizes-le, field-le, size-le, ivs-le, counts-le, clear-le, protected-le}

-- ---- a field that stands has a line's length and bound; room for it has the table

record Filled (m : Measure) (l : Line) (vs : List ℕ) : Type 0 where
  pub long : length vs ≡ wanted l.want m
  pub bound : all_le l.bound vs ≡ true

abbrev Fills : Measure → Line → Held → Type 0
Fills m l None = Unit {0}
Fills m l (Some vs) = Filled m l vs

fills-keeps : (m : Measure) (l : Line) (h : Held) → Fills m l h → wanted l.want m ≤ l.room → Keeps m l h
fills-keeps m l None k r = tt
fills-keeps m l (Some vs) k r = record { long = k.long; room = r; bound = k.bound }

held-fills : (m : Measure) (l : Line) (b : Bool) (vs : List ℕ) → (b ≡ true → Filled m l vs) → Fills m l (held_if b vs)
unfolding held_if
held-fills m l true vs h = h refl
held-fills m l false vs h = tt

-- ---- the values of a field, by whether it stands

held-yes : (b : Bool) (vs : List ℕ) → b ≡ true → numbers (held_if b vs) ≡ vs
unfolding held_if
held-yes b vs h = rw h

held-no : (b : Bool) (vs : List ℕ) → b ≡ false → numbers (held_if b vs) ≡ []
unfolding held_if
held-no b vs h = rw h

-- what is known of them is known of the field
held-some : (P : List ℕ → Type 0) (b : Bool) (vs : List ℕ) → (b ≡ true → P vs) → (ws : List ℕ) → held_if b vs ≡ Some ws → P ws
unfolding held_if
held-some P true vs h ws e = subst P (ap numbers e) (h refl)
held-some P false vs h ws e = absurd (false≢true (ap is_some e))

-- ---- lengths of lists of samples

sizes-long : (c : List ℕ) (r : Run) (default : ℕ) → length (take (r.count - 1) (sizes_of c r default)) ≡ r.count - 1
unfolding sizes_of
sizes-long c r default = omega (arith, length-take (r.count - 1) (sizes_of c r default), each-length (size_at c r default) r.count 0)

mapped-long : (p : ℕ → ℕ) (c : List ℕ) (r : Run) (column : ℕ) → has_column r column ≡ true → length (map p (column_of c r column)) ≡ r.count
mapped-long p c r column h = length-map (column_of c r column) p ∙ column-length c r column h

-- what is known of a chunk whose set is lawful
pub record Counted (t : Track) (c : List ℕ) (f : Inner) : Type 0 where
  pub bytes : all_le 255 c ≡ true
  pub iv : t.iv_size ≤ 16
  pub few : (run t c f).count ≤ samples_most
  pub counted : 0 < f.senc.len → (entries t c f).count ≡ (run t c f).count
  pub summed : 0 < f.senc.len → sum (all_counts c (entries t c f) (entries t c f).count (entries t c f).at) ≤ subsamples_most

module _ (t : Track) (c : List ℕ) (f : Inner) where
  abbrev r : Run
  r = run t c f

  abbrev e : Entries
  e = entries t c f

  -- a size that all samples have has to be said
  abbrev pub size_said : Bool
  size_said = not (eqb (size t c f) t.size && not (eqb (size t c f) 0))

  -- how many subsamples the samples have, where they have any
  abbrev pub counts : List ℕ
  counts = numbers (held_if (has_map t c f) (all_counts c e e.count e.at))

  pub counts-are : has_map t c f ≡ true → counts ≡ all_counts c e e.count e.at
  counts-are h = held-yes _ _ h

  pub counts-none : has_map t c f ≡ false → counts ≡ []
  counts-none h = held-no _ _ h

  -- the lengths that the set's fields go by
  abbrev pub lengths : Measure
  lengths = measure t r.count (sum counts)

  -- the field of id 11
  pub eleven-is : field_of t c f (get_or lines subsamples_line spare) ≡ held_if (has_map t c f) (all_counts c e e.count e.at)
  unfolding lines held_for
  eleven-is = refl

  module _ (g : Counted t c f) where
    pub eleven-long : (vs : List ℕ) → field_of t c f (get_or lines subsamples_line spare) ≡ Some vs → length vs ≡ r.count
    eleven-long vs q =
        held-some (λ ws. length ws ≡ r.count) (has_map t c f) _ (λ h. counts-length c e e.count e.at ∙ g.counted (some_bytes _ _ h)) vs
        (sym eleven-is ∙ q)

    -- few subsamples
    pub counts-few : sum counts ≤ subsamples_most
    unfolding sum
    counts-few = by (has_map t c f) refl
      where
        by : (b : Bool) → has_map t c f ≡ b → sum counts ≤ subsamples_most
        by true h = rw (counts-are h) (g.summed (some_bytes _ _ h))
        by false h = rw (counts-none h) (omega arith)

    -- a size that all samples have, where it stands
    size_low : (several t c f && (equal t c f && size_said)) ≡ true → size t c f ≤ 0xffff_ffff
    size_low h =
        zero-or-other-le (size t c f) t.size
        (size-le c g.bytes r (G.defaults t c f).size t.size (field-le c g.bytes f.tfhd 0x10 t.size))
        (and_right (equal t c f) size_said (and_right (several t c f) (equal t c f && size_said) h))

    -- the words of the IVs
    ivs-long : 0 < f.senc.len → length (all_ivs c e e.count e.at) ≡ r.count * (t.iv_size / 8)
    ivs-long h =
        ivs-length c e e.count e.at
        ∙ ap (λ (k : ℕ). k * (e.iv / 8)) (g.counted h)
        ∙ ap (λ (v : ℕ). r.count * (v / 8)) (entries-iv t c f.senc)

    -- line by line; id 16 never stands
    table-fills : Each (λ l. Fills lengths l (field_of t c f l)) lines
    unfolding lines held_for wanted
    table-fills = (
      held-fills _ _ _ _
          (λ h. record { long = sizes-long c r _; bound = sizes-le c g.bytes r _ (not-true _ (and_right (several t c f) (not (equal t c f)) h)) }),
      (
        held-fills _ _ _ _ (λ h. record { long = refl; bound = one-le _ _ (other-le _ _ (field-le c g.bytes f.tfhd 0x2 t.description) h) }),
        (
          held-fills _ _ _ _ (λ h. record { long = column-length c r durations h; bound = column-le c g.bytes r durations }),
          (
            held-fills _ _ _ _ (λ h. record { long = refl; bound = one-le _ _ (other-le _ _ (field-le c g.bytes f.tfhd 0x8 t.duration) h) }),
            (
              held-fills _ _ _ _ (λ h. record { long = mapped-long _ c r offsets h; bound = map-le _ raised raised-le (column_of c r offsets) }),
              (
                held-fills _ _ _ _ (λ h. record { long = refl; bound = one-le _ _ (size_low h) }),
                (
                  held-fills _ _ _ _
                      (λ h. record { long = mapped-long _ c r sample_flags h; bound = map-le _ five_of five-le (column_of c r sample_flags) }),
                  (
                    held-fills _ _ _ _ (λ h. record { long = refl; bound = one-le _ _ (five-le _) }),
                    (
                      held-fills _ _ _ _ (λ h. record { long = ivs-long (some_bytes _ _ h); bound = ivs-le c g.bytes e e.count e.at }),
                      (
                        held-fills _ _ _ _
                            (λ h.
                            record {
                              long = counts-length c e e.count e.at ∙ g.counted (some_bytes _ _ h);
                              bound = counts-le c g.bytes e e.count e.at;
                            }),
                        (
                          held-fills _ _ _ _ (λ h. record { long = refl; bound = one-le _ _ (five-le _) }),
                          (
                            held-fills _ _ _ _
                                (λ h.
                                record {
                                  long = all-clear-length c e e.count e.at ∙ sym (ap sum (counts-are h));
                                  bound = clear-le c g.bytes e e.count e.at;
                                }),
                            (
                              held-fills _ _ _ _
                                  (λ h.
                                  record {
                                    long = all-protected-length c e e.count e.at ∙ sym (ap sum (counts-are h));
                                    bound = protected-le c g.bytes e e.count e.at;
                                  }),
                              (
                                tt,
                                tt,
                              ),
                            ),
                          ),
                        ),
                      ),
                    ),
                  ),
                ),
              ),
            ),
          ),
        ),
      ),
    )

    -- every field
    pub set_keeps : (i : ℕ) → i < 14 → Keeps lengths (get_or lines i spare) (field_of t c f (get_or lines i spare))
    set_keeps i lt =
        let small : Small lengths = record { count = g.few; ivs = omega (arith, g.iv); sum = omega (arith, counts-few) } in
        fills-keeps lengths (get_or lines i spare) (field_of t c f (get_or lines i spare))
        (each_at (λ l. Fills lengths l (field_of t c f l)) lines table-fills i (omega (arith, line-count)))
        (wanted_room i lt lengths small counts-few)

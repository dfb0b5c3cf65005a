-- The set of a chunk, stored field by field in the order of the code. Assumes nothing.
use Prim.Native.Nat.{ℕ, ◌+◌, ◌*◌, ◌≤◌}
use native.Mathlib.Omega.{arith}
use mathlib.Core.Path.{◌≡◌, refl, sym, ◌∙◌, ap}
use mathlib.Core.Bool.{Bool, not}
use mathlib.Core.List.{List, [], ◌∷◌, map-id, append-nil}
use Rattle.std.specs.Prelude.{None}
use lib.Dec.{eqb}
use lib.ListN.{length, get_or, set, replicate}
use lib.Seq.{slice, sets, set_comm}
use Rattle.constants.specs.Maxima.{samples_most}
use Rattle.field_table.specs.Lines.{sizes_at, size_at, description_at, durations_at, duration_at, offsets_at, flags_at, default_flags_at, ivs_at, subsamples_at, first_flags_at, clear_at, protected_at, offsets_line, ivs_line, subsamples_line, first_flags_line, clear_line, protected_line}
use Rattle.media.specs.Flags.{five_of}
use Rattle.track.specs.declared.Track.{Track}
use Rattle.cmaf_read_shape.specs.declared.inner.Inner.{Inner}
use Rattle.field_table.specs.declared.lines.Line.{Line}
use Rattle.field_table.specs.Lines.{lines, line_for, spare, set_len}
use Rattle.field_table.proofs.LineLaws.{tiled, line-count}
use Rattle.cmaf_read_moof.specs.declared.defaults.Defaults.{Defaults}
use Rattle.cmaf_read_trun.specs.declared.rows.Run.{Run}
use Rattle.cmaf_read_shape.specs.Words.{bit_of}
use Rattle.cmaf_read_moof.specs.Headers.{bmdt_of}
use Rattle.cmaf_read_trun.specs.Rows.{has_column, durations, offsets, sample_flags, first, first_flags}
use Rattle.cmaf_read_trun.specs.Samples.{column_of}
use Rattle.field_rules.specs.Fields.{Held, words_of}
use Rattle.field_rules.specs.Words.{set_words, no_fields, store_all, regions_of}
use Rattle.field_rules.proofs.SetLaws.{AllFit, store-run, words-none, words-bmdt, words-fit}
use Rattle.cmaf_read_samples.specs.declared.cells.Way.TheVariants.{Plain, Raised, Five}
use Rattle.cmaf_read_samples.specs.Ways.{column_words}
use Rattle.cmaf_read_samples.specs.Held.{held_if}
use Rattle.cmaf_read_samples.specs.Sizes.{sizes_held, size_held}
use Rattle.cmaf_read_set.specs.Set.{held_for, field_of, chunk_set}
use Rattle.cmaf_read_set.specs.Set as G
use Rattle.cmaf_read_set.specs.Stored.{stored_low, stored_high, protection_lines}
use Rattle.cmaf_read_set.specs.Gatherable.{Gatherable}
use Rattle.cmaf_read_set.proofs.FitLaws.{all-fit}
use Rattle.cmaf_read_set.proofs.StoreTwice.{sets-past}

-- all fields stored into a set without fields, in the order of the table
pub stored-all : (b n : ℕ) (f : Line → Held) → AllFit f → store_all f lines (set_words b n no_fields) ≡ set_words b n f
unfolding set_words
stored-all b n f h =
    ap (λ (w : List ℕ). store_all f lines (b ∷ n ∷ w)) (sym (append-nil (regions_of no_fields lines)))
    ∙ store-run f (b ∷ n ∷ []) lines [] set_len tiled (λ i lt. h i (omega (arith, line-count)))
    ∙ ap (λ (w : List ℕ). b ∷ n ∷ w) (append-nil (regions_of f lines))

-- the words of a set without fields, from zeros
begun : (b n : ℕ) → set (set (replicate set_len 0) 0 b) 1 n ≡ set_words b n no_fields
begun b n =
    set_comm (replicate set_len 0) 0 1 b n (λ z. omega (arith, z)) ∙ ap (λ (w : List ℕ). set w 0 b) (words-none n) ∙ words-bmdt 0 b n no_fields

-- id 12 may be stored before ids 9 and 11
earlier : (z a b w : List ℕ) → length a ≤ 2 * samples_most + 1 → length b ≤ samples_most + 1 → sets (sets (sets z first_flags_at w) ivs_at a) subsamples_at b ≡ sets (sets (sets z ivs_at a) subsamples_at b) first_flags_at w
earlier z a b w h k =
    ap (λ (y : List ℕ). sets y subsamples_at b) (sym (sets-past w a z ivs_at first_flags_at (omega arith))) ∙ sym (sets-past w b (sets z ivs_at a) subsamples_at first_flags_at (omega arith))

-- the order of the code gives what the order of the table gives
in-order : (f : Line → Held) (x : List ℕ) → AllFit f → f (line_for 16 lines) ≡ None
    → store_all f protection_lines (sets (store_all f (slice offsets_line ivs_line lines) (store_all f (slice 0 offsets_line lines) x)) first_flags_at (words_of (f (line_for 12 lines))))
    ≡ store_all f lines x
unfolding lines line_for store_all
in-order f x h e =
    let a : List ℕ = words_of (f (get_or lines ivs_line spare)) in
    let b : List ℕ = words_of (f (get_or lines subsamples_line spare)) in
    let y : List ℕ = store_all f (slice offsets_line ivs_line lines) (store_all f (slice 0 offsets_line lines) x) in
    let p : length a ≤ 2 * samples_most + 1 = words-fit (get_or lines ivs_line spare) (f (get_or lines ivs_line spare)) (h ivs_line (omega arith)) in
    let q : length b ≤ samples_most + 1 = words-fit (get_or lines subsamples_line spare) (f (get_or lines subsamples_line spare)) (h subsamples_line (omega arith)) in
    ap (λ (z : List ℕ). sets (sets z clear_at (words_of (f (get_or lines clear_line spare)))) protected_at (words_of (f (get_or lines protected_line spare))))
    (earlier y a b (words_of (f (get_or lines first_flags_line spare))) p q)
    ∙ rw e

-- one store more
step : {x y z w v : List ℕ} (p : ℕ) → x ≡ y → z ≡ sets x p w → w ≡ v → z ≡ sets y p v
step p e h q = h ∙ (λ j. sets (e j) p (q j))

-- ids 1 to 8, by what each call stores
module _ (t : Track) (c : List ℕ) (d : Defaults) (r : Run) (equal : Bool) (x : List ℕ) where
  pub low_read : {x₁ x₂ x₃ x₄ : List ℕ} → x₁ ≡ sets x sizes_at (words_of (sizes_held c r d.size equal))
      → x₂ ≡ sets x₁ description_at (words_of (held_if (not (eqb d.description t.description)) (d.description ∷ [])))
      → x₃ ≡ sets x₂ durations_at (column_words Plain c r durations)
      → x₄ ≡ sets x₃ duration_at (words_of (held_if (not (eqb d.duration t.duration)) (d.duration ∷ [])))
      → x₄ ≡ stored_low t c d r equal x
  unfolding stored_low
  low_read h₁ h₂ h₃ h₄ = rw (h₄, h₃, h₂, h₁)

  pub high_read : {x₁ x₂ x₃ x₄ : List ℕ} (five : ℕ) → five ≡ five_of d.flags → x₁ ≡ sets x offsets_at (column_words Raised c r offsets)
      → x₂ ≡ sets x₁ size_at (words_of (size_held c r d.size t.size equal))
      → x₃ ≡ sets x₂ flags_at (column_words Five c r sample_flags)
      → x₄ ≡ sets x₃ default_flags_at (words_of (held_if (not (eqb five t.flags)) (five ∷ [])))
      → x₄ ≡ stored_high t c d r equal x
  unfolding stored_high
  high_read five e h₁ h₂ h₃ h₄ = rw (h₄, h₃, h₂, h₁, e)

module _ (t : Track) (c : List ℕ) (f : Inner) where
  -- they are those of the set, if what was read is the chunk's
  module _ {d : Defaults} {r : Run} {equal : Bool} (ed : d ≡ G.defaults t c f) (er : r ≡ G.run t c f) (ee : equal ≡ G.equal t c f) (x : List ℕ) where
    low-stored : stored_low t c d r equal x ≡ store_all (field_of t c f) (slice 0 offsets_line lines) x
    unfolding stored_low lines store_all held_for
    low-stored = λ j.
        sets
        (sets
        (sets (sets x sizes_at (words_of (sizes_held c (er j) (ed j).size (ee j)))) description_at
        (words_of (held_if (not (eqb (ed j).description t.description)) ((ed j).description ∷ []))))
        durations_at
        (words_of (held_if (has_column (er j) durations) (map-id (column_of c (er j) durations) j))))
        duration_at
        (words_of (held_if (not (eqb (ed j).duration t.duration)) ((ed j).duration ∷ [])))

    high-stored : stored_high t c d r equal x ≡ store_all (field_of t c f) (slice offsets_line ivs_line lines) x
    unfolding stored_high lines store_all held_for
    high-stored = λ j. stored_high t c (ed j) (er j) (ee j) x

  -- the definition of the set says nothing of id 16
  pub no-sixteen : field_of t c f (line_for 16 lines) ≡ None
  unfolding lines line_for held_for
  no-sixteen = refl

  -- id 12, by what the code has read
  twelve : (v : ℕ) (r : Run) (bit : ℕ) → r ≡ G.run t c f → bit ≡ bit_of r.word first → v ≡ five_of (first_flags c f.trun)
      → words_of (held_if (eqb bit 1) (v ∷ [])) ≡ words_of (field_of t c f (line_for 12 lines))
  unfolding lines line_for held_for
  twelve v r bit er ei ev =
      let e : bit ≡ bit_of (G.run t c f).word first = ei ∙ ap (λ (k : Run). bit_of k.word first) er in
      λ j. words_of (held_if (eqb (e j) 1) (ev j ∷ []))

  -- all of it
  pub set-stored : Gatherable t c f → {x x₁ x₂ x₃ x₄ : List ℕ} (b v : ℕ) (d : Defaults) (r : Run) (equal : Bool) (bit : ℕ)
      → x ≡ replicate set_len 0 → b ≡ bmdt_of c f.tfdt → d ≡ G.defaults t c f → r ≡ G.run t c f → equal ≡ G.equal t c f
      → bit ≡ bit_of r.word first → v ≡ five_of (first_flags c f.trun)
      → x₁ ≡ stored_low t c d r equal (set (set x 0 b) 1 r.count)
      → x₂ ≡ stored_high t c d r equal x₁
      → x₃ ≡ sets x₂ first_flags_at (words_of (held_if (eqb bit 1) (v ∷ [])))
      → x₄ ≡ store_all (field_of t c f) protection_lines x₃
      → x₄ ≡ chunk_set t c f
  unfolding chunk_set
  set-stored g {x} {x₁} b v d r equal bit ex eb ed er ee ei ev h₁ h₂ h₃ h₄ =
      let F : Line → Held = field_of t c f in
      let start : set (set x 0 b) 1 r.count ≡ set_words (bmdt_of c f.tfdt) (G.run t c f).count no_fields =
      (λ j. set (set (ex j) 0 (eb j)) 1 (er j).count) ∙ begun (bmdt_of c f.tfdt) (G.run t c f).count in
      let w : words_of (held_if (eqb bit 1) (v ∷ [])) ≡ words_of (F (line_for 12 lines)) = twelve v r bit er ei ev in
      let low : x₁ ≡ store_all F (slice 0 offsets_line lines) (set (set x 0 b) 1 r.count) = h₁ ∙ low-stored ed er ee _ in
      h₄
      ∙ ap (store_all F protection_lines) (step first_flags_at (h₂ ∙ high-stored ed er ee x₁ ∙ ap (store_all F (slice offsets_line ivs_line lines)) (low ∙ ap (store_all F (slice 0 offsets_line lines)) start)) h₃ w)
      ∙ in-order F _ (all-fit t c f g) no-sixteen
      ∙ stored-all (bmdt_of c f.tfdt) (G.run t c f).count F (all-fit t c f g)

-- The fields that a `senc` has: marks, and then what its entries store, are the stores of the fields that stand. Assumes nothing.
use Prim.Native.Nat.{ℕ, zero, suc, ◌+◌, ◌*◌, ◌/◌, ◌≤◌, ◌<◌}
use native.Mathlib.Nat.{mul-zero}
use native.Mathlib.Omega.{arith}
use mathlib.Core.Path.{◌≡◌, refl, sym, ◌∙◌, ap}
use mathlib.Core.Bool.{Bool, true, false, cond, not, ◌&&◌}
use mathlib.Core.List.{List, [], ◌∷◌}
use borrow.Author.Tests.{eqb-true, eq-eqb, ne_eqb}
use lib.Dec.{eqb}
use lib.ListN.{length, set}
use lib.Seq.{sets, length-sets}
use Rattle.constants.specs.Maxima.{samples_most, subsamples_most}
use Rattle.field_table.specs.Lines.{ivs_at, subsamples_at, clear_at, protected_at}
use Rattle.track.specs.declared.Track.{Track}
use Rattle.cmaf_read_shape.specs.declared.inner.Inner.{Inner}
use Rattle.cmaf_read_shape.specs.Parts.{Inside}
use Rattle.field_table.specs.declared.lines.Line.{Line}
use Rattle.field_table.specs.Lines.{lines, line_for}
use Rattle.field_rules.specs.Fields.{Held, words_of}
use Rattle.field_rules.specs.Words.{store_all}
use Rattle.cmaf_read_senc.specs.declared.entries.Entries.{Entries}
use Rattle.cmaf_read_senc.specs.Entries.{senc_ok, subsamples}
use Rattle.cmaf_read_senc.proofs.SencLaws.{entries-iv}
use Rattle.cmaf_read_set.specs.Entries.{all_ivs, all_counts, all_clear, all_protected}
use Rattle.cmaf_read_set.specs.Stored.{stored_entries, stored_marks, protection_lines}
use Rattle.cmaf_read_set.specs.Set as G
use Rattle.cmaf_read_samples.specs.Held.{held_if}
use Rattle.cmaf_read_set.specs.Set.{held_for}
use Rattle.cmaf_read_set.proofs.EntryStores.{words-room, stored-map, stored-plain}
use Rattle.cmaf_read_set.proofs.EntryLengths.{ivs-length, counts-length}
use Rattle.cmaf_read_set.proofs.EntryWalk.{all-clear}
use Rattle.cmaf_read_set.proofs.MarkLaws.{iv_mark, marks-map, marks-plain}
use Rattle.cmaf_read_set.proofs.StoreTwice.{four, four-more}

-- the IVs after their mark: none, where an IV has no bytes
ivs-marked : (c : List ℕ) (e : Entries) (k at : ℕ) (x : List ℕ)
    → sets (iv_mark e x) (ivs_at + 1) (all_ivs c e k at) ≡ sets x ivs_at (words_of (held_if (not (eqb e.iv 0)) (all_ivs c e k at)))
unfolding iv_mark held_if
ivs-marked c e k at x = by (eqb e.iv 0) refl
  where
    none_left : (vs : List ℕ) → length vs ≡ 0 → sets x (ivs_at + 1) vs ≡ x
    none_left [] h = refl
    none_left (v ∷ vs) h = absurd (omega arith)

    by : (t : Bool) → eqb e.iv 0 ≡ t
        → sets (cond t x (set x ivs_at 1)) (ivs_at + 1) (all_ivs c e k at) ≡ sets x ivs_at (words_of (held_if (not t) (all_ivs c e k at)))
    by true h =
        let z : e.iv ≡ 0 = eqb-true e.iv 0 h in
        let y : e.iv / 8 ≡ 0 = omega arith in
        none_left (all_ivs c e k at) (ivs-length c e k at ∙ rw y (omega arith))
    by false h = refl

-- ---- all of it

module _ (t : Track) (c : List ℕ) (f : Inner) where
  abbrev e : Entries
  e = G.entries t c f

  abbrev ivs : List ℕ
  ivs = all_ivs c e e.count e.at

  abbrev counts : List ℕ
  counts = all_counts c e e.count e.at

  abbrev clear : List ℕ
  clear = all_clear c e e.count e.at

  abbrev protect : List ℕ
  protect = all_protected c e e.count e.at

  -- the fields by whether IVs stand, and subsamples
  abbrev stores : Bool → Bool → List ℕ → List ℕ
  stores a b x =
      four x ivs_at (words_of (held_if a ivs)) subsamples_at (words_of (held_if b counts)) clear_at (words_of (held_if b clear)) protected_at (words_of (held_if b protect))

  stores-are : (x : List ℕ) → store_all (G.field_of t c f) protection_lines x ≡ stores (G.has_ivs t c f) (G.has_map t c f) x
  unfolding store_all held_for line_for lines
  stores-are x = refl

  -- no `senc` stands
  pub protection-none : (x : List ℕ) → f.senc.len ≡ 0 → x ≡ store_all (G.field_of t c f) protection_lines x
  unfolding held_if
  protection-none x h =
      sym
      (stores-are x
      ∙ ap (λ (y : Bool). stores (not y && not (eqb e.iv 0)) (not y && e.map) x) (eq-eqb f.senc.len 0 h))

  module _ (h : f.senc.len ≡ 0 → ⊥) (v : e.iv ≤ 16) (n : e.count ≤ samples_most) (s : length clear ≤ subsamples_most) where
    stands : (x : List ℕ) → stores (not (eqb e.iv 0)) e.map x ≡ store_all (G.field_of t c f) protection_lines x
    stands x =
        sym
        (stores-are x
        ∙ ap (λ (y : Bool). stores (not y && not (eqb e.iv 0)) (not y && e.map) x) (ne_eqb f.senc.len 0 h))

    by_map : (x : List ℕ) → e.map ≡ true → stored_entries c e e.count e.at 0 0 (stored_marks e x) ≡ stores (not (eqb e.iv 0)) true x
    unfolding held_if
    by_map x m =
        let z : e.iv / 8 * 0 ≡ 0 = mul-zero (e.iv / 8) in
        let y : List ℕ = iv_mark e x in
        ap (stored_entries c e e.count e.at 0 0) (sym (marks-map e x m refl))
        ∙ stored-map c e m v e.count e.at 0 0 (four y (ivs_at + 1) [] subsamples_at (1 ∷ []) clear_at (1 ∷ []) protected_at (1 ∷ [])) (omega arith) (omega arith)
        ∙ four-more y (ivs_at + 1) subsamples_at clear_at protected_at [] (1 ∷ []) (1 ∷ []) (1 ∷ []) (ivs_at + 1 + e.iv / 8 * 0) (subsamples_at + 1) (clear_at + 1) (protected_at + 1) ivs counts clear protect (omega (arith, z))
        (omega arith)
        (omega arith)
        (omega arith)
        (omega (arith, z, ivs-length c e e.count e.at, words-room v n))
        (omega (arith, counts-length c e e.count e.at))
        (omega arith)
        ∙ ap (λ (w : List ℕ). sets (sets (sets w subsamples_at (1 ∷ counts)) clear_at (1 ∷ clear)) protected_at (1 ∷ protect)) (ivs-marked c e e.count e.at x)

    by-plain : (x : List ℕ) → e.map ≡ false → stored_entries c e e.count e.at 0 0 (stored_marks e x) ≡ stores (not (eqb e.iv 0)) false x
    unfolding held_if
    by-plain x m =
        let z : ivs_at + 1 + e.iv / 8 * 0 ≡ ivs_at + 1 = ap (λ (i : ℕ). ivs_at + 1 + i) (mul-zero (e.iv / 8)) in
        ap (stored_entries c e e.count e.at 0 0) (sym (marks-plain e x m refl))
        ∙ stored-plain c e m e.count e.at 0 0 (iv_mark e x)
        ∙ ap (λ (p : ℕ). sets (iv_mark e x) p ivs) z
        ∙ ivs-marked c e e.count e.at x

    -- one stands: the marks, and then all entries
    pub protection-some : (x : List ℕ) → stored_entries c e e.count e.at 0 0 (stored_marks e x) ≡ store_all (G.field_of t c f) protection_lines x
    protection-some x = by e.map refl ∙ stands x
      where
        by : (y : Bool) → e.map ≡ y
            → stored_entries c e e.count e.at 0 0 (stored_marks e x) ≡ stores (not (eqb e.iv 0)) e.map x
        by true m = by_map x m ∙ ap (λ (y : Bool). stores (not (eqb e.iv 0)) y x) (sym m)
        by false m = by-plain x m ∙ ap (λ (y : Bool). stores (not (eqb e.iv 0)) y x) (sym m)

-- ---- what the code asks, and leaves

pub store_length : (g : Line → Held) (ls : List Line) (x : List ℕ) → length (store_all g ls x) ≡ length x
unfolding store_all
store_length g [] x = refl
store_length g (l ∷ ls) x = store_length g ls (sets x l.place (words_of (g l))) ∙ length-sets x l.place (words_of (g l))

pub some_bytes : (n : ℕ) → (n ≡ 0 → ⊥) → 0 < n
some_bytes zero h = absurd (h refl)
some_bytes (suc n) h = omega arith

module _ (t : Track) (c : List ℕ) (f : Inner) (h : f.senc.len ≡ 0 → ⊥) (e : Entries) (q : e ≡ G.entries t c f) where
  pub count-asked : (0 < f.senc.len → (G.entries t c f).count ≤ samples_most) → e.count ≤ samples_most
  count-asked n = omega (arith, ap (λ (z : Entries). z.count) q, n (some_bytes _ h))

  pub iv-size-asked : t.iv_size ≤ 16 → e.iv ≤ 16
  iv-size-asked v = omega (arith, ap (λ (z : Entries). z.iv) q, entries-iv t c f.senc, v)

  module _ (g : (Inside c f.senc) × (senc_ok t c f.senc ≡ true)) where
    pub protection-done : (x x₁ x₂ : List ℕ)
        → (0 < f.senc.len → (G.entries t c f).count ≤ samples_most) × (t.iv_size ≤ 16) × (subsamples t c f.senc ≤ subsamples_most) → x₁ ≡ stored_marks e x
        → x₂ ≡ stored_entries c e e.count e.at 0 0 x₁ → x₂ ≡ store_all (G.field_of t c f) protection_lines x
    protection-done x x₁ x₂ m y z =
        let n : 0 < f.senc.len = some_bytes _ h in
        let v : (G.entries t c f).iv ≤ 16 = omega (arith, entries-iv t c f.senc, m.1) in
        z
        ∙ ap (stored_entries c e e.count e.at 0 0) y
        ∙ ap (λ (k : Entries). stored_entries c k k.count k.at 0 0 (stored_marks k x)) q
        ∙ protection-some t c f h v (m.0 n) (all-clear t c f.senc g.0 g.1 n m.2) x

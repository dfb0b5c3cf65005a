-- The set of a chunk that keeps the rules keeps those on sets: which of its fields stand. Assumes nothing.
use Prim.Native.Nat.{ℕ, ◌+◌, ◌%◌, ◌≤◌, ◌<◌}
use native.Mathlib.Omega.{arith}
use mathlib.Core.Path.{◌≡◌, refl, sym, ◌∙◌, ap}
use mathlib.Core.Bool.{Bool, true, false, false≢true, cond, not, ◌&&◌, ◌||◌, beq}
use mathlib.Core.List.{List, [], ◌∷◌, map}
use borrow.Author.Tests.{eqb-true, eqb-false, eq-eqb, ne_eqb, leb-true, leb-false, le-leb}
use lib.Dec.{eqb, leb}
use Rattle.laws.specs.Tests.{◌and◌, sum}
use Rattle.laws.proofs.TestLaws.{left, right, both, and_right}
use Rattle.track.proofs.IvLaws.{iv-stands}
use Rattle.track.specs.declared.Track.{Track}
use Rattle.track.specs.Track.{none, cenc, iv_ok}
use Rattle.cmaf_read_shape.specs.declared.top.Top.{Top}
use Rattle.cmaf_read_shape.specs.declared.inner.Inner.{Inner}
use Rattle.cmaf_read_shape.specs.Parts.{body_of}
use Rattle.event_value.specs.Events.{Event}
use Rattle.laws.specs.Options.{is_some}
use Rattle.field_table.specs.Lines.{lines, line_number}
use Rattle.field_set.specs.Lawful.{set_rules}
use Rattle.cmaf_read_shape.specs.Words.{bit_of}
use Rattle.cmaf_read_trun.specs.Rows.{durations, offsets, sample_flags, first, has_column, run_flags_ok, trun_ok}
use Rattle.cmaf_read_trun.specs.Samples.{sizes_of}
use Rattle.cmaf_read_senc.proofs.SencLaws.{entries-iv}
use Rattle.cmaf_read_rules.specs.Rules.{sizes_ok, unprotected_ok}
use Rattle.cmaf_read_rules.proofs.CountLaws.{CountsHold}
use Rattle.cmaf_read_rules.proofs.RuleFacts.{RulesHold, rules-unprotected, rules-protected, protection-holds}
use Rattle.cmaf_read_samples.specs.Held.{held_if}
use Rattle.cmaf_read_set.specs.Set.{held_for, field_of, run, entries, several, equal, size, has_ivs, has_map, defaults}
use Rattle.cmaf_read_chunk.proofs.SetKeeps.{size_said}

-- ---- the rules, by which fields stand

abbrev mark_of : Bool → ℕ
mark_of b = cond b 1 0

mark-is : (b : Bool) → not (eqb (mark_of b) 0) ≡ b
mark-is true = refl
mark-is false = refl

module _ (t : Track) (n : ℕ) where
  abbrev rules_of : Bool → Bool → Bool → Bool → Bool → Bool → Bool → Bool → Bool → Bool → Bool
  rules_of a₁ a₃ a₅ a₆ a₇ a₉ a₁₁ a₁₂ a₁₃ a₁₅ =
      (not (eqb n 0) || not ((a₁ || (a₃ || (a₅ || (a₇ || (a₁₁ || (a₁₃ || a₁₅)))))) || (a₉ || a₁₂)))
      and (not (eqb n 1) || not (a₁ || a₆))
      and not (a₁ && a₆)
      and not (a₇ && a₁₂)
      and beq a₁₁ a₁₃
      and beq a₁₃ a₁₅
      and (not a₁₁ || not (eqb t.protection none))
      and beq a₉ (eqb t.protection cenc && not (eqb n 0))
      and (leb n 1 || ((a₁ || a₆) || not (eqb t.size 0)))

  rules-are : (a₁ a₂ a₃ a₄ a₅ a₆ a₇ a₈ a₉ a₁₁ a₁₂ a₁₃ a₁₅ a₁₆ : Bool)
      → set_rules t n
      (mark_of a₁ ∷ mark_of a₂ ∷ mark_of a₃ ∷ mark_of a₄ ∷ mark_of a₅ ∷ mark_of a₆ ∷ mark_of a₇ ∷ mark_of a₈ ∷ mark_of a₉ ∷ mark_of a₁₁ ∷ mark_of a₁₂
      ∷ mark_of a₁₃ ∷ mark_of a₁₅ ∷ mark_of a₁₆ ∷ [])
      ≡ rules_of a₁ a₃ a₅ a₆ a₇ a₉ a₁₁ a₁₂ a₁₃ a₁₅
  unfolding set_rules line_number lines
  rules-are a₁ a₂ a₃ a₄ a₅ a₆ a₇ a₈ a₉ a₁₁ a₁₂ a₁₃ a₁₅ a₁₆ =
      λ j.
      rules_of (mark-is a₁ j) (mark-is a₃ j) (mark-is a₅ j) (mark-is a₆ j) (mark-is a₇ j) (mark-is a₉ j) (mark-is a₁₁ j) (mark-is a₁₂ j)
      (mark-is a₁₃ j) (mark-is a₁₅ j)

-- ---- rule by rule

-- with no samples, nothing of these
none-stand : (n : ℕ) (a₁ a₃ a₅ a₇ a₉ m a₁₂ : Bool)
    → (n ≡ 0 → a₁ ≡ false) → (n ≡ 0 → a₃ ≡ false) → (n ≡ 0 → a₅ ≡ false) → (n ≡ 0 → a₇ ≡ false) → (n ≡ 0 → a₉ ≡ false) → (n ≡ 0 → m ≡ false)
    → (n ≡ 0 → a₁₂ ≡ false)
    → (not (eqb n 0) || not ((a₁ || (a₃ || (a₅ || (a₇ || (m || (m || m)))))) || (a₉ || a₁₂))) ≡ true
none-stand n a₁ a₃ a₅ a₇ a₉ m a₁₂ h₁ h₃ h₅ h₇ h₉ hm h₁₂ = by (eqb n 0) refl
  where
    by : (b : Bool) → eqb n 0 ≡ b → (not b || not ((a₁ || (a₃ || (a₅ || (a₇ || (m || (m || m)))))) || (a₉ || a₁₂))) ≡ true
    by true e = let z : n ≡ 0 = eqb-true n 0 e in rw (h₁ z, h₃ z, h₅ z, h₇ z, h₉ z, hm z, h₁₂ z)
    by false e = refl

-- with one, neither sizes nor a size
one-stands : (n : ℕ) (x y : Bool) → (not (eqb n 1) || not ((leb 2 n && x) || (leb 2 n && y))) ≡ true
one-stands n x y = by (eqb n 1) refl
  where
    by : (b : Bool) → eqb n 1 ≡ b → (not b || not ((leb 2 n && x) || (leb 2 n && y))) ≡ true
    by true e = let z : n ≡ 1 = eqb-true n 1 e in rw z
    by false e = refl

-- never both
never_both : (s e d : Bool) → not ((s && not e) && (s && (e && d))) ≡ true
never_both true true d = refl
never_both true false d = refl
never_both false e d = refl

-- not both kinds of flags
not-both : (x y : ℕ) → x + y ≤ 1 → not (eqb y 1 && eqb x 1) ≡ true
not-both x y h = by (eqb y 1) refl (eqb x 1) refl
  where
    by : (a : Bool) → eqb y 1 ≡ a → (b : Bool) → eqb x 1 ≡ b → not (a && b) ≡ true
    by true p true q = let u : y ≡ 1 = eqb-true y 1 p in let v : x ≡ 1 = eqb-true x 1 q in absurd (omega arith)
    by true p false q = refl
    by false p b q = refl

alike : (m : Bool) → beq m m ≡ true
alike true = refl
alike false = refl

-- with several and neither, the track's own size isn't 0
several-sized : (n size own : ℕ) (e : Bool)
    → (leb n 1 || (((leb 2 n && not e) || (leb 2 n && (e && not (eqb size own && not (eqb size 0))))) || not (eqb own 0))) ≡ true
several-sized n size own e = by (leb n 1) refl
  where
    equal-sized : (p : Bool) → eqb size own ≡ p → (q : Bool) → eqb size 0 ≡ q → (not (p && not q) || not (eqb own 0)) ≡ true
    equal-sized false p q r = refl
    equal-sized true p true r = refl
    equal-sized true p false r =
        let u : size ≡ own = eqb-true size own p in
        let v : size ≡ 0 → ⊥ = eqb-false size 0 r in
        ap not (ne_eqb own 0 (λ z. v (u ∙ z)))

    two : (x : Bool) → ((not x || (x && not (eqb size own && not (eqb size 0)))) || not (eqb own 0)) ≡ true
    two true = equal-sized (eqb size own) refl (eqb size 0) refl
    two false = refl

    by : (b : Bool) → leb n 1 ≡ b
        → (b || (((leb 2 n && not e) || (leb 2 n && (e && not (eqb size own && not (eqb size 0))))) || not (eqb own 0))) ≡ true
    by true h = refl
    by false h = let l : 1 < n = leb-false n 1 h in rw (le-leb 2 n (omega arith)) (two e)

-- ---- IVs and protection

-- ---- a chunk

module _ (t : Track) (c : List ℕ) (top : Top) (f : Inner) {events : List Event} (rules : RulesHold t c top f events)
    (iv : iv_ok t.protection t.iv_size ≡ true) (trun : trun_ok c f.trun ≡ true) where
  abbrev n : ℕ
  n = (run t c f).count

  abbrev word : ℕ
  word = (run t c f).word

  abbrev stands : Bool
  stands = not (eqb f.senc.len 0)

  -- what a `senc` that stands shows
  counts : 0 < f.senc.len → CountsHold t c top f
  counts h = (protection-holds t c top f (rules-protected t c top f rules h)).counts

  -- it stands or not
  by-senc : (P : Bool → Type 0) → (0 < f.senc.len → P true) → (f.senc.len ≡ 0 → P false) → P stands
  by-senc P there gone = go (eqb f.senc.len 0) refl
    where
      go : (b : Bool) → eqb f.senc.len 0 ≡ b → P (not b)
      go true e = gone (eqb-true _ _ e)
      go false e = let z : f.senc.len ≡ 0 → ⊥ = eqb-false _ _ e in there (omega arith)

  -- with no samples: no `senc`
  no-senc : (b : Bool) → n ≡ 0 → (stands && b) ≡ false
  no-senc b z = by-senc (λ s. (s && b) ≡ false) (λ h. absurd ((counts h).samples z)) (λ h. refl)

  -- and no column, and no flags of the first sample
  bare : n ≡ 0 → word % 0x100_0000 ≡ 1
  unfolding sizes_ok
  bare z =
      eqb-true _ _
      (sym (ap (λ (x : Bool). not x || eqb (word % 0x100_0000) 0x1) (eq-eqb n 0 z))
      ∙ and_right (eqb (sum (sizes_of c (run t c f) (defaults t c f).size)) (body_of top.mdat).len) (not (eqb n 0) || eqb (word % 0x100_0000) 0x1)
      rules.sizes)

  no-durations : n ≡ 0 → has_column (run t c f) durations ≡ false
  unfolding has_column
  no-durations z = ne_eqb (bit_of word durations) 1 (λ e. omega (arith, bare z))

  no-offsets : n ≡ 0 → has_column (run t c f) offsets ≡ false
  unfolding has_column
  no-offsets z = ne_eqb (bit_of word offsets) 1 (λ e. omega (arith, bare z))

  no-flags : n ≡ 0 → has_column (run t c f) sample_flags ≡ false
  unfolding has_column
  no-flags z = ne_eqb (bit_of word sample_flags) 1 (λ e. omega (arith, bare z))

  no-first : n ≡ 0 → eqb (bit_of word first) 1 ≡ false
  no-first z = ne_eqb (bit_of word first) 1 (λ e. omega (arith, bare z))

  no-sizes : (b : Bool) → n ≡ 0 → (several t c f && b) ≡ false
  no-sizes b z = rw z

  -- not both kinds of flags
  flags-apart : not (has_column (run t c f) sample_flags && eqb (bit_of word first) 1) ≡ true
  unfolding trun_ok run_flags_ok has_column
  flags-apart = not-both (bit_of word first) (bit_of word sample_flags) (leb-true _ _ (right _ _ (right _ _ (left _ _ trun))))

  -- subsamples on protected tracks alone
  map-protected : (not (has_map t c f) || not (eqb t.protection none)) ≡ true
  map-protected =
      by-senc (λ s. (not (s && (entries t c f).map) || not (eqb t.protection none)) ≡ true)
      (λ h. rw (ne_eqb t.protection none (counts h).protected) (or-true (not (true && (entries t c f).map)))) (λ h. refl)
    where
      or-true : (b : Bool) → (b || true) ≡ true
      or-true true = refl
      or-true false = refl

  -- IVs exactly on cenc with samples
  ivs-cenc : beq (has_ivs t c f) (eqb t.protection cenc && not (eqb n 0)) ≡ true
  unfolding unprotected_ok
  ivs-cenc =
      by-senc (λ s. beq (s && not (eqb (entries t c f).iv 0)) (eqb t.protection cenc && not (eqb n 0)) ≡ true)
      (λ h.
      rw (entries-iv t c f.senc, iv-stands t.protection t.iv_size iv, ne_eqb n 0 (counts h).samples) (same (eqb t.protection cenc)))
      (λ h. other (eqb t.protection cenc) (eqb n 0) (rules-unprotected t c top f rules h))
    where
      same : (b : Bool) → beq b (b && true) ≡ true
      same true = refl
      same false = refl

      other : (a b : Bool) → (not a || b) ≡ true → beq false (a && not b) ≡ true
      other true true k = refl
      other true false k = absurd (false≢true k)
      other false b k = refl

  -- all of them
  rules-stand : rules_of t n (several t c f && not (equal t c f)) (has_column (run t c f) durations) (has_column (run t c f) offsets)
      (several t c f && (equal t c f && size_said t c f)) (has_column (run t c f) sample_flags)
      (has_ivs t c f) (has_map t c f) (eqb (bit_of word first) 1) (has_map t c f) (has_map t c f)
      ≡ true
  rules-stand =
      both _ _
      (none-stand n (several t c f && not (equal t c f)) (has_column (run t c f) durations) (has_column (run t c f) offsets)
      (has_column (run t c f) sample_flags) (has_ivs t c f) (has_map t c f) (eqb (bit_of word first) 1) (no-sizes (not (equal t c f))) no-durations
      no-offsets no-flags (no-senc (not (eqb (entries t c f).iv 0))) (no-senc (entries t c f).map) no-first)
      (both _ _ (one-stands n (not (equal t c f)) (equal t c f && size_said t c f))
      (both _ _ (never_both (several t c f) (equal t c f) (size_said t c f))
      (both _ _ flags-apart
      (both _ _ (alike (has_map t c f))
      (both _ _ (alike (has_map t c f)) (both _ _ map-protected (both _ _ ivs-cenc (several-sized n (size t c f) t.size (equal t c f)))))))))

  -- which fields stand
  stand-is : (b : Bool) (vs : List ℕ) → is_some (held_if b vs) ≡ b
  unfolding held_if
  stand-is true vs = refl
  stand-is false vs = refl

  abbrev at : ℕ → Bool
  at id = is_some (held_for t c f id)

  fields-stand : rules_of t n (at 1) (at 3) (at 5) (at 6) (at 7) (at 9) (at 11) (at 12) (at 13) (at 15) ≡ true
  unfolding held_for
  fields-stand =
      let p₁ : at 1 ≡ (several t c f && not (equal t c f)) = stand-is _ _ in
      let p₃ : at 3 ≡ has_column (run t c f) durations = stand-is _ _ in
      let p₅ : at 5 ≡ has_column (run t c f) offsets = stand-is _ _ in
      let p₆ : at 6 ≡ (several t c f && (equal t c f && size_said t c f)) = stand-is _ _ in
      let p₇ : at 7 ≡ has_column (run t c f) sample_flags = stand-is _ _ in
      let p₉ : at 9 ≡ has_ivs t c f = stand-is _ _ in
      let p₁₁ : at 11 ≡ has_map t c f = stand-is _ _ in
      let p₁₂ : at 12 ≡ eqb (bit_of word first) 1 = stand-is _ _ in
      let p₁₃ : at 13 ≡ has_map t c f = stand-is _ _ in
      let p₁₅ : at 15 ≡ has_map t c f = stand-is _ _ in
      (λ j. rules_of t n (p₁ j) (p₃ j) (p₅ j) (p₆ j) (p₇ j) (p₉ j) (p₁₁ j) (p₁₂ j) (p₁₃ j) (p₁₅ j)) ∙ rules-stand

  -- so the set keeps the rules
  pub set-rules : set_rules t n (map (λ l. cond (is_some (field_of t c f l)) 1 0) lines) ≡ true
  unfolding lines
  set-rules =
      rules-are t n (at 1) (at 2) (at 3) (at 4) (at 5) (at 6) (at 7) (at 8) (at 9) (at 11) (at 12) (at 13) (at 15) (at 16) ∙ fields-stand

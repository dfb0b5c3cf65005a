-- The last two rules of the fields: what is found by taking the lines behind id 11 is what they ask. Assumes nothing.
use Prim.Native.Nat.{ℕ, ◌+◌}
use native.Mathlib.Omega.{arith}
use mathlib.Core.Path.{◌≡◌, refl, sym, ◌∙◌, ap}
use mathlib.Core.Bool.{Bool, true, false, not, ◌&&◌}
use mathlib.Core.List.{List}
use lib.ListN.{length}
use Rattle.laws.specs.Tests.{◌and◌}
use Rattle.laws.specs.Ladder.{Rung, ladder}
use Rattle.laws.proofs.GateLaws.{failed, held}
use Rattle.laws.proofs.LadderLaws.{broken, passed, top}
use Rattle.laws.proofs.TestLaws.{both, and_left, and_right}
use Rattle.wire.specs.declared.form.Row.{Row}
use Rattle.track.specs.declared.Track.{Track}
use Rattle.field_table.specs.declared.lines.Measure.{Measure}
use Rattle.field_table.specs.Lines.{every, lines, set_len, subsamples_line, first_flags_line, clear_line, protected_line, iv_size_line}
use Rattle.field_set.specs.Lawful.{set_rules, same_iv_size}
use Rattle.locmaf_read_field.specs.declared.cells.Cell.{Cell}
use Rattle.locmaf_read_said.specs.Said.{Says, says_in}
use Rattle.locmaf_read_said.specs.declared.against.Against.{Against}
use Rattle.locmaf_read_set.specs.Read.{marks_in, marks, came_of, last_lines, last_words, last_rungs, Readable, ClearFrom, TakenAll, ReadAs, LastReadAs}
use Rattle.locmaf_read_set.proofs.CameLaws.{late-first}
use Rattle.locmaf_read_set.proofs.StandingLaws.{marks-said}

-- a refusal
pub refused : (rungs : List Rung) (words : List ℕ) (k : ℕ) (x : List ℕ) → (k ≡ 0 → ⊥) → k ≡ ladder rungs (λ j. j) 0 → length x ≡ set_len → ReadAs rungs words k x
refused rungs words k x n e l = record { answered = e; stored = λ z. absurd (n z); long = l }

-- the rules of the set, by the marks that code makes
pub rules-said : (F : List Row) (o index gone : List ℕ) (t : Track) (a : Against) (r : List ℕ) → Readable F o index gone t a r → (n : ℕ) (m : List ℕ)
    → m ≡ marks_in index gone a.held r → (b : Bool) → b ≡ set_rules t n m → b ≡ set_rules t n (marks t a.held r (says_in F o index))
rules-said F o index gone t a r h n m em b eb = eb ∙ ap (set_rules t n) (em ∙ marks-said F o index gone t a r h)

-- tests as code groups them
rules-tests : (x u z : Bool) → (x and (u and z)) ≡ (x && (u && z))
unfolding ◌and◌
rules-tests true true z = refl
rules-tests true false z = refl
rules-tests false u z = refl

-- the last is asked of the words, which are right where the fields are
values-tests : (x u s z : Bool) → (u ≡ true → s ≡ z) → (x and (u and z)) ≡ (x && (u && s))
unfolding ◌and◌
values-tests true true s z h = sym (h refl)
values-tests true false s z h = refl
values-tests false u s z h = refl

module _ (t : Track) (delta : Bool) (r : List ℕ) (says : Says) (m : Measure) where
  -- none of the lines has a length that is asked before the sum
  pub late-all : every (λ l. (came_of t delta r says m l).cell.first) last_lines ≡ true
  unfolding every lines
  late-all =
      both _ _ (late-first t delta r says m first_flags_line (omega arith) (omega arith))
      (both _ _ (late-first t delta r says m clear_line (omega arith) (omega arith))
      (both _ _ (late-first t delta r says m protected_line (omega arith) (omega arith)) (both _ _ (late-first t delta r says m iv_size_line (omega arith) (omega arith)) refl)))

  module _ (second within : Bool) (x : List ℕ) (long : length x ≡ set_len) (d : Cell) (after : List ℕ) (hd : TakenAll (ClearFrom (subsamples_line + 1) x) (came_of t delta r says m) last_lines x d after)
      (rules : Bool) (er : rules ≡ set_rules t m.count (marks t delta r says)) where
    -- the first of the two
    rules-test : (second and (every (λ l. (came_of t delta r says m l).cell.second) last_lines and set_rules t m.count (marks t delta r says)))
        ≡ (second && (d.second && rules))
    rules-test = rw (hd.second, er) (rules-tests second _ _)

    pub rules-broken : not (second && (d.second && rules)) ≡ true → LastReadAs t delta r says m second within x 14 after
    unfolding last_rungs
    rules-broken q = refused _ _ 14 after (λ z. omega arith) (broken _ 14 _ (λ k. k) 0 (failed (sym rules-test) q)) (hd.long ∙ long)

    module _ (q₁ : not (second && (d.second && rules)) ≡ false) (s : Bool) (es : s ≡ same_iv_size t after) where
      rules-hold : (second and (every (λ l. (came_of t delta r says m l).cell.second) last_lines and set_rules t m.count (marks t delta r says))) ≡ true
      rules-hold = held (sym rules-test) q₁

      last_stored : d.within ≡ true → after ≡ last_words t delta r says m x
      last_stored w = hd.stored (λ le. absurd (omega arith)) (hd.first ∙ late-all) (and_left d.second rules (and_right second (d.second && rules) (held refl q₁))) w

      -- the second
      values-test : (within and (every (λ l. (came_of t delta r says m l).cell.within) last_lines and same_iv_size t (last_words t delta r says m x)))
          ≡ (within && (d.within && s))
      values-test = rw (← hd.within) (values-tests within d.within s _ (λ w. es ∙ ap (same_iv_size t) (last_stored w)))

      pub values-broken : not (within && (d.within && s)) ≡ true → LastReadAs t delta r says m second within x 15 after
      unfolding last_rungs
      values-broken q =
          refused _ _ 15 after (λ z. omega arith) (passed _ 14 _ (λ k. k) 0 rules-hold (broken _ 15 _ (λ k. k) 0 (failed (sym values-test) q))) (hd.long ∙ long)

      pub last-read : not (within && (d.within && s)) ≡ false → LastReadAs t delta r says m second within x 0 after
      unfolding last_rungs
      last-read q =
          record {
            answered = passed _ 14 _ (λ k. k) 0 rules-hold (passed _ 15 _ (λ k. k) 0 (held (sym values-test) q) (top (λ k. k) 0));
            stored = λ _. last_stored (and_left d.within s (and_right within (d.within && s) (held refl q)));
            long = hd.long ∙ long;
          }

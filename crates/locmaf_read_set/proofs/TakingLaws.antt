-- The loop over a run of lines. Assumes nothing.
use Prim.Native.Nat.{ℕ, ◌+◌, ◌≤◌, ◌<◌}
use native.Mathlib.Numerals.{add-one}
use native.Mathlib.Omega.{arith}
use mathlib.Core.Path.{◌≡◌, refl, sym, ◌∙◌, ap}
use mathlib.Core.Bool.{Bool, true, ◌&&◌}
use mathlib.Core.List.{List}
use lib.ListN.{length, get_or}
use lib.Seq.{slice, slice-cons, slice_empty, sets}
use Rattle.laws.specs.Tests.{◌and◌}
use Rattle.laws.proofs.TestLaws.{and_is, and-next, and-end, and_left, and_right}
use Rattle.field_table.specs.declared.lines.Line.{Line}
use Rattle.field_table.specs.Lines.{every, lines, spare, set_len, line_count}
use Rattle.field_table.proofs.LineLaws.{line-count}
use Rattle.locmaf_read_field.specs.declared.cells.Cell.{Cell}
use Rattle.locmaf_read_field.specs.Cells.{Came, told, right, TakenAs, TakenIf}
use Rattle.locmaf_read_field.proofs.CellLaws.{taken-always}
use Rattle.field_rules.specs.Fields.{words_of}
use Rattle.field_rules.specs.Words.{store_all}
use Rattle.field_rules.proofs.SetLaws.{AllFit}
use Rattle.locmaf_read_set.specs.Read.{ClearFrom, TakenAll}
use Rattle.locmaf_read_set.proofs.ClearLaws.{clear_next}

-- a test of the lines so far, and of those that are left: one line more
rest-next : (p : Line → Bool) (from to i : ℕ) (b q : Bool) → i < to → to ≤ line_count → q ≡ p (get_or lines i spare)
    → (b and every p (slice i to lines)) ≡ every p (slice from to lines)
    → ((b && q) and every p (slice (i + 1) to lines)) ≡ every p (slice from to lines)
unfolding every
rest-next p from to i b q lt k eq h =
    let n : to ≤ length lines = omega (arith, line-count) in
    let one : every p (slice i to lines) ≡ (q and every p (slice (i + 1) to lines)) = rw (slice-cons i to lines spare lt n, add-one, eq) in
    and-next b q _ ∙ ap (λ (x : Bool). b and x) (sym one) ∙ h

-- and none
rest_end : (p : Line → Bool) (from to i : ℕ) (b : Bool) → i ≤ to → to ≤ i
    → (b and every p (slice i to lines)) ≡ every p (slice from to lines) → b ≡ every p (slice from to lines)
unfolding every
rest_end p from to i b le ge h =
    let e : i ≡ to = omega arith in
    sym (rw (e, slice_empty to lines) (and-end b)) ∙ h

-- the lines from one number up to the one at i are taken
pub record Taking (f : Line → Came) (from to : ℕ) (x₀ x : List ℕ) (first second within : Bool) (i : ℕ) : Type 0 where
  pub high : i ≤ to
  pub last : to ≤ line_count
  pub words : length x₀ ≡ set_len
  pub long : length x ≡ length x₀
  pub firsts : (first and every (λ l. (f l).cell.first) (slice i to lines)) ≡ every (λ l. (f l).cell.first) (slice from to lines)
  pub seconds : (second and every (λ l. (f l).cell.second) (slice i to lines)) ≡ every (λ l. (f l).cell.second) (slice from to lines)
  pub withins : (within and every (λ l. (f l).cell.within) (slice i to lines)) ≡ every (λ l. (f l).cell.within) (slice from to lines)
  pub fits : AllFit (λ l. (f l).field)
  pub clear : ClearFrom from x₀ → first ≡ true → second ≡ true → within ≡ true → ClearFrom i x
  pub stored : ClearFrom from x₀ → first ≡ true → second ≡ true → within ≡ true
      → store_all (λ l. (f l).field) (slice i to lines) x ≡ store_all (λ l. (f l).field) (slice from to lines) x₀

module _ (f : Line → Came) (from to : ℕ) (x₀ : List ℕ) where
  -- none is taken yet
  pub taking-start : from ≤ to → to ≤ line_count → length x₀ ≡ set_len → AllFit (λ l. (f l).field) → Taking f from to x₀ x₀ true true true from
  unfolding ◌and◌
  taking-start h k e fit =
      record {
        high = h;
        last = k;
        words = e;
        long = refl;
        firsts = refl;
        seconds = refl;
        withins = refl;
        fits = fit;
        clear = λ z _ _ _. z;
        stored = λ _ _ _ _. refl;
      }

  -- what is known under other names
  pub taking-as : {x y : List ℕ} {first second within a b c : Bool} {i : ℕ} → Taking f from to x₀ y a b c i
      → x ≡ y → first ≡ a → second ≡ b → within ≡ c → Taking f from to x₀ x first second within i
  taking-as h ex ea eb ec = rw (ex, ea, eb, ec) h

  module _ (x : List ℕ) (first second within : Bool) (i : ℕ) (h : Taking f from to x₀ x first second within i) where
    -- all are
    pub taking-end : to ≤ i → TakenAll (ClearFrom from x₀) f (slice from to lines) x₀ (told first second within) x
    unfolding store_all
    taking-end le =
        let e : i ≡ to = omega (arith, h.high) in
        record {
          first = rest_end (λ l. (f l).cell.first) from to i first h.high le h.firsts;
          second = rest_end (λ l. (f l).cell.second) from to i second h.high le h.seconds;
          within = rest_end (λ l. (f l).cell.within) from to i within h.high le h.withins;
          stored = λ z p q s. sym (rw (e, slice_empty to lines)) ∙ h.stored z p q s;
          long = h.long;
        }

    module _ (lt : i < to) where
      pub here : i < line_count
      here = omega (arith, h.last)

      pub enough : length x ≡ set_len
      enough = h.long ∙ h.words

      -- one more
      pub taking-next : (c : Cell) (y : List ℕ) → TakenIf (ClearFrom i x) (f (get_or lines i spare)) (get_or lines i spare).place x c y
          → Taking f from to x₀ y (first && c.first) (second && c.second) (within && c.within) (i + 1)
      unfolding store_all
      taking-next c y k =
          let n : to ≤ length lines = omega (arith, line-count, h.last) in
          let one : store_all (λ l. (f l).field) (slice i to lines) x
          ≡ store_all (λ l. (f l).field) (slice (i + 1) to lines) (sets x (get_or lines i spare).place (words_of (f (get_or lines i spare)).field)) =
          rw (slice-cons i to lines spare lt n, add-one) in
          let before : ClearFrom from x₀ → (first && c.first) ≡ true → (second && c.second) ≡ true → (within && c.within) ≡ true → ClearFrom i x =
          λ z p q s. h.clear z (and_left first c.first p) (and_left second c.second q) (and_left within c.within s) in
          let put : ClearFrom from x₀ → (first && c.first) ≡ true → (second && c.second) ≡ true → (within && c.within) ≡ true
          → y ≡ sets x (get_or lines i spare).place (words_of (f (get_or lines i spare)).field) =
          λ z p q s.
          (k.taken (before z p q s)).stored (and_right first c.first p) (and_right second c.second q) (and_right within c.within s) in
          record {
            high = omega arith;
            last = h.last;
            words = h.words;
            long = k.long ∙ h.long;
            firsts = rest-next (λ l. (f l).cell.first) from to i first c.first lt h.last (ap (λ (z : Cell). z.first) k.answered) h.firsts;
            seconds = rest-next (λ l. (f l).cell.second) from to i second c.second lt h.last (ap (λ (z : Cell). z.second) k.answered) h.seconds;
            withins = rest-next (λ l. (f l).cell.within) from to i within c.within lt h.last (ap (λ (z : Cell). z.within) k.answered) h.withins;
            fits = h.fits;
            clear = λ z p q s. rw (put z p q s) (clear_next i (f (get_or lines i spare)).field (h.fits i here) x (before z p q s));
            stored = λ z p q s.
                ap (store_all (λ l. (f l).field) (slice (i + 1) to lines)) (put z p q s)
                ∙ sym one
                ∙ h.stored z (and_left first c.first p) (and_left second c.second q) (and_left within c.within s);
          }

      -- one that has nothing to take
      pub taking-skip : TakenAs (f (get_or lines i spare)) (get_or lines i spare).place x right x → Taking f from to x₀ x first second within (i + 1)
      taking-skip k = rw (← and_is first true, ← and_is second true, ← and_is within true, and-end first, and-end second, and-end within) at (taking-next right x (taken-always k))

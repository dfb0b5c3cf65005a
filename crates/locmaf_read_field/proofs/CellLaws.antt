-- What each function of `cells` stored and answered is what the specs say of its field. Assumes nothing.
use Prim.Native.Nat.{ℕ, zero, suc, ◌+◌, ◌*◌, ◌≤◌, ◌<◌}
use native.Mathlib.Nat.{add-sub_cancel_left}
use native.Mathlib.Numerals.{add-one}
use native.Mathlib.Omega.{arith}
use mathlib.Core.Path.{◌≡◌, refl, sym, ◌∙◌, ap}
use mathlib.Core.Bool.{Bool, true, false, false≢true, ◌&&◌}
use mathlib.Core.List.{List, []}
use borrow.Author.Tests.{eqb-true, eq-eqb, ne_eqb}
use lib.ListN.{length, get_or, set, replicate, length-set}
use lib.Seq.{slice, sets, length-sets, length-slice, get_or-set_other, set-get_or}
use Rattle.wire.specs.declared.form.Row.{Row}
use Rattle.wire.specs.declared.zigzag.Coding.{Coding}
use Rattle.runs.specs.declared.Misread.{Misread}
use Rattle.runs.specs.declared.Misread.TheVariants.{Misfit, Outside}
use Rattle.std.specs.Prelude.{Some, None, Result, Ok, Err}
use Rattle.wire.specs.Zigzag.{reached}
use Rattle.runs.specs.Run.{FilledAs, filled_at}
use Rattle.runs.proofs.RunLaws.{filled-inside}
use Rattle.locmaf_read_block.specs.Numbers.{steps_f}
use Rattle.locmaf_read_block.proofs.NumberLaws.{filled-numbers}
use Rattle.field_table.specs.declared.lines.Want.{Want}
use Rattle.field_table.specs.declared.lines.Want.TheVariants.{One, LessOne, Count, Ivs, Sum}
use Rattle.locmaf_read_said.specs.declared.said.Span.{Span}
use Rattle.locmaf_read_field.specs.declared.cells.Cell.{Cell}
use Rattle.locmaf_read_field.specs.Cells.{Came, TakenAs, TakenIf, Listed, told, right, misfit_of, out_of_range, filled_as, carried, sent_one, sent_ivs, sent_list, span_bytes, list_in}
use Rattle.field_rules.specs.Carried.{carried_by}
use Rattle.field_rules.specs.Fields.{is_ivs, packed}

pub misfit-is : (v : Want) {w : Want} → w ≡ v → misfit_of v ≡ misfit_of w
misfit-is v e = rw e

-- nothing is wrong
abbrev whole : Cell → Bool
whole c = c.first && (c.second && c.within)

broken : (c : Cell) → whole c ≡ false → c.first ≡ true → c.second ≡ true → c.within ≡ true → ⊥
broken c w a b d = let z : true ≡ false = rw (a, b, d) at w in false≢true (sym z)

-- a length that is not the required one is wrong
misfit-broken : (w : Want) → whole (misfit_of w) ≡ false
misfit-broken One = refl
misfit-broken LessOne = refl
misfit-broken Count = refl
misfit-broken Ivs = refl
misfit-broken Sum = refl

-- where something is wrong nothing is asked of what was stored
refused : {f : Came} {place : ℕ} {x : List ℕ} {c : Cell} {after : List ℕ} → c ≡ f.cell → whole f.cell ≡ false → length after ≡ length x
    → TakenAs f place x c after
refused {f} e w n =
    record { answered = e; stored = λ a b d. absurd (broken f.cell w (rw e at a) (rw e at b) (rw e at d)); long = n }

-- what was stored is known, whatever stood there
pub taken-always : {clear : Type 0} {f : Came} {place : ℕ} {x : List ℕ} {c : Cell} {after : List ℕ} → TakenAs f place x c after → TakenIf clear f place x c after
taken-always h = record { answered = h.answered; taken = λ _. h; long = h.long }

-- ---- a single value
module _ (coding : Coding) (old bound z place : ℕ) (x : List ℕ) {c : Cell} where
  pub one_outside : reached coding old bound z ≡ None → c ≡ out_of_range → TakenAs (sent_one coding old bound z) place x c x
  unfolding sent_one
  one_outside e q = rw e (refused q refl refl)

  pub one-to : (v : ℕ) → reached coding old bound z ≡ Some v → c ≡ right
      → TakenAs (sent_one coding old bound z) place x c (set (set x place 1) (place + 1) v)
  unfolding sent_one
  one-to v e q =
      rw e (record { answered = q; stored = λ _ _ _. rw add-one; long = simp length-set })

-- ---- a field that is carried on

-- zeros stored where zeros stand
zeros-there : (k i : ℕ) (x : List ℕ) → ((n : ℕ) → i ≤ n → n < i + k → get_or x n 0 ≡ 0) → sets x i (replicate k 0) ≡ x
zeros-there zero i x h = refl
zeros-there (suc k) i x h =
    let same : set x i 0 ≡ x = ap (set x i) (sym (h i (omega arith) (omega arith))) ∙ set-get_or x i 0 in
    ap (λ (w : List ℕ). sets w (suc i) (replicate k 0)) same ∙ zeros-there k (suc i) x (λ n a b. h n (omega arith) (omega arith))

-- behind a mark that is stored
zeros-behind : (k place : ℕ) (x : List ℕ) → ((n : ℕ) → place < n → n ≤ place + k → get_or x n 0 ≡ 0)
    → sets (set x place 1) (suc place) (replicate k 0) ≡ set x place 1
zeros-behind k place x h =
    zeros-there k (suc place) (set x place 1)
    (λ n a b. get_or-set_other x place n 1 0 (λ e. omega arith) ∙ h n (omega arith) (omega arith))

module _ (want : Want) (j k place : ℕ) (r x : List ℕ) {c : Cell} where
  pub carry-ivs : is_ivs want ≡ true → c ≡ right → (olds : List ℕ) {clear : Type 0}
      → (clear → (n : ℕ) → place < n → n ≤ place + k → get_or x n 0 ≡ 0) → TakenIf clear (carried want j k olds) place x c (set x place 1)
  unfolding carried
  carry-ivs i q olds zeros =
      rw i
      (record {
        answered = q;
        taken = λ z. record { answered = q; stored = λ _ _ _. sym (zeros-behind k place x (zeros z)); long = length-set x place 1 };
        long = length-set x place 1;
      })

  pub carry-long : is_ivs want ≡ false → carried_by j k ≡ false → c ≡ misfit_of want → (olds : List ℕ) → TakenAs (carried want j k olds) place x c x
  unfolding carried
  carry-long i n q olds = rw (i, n) (refused q (misfit-broken want) refl)

  pub carry_same : is_ivs want ≡ false → carried_by j k ≡ true → c ≡ right → (after : List ℕ)
      → after ≡ sets (set x place 1) (place + 1) (slice (place + 1) (place + 1 + k) r)
      → TakenAs (carried want j k (slice (place + 1) (place + 1 + j) r)) place x c after
  unfolding carried
  carry_same i e q after w =
      let same : j ≡ k = eqb-true j k e in
      rw (i, e)
      (record {
        answered = q;
        stored = λ _ _ _. w ∙ rw (same, add-one);
        long = ap length w ∙ simp (length-sets, length-set);
      })

-- ---- IVs
module _ (o : List ℕ) (want : Want) (s : Span) (k place : ℕ) (x : List ℕ) (inside : s.at + s.number ≤ length o) where
  raw-length : length (span_bytes o s) ≡ s.number
  raw-length = length-slice s.at (s.at + s.number) o inside ∙ add-sub_cancel_left s.at s.number

  pub raw-misfit : {c : Cell} → (s.number ≡ 8 * k → ⊥) → c ≡ misfit_of want → TakenAs (sent_ivs want k (span_bytes o s)) place x c x
  raw-misfit n q = rw (raw-length, ne_eqb s.number (8 * k) n) (refused q (misfit-broken want) refl)

  pub raw-packed : {c : Cell} → s.number ≡ 8 * k → c ≡ right → (after : List ℕ)
      → after ≡ sets (set x place 1) (place + 1) (packed k (slice s.at (s.at + 8 * k) o))
      → TakenAs (sent_ivs want k (span_bytes o s)) place x c after
  raw-packed n q after w =
      rw (raw-length, eq-eqb s.number (8 * k) n)
      (record { answered = q; stored = λ _ _ _. w ∙ rw (n, add-one); long = ap length w ∙ simp (length-sets, length-set) })

-- ---- a list
module _ (F : List Row) (o : List ℕ) (want : Want) (s : Span) (coding : Coding) (base bound k place : ℕ) (x : List ℕ)
    (h : Listed F o want s) where
  -- the bytes of the IVs are a list too
  pub list-raw : {c : Cell} → is_ivs want ≡ true → (olds after : List ℕ) → TakenAs (sent_ivs want k (span_bytes o s)) place x c after
      → TakenAs (sent_list coding base bound want k olds (list_in F o want s)) place x c after
  unfolding sent_list list_in
  list-raw i olds after w = rw i w

  module _ (i : is_ivs want ≡ false) where
    pub list-misfit : {c : Cell} → (s.count ≡ k → ⊥) → c ≡ misfit_of want → (olds : List ℕ)
        → TakenAs (sent_list coding base bound want k olds (list_in F o want s)) place x c x
    unfolding sent_list
    list-misfit n q olds = rw (i, ← h.many i, ne_eqb s.count k n) (refused q (misfit-broken want) refl)

    -- k values were read: what is read is what the numbers of the list stand for
    steps : s.count ≡ k → (olds : List ℕ)
        → filled_at F coding base bound k olds o s.at (s.at + s.number) ≡ steps_f coding base bound olds (list_in F o want s)
    steps n olds =
        let e : k ≡ length (list_in F o want s) = sym n ∙ h.many i in
        rw (filled-inside F coding base bound k olds o s.at (s.at + s.number) h.inside, e)
        (filled-numbers F coding base bound (list_in F o want s) olds (slice s.at (s.at + s.number) o) (h.whole i))

    pub list-filled : {c : Cell} → s.count ≡ k → (a : Result (Unit {0}) Misread) → c ≡ (filled_as a []).cell → (olds after : List ℕ)
        → FilledAs (filled_at F coding base bound k olds o s.at (s.at + s.number)) (set x place 1) (place + 1) a after
        → TakenAs (sent_list coding base bound want k olds (list_in F o want s)) place x c after
    unfolding sent_list
    list-filled {c} n a q olds after w =
        let z : FilledAs (steps_f coding base bound olds (list_in F o want s)) (set x place 1) (place + 1) a after = rw (steps n olds) at w in
        rw (i, ← h.many i, eq-eqb s.count k n, ← z.answered)
        (go a q (steps_f coding base bound olds (list_in F o want s)).values z.stored)
      where
        go : (a : Result (Unit {0}) Misread) → c ≡ (filled_as a []).cell → (vs : List ℕ) → after ≡ sets (set x place 1) (place + 1) vs → TakenAs (filled_as a vs) place x c after
        go (Ok tt) q vs e = record { answered = q; stored = λ _ _ _. e ∙ rw add-one; long = ap length e ∙ simp (length-sets, length-set) }
        go (Err Misfit) q vs e = refused q refl (ap length e ∙ simp (length-sets, length-set))
        go (Err Outside) q vs e = refused q refl (ap length e ∙ simp (length-sets, length-set))

pub misfit-early : (w : Want) → (w ≡ Sum → ⊥) → told false true true ≡ misfit_of w
misfit-early One n = refl
misfit-early LessOne n = refl
misfit-early Count n = refl
misfit-early Ivs n = refl
misfit-early Sum n = absurd (n refl)

-- The values of a list field as a run of varints, each against the old list's value at its place, or against what an absent one counts
-- as. 01: "A scalar's delta is against the previous value", "List elements count as 0 where the reference has none."
use Rattle.std.specs.Prelude.{ℕ, zero, suc, ◌+◌, ◌-◌, ◌≤◌, cond, ◌≡◌, List, [], ◌∷◌, ◌++◌, leb, length, get_or, drop}
use Rattle.std.proofs.lemmas.List.Edits.{sets}
use Rattle.std.proofs.Math.Seq.{slice}
use Rattle.wire.specs.declared.form.Row.{Row}
use Rattle.wire.specs.declared.zigzag.Coding.{Coding}
use Rattle.runs.specs.declared.Misread.{Misread}
use Rattle.runs.specs.declared.Misread.TheVariants.{Misfit, Outside}
use Rattle.std.specs.Prelude.{Option, Some, None, Result, Ok, Err}
use Rattle.wire.specs.Varint.{read_f, read_at, on_got, encode, size_of}
use Rattle.wire.specs.Zigzag.{code_of, reached}
use Rattle.laws.specs.Options.{on_option}

-- ==== The rules

-- the first of the old values that are left, or what an absent one counts as; and those after it
abbrev pub first : ℕ → List ℕ → ℕ
first base [] = base
first base (x ∷ xs) = x

abbrev pub rest : List ℕ → List ℕ
rest [] = []
rest (x ∷ xs) = xs

-- how reading went, and the values that were read before it ended
pub record Filled : Type 0 where
  pub answer : Result (Unit {0}) Misread
  pub values : List ℕ

abbrev pub stop : Result (Unit {0}) Misread → Filled
stop a = record { answer = a; values = [] }

abbrev pub more : ℕ → Filled → Filled
more v f = record { answer = f.answer; values = v ∷ f.values }

abbrev pub plus : ℕ → Option ℕ → Option ℕ
plus k (Some n) = Some (k + n)
plus k None = None

module _ (F : List Row) (coding : Coding) (base : ℕ) where
  -- the bytes of the run for the new list, up to a number too wide
  unfoldable pub run_of : List ℕ → List ℕ → List ℕ
  run_of old [] = []
  run_of old (v ∷ vs) = on_option (code_of F coding (first base old) v) (λ z. encode F z ++ run_of (rest old) vs) []

  -- how many they are, or that a number is too wide
  unfoldable pub measured : List ℕ → List ℕ → Option ℕ
  measured old [] = Some 0
  measured old (v ∷ vs) = on_option (code_of F coding (first base old) v) (λ z. plus (size_of F z) (measured (rest old) vs)) None

-- ==== What only mirrors the code

-- the bytes have to end with the last number
abbrev pub ended : List ℕ → Result (Unit {0}) Misread
ended [] = Ok tt
ended (b ∷ s) = Err Misfit

module _ (F : List Row) (coding : Coding) (base bound : ℕ) where
  -- n values off the front of the bytes s
  unfoldable pub filled : ℕ → List ℕ → List ℕ → Filled
  filled zero old s = stop (ended s)
  filled (suc n) old s =
      on_got (read_f F s)
      (λ z k. on_option (reached coding (first base old) bound z) (λ v. more v (filled n (rest old) (drop k s))) (stop (Err Outside)))
      (stop (Err Misfit))

  -- the value with the number i, whose varint stands at the place p and ends before the place end
  unfoldable pub next_at : List ℕ → List ℕ → ℕ → ℕ → ℕ → Result (ℕ × ℕ) Misread
  next_at old s p end i =
      on_got (read_at F s p end) (λ z next. on_option (reached coding (get_or old i base) bound z) (λ v. Ok (v, next)) (Err Outside)) (Err Misfit)

  -- n values that fill the bytes from the place at to the place end
  unfoldable pub filled_at : ℕ → List ℕ → List ℕ → ℕ → ℕ → Filled
  filled_at n old s at end = cond (leb end (length s)) (filled n old (slice at end s)) (stop (Err Misfit))

-- where a call told a value, it is the next one n, whose varint, at the place p, has one byte; else nothing is said
abbrev pub OneAs : Result (ℕ × ℕ) Misread → ℕ → Option ℕ → Type 0
OneAs n p (Some v) = Ok (v, p + 1) ≡ n
OneAs n p None = Unit {0}

-- a call answered r, and left what it read from the place `to` on
pub record FilledAs (f : Filled) (before : List ℕ) (to : ℕ) (r : Result (Unit {0}) Misread) (after : List ℕ) : Type 0 where
  pub answered : r ≡ f.answer
  pub stored : after ≡ sets before to f.values

-- i values are read and stored, and the next stands at the place p
pub record Filling (F : List Row) (coding : Coding) (base bound : ℕ) (s : List ℕ) (at end : ℕ) (old before : List ℕ) (to n : ℕ) (after : List ℕ) (p i : ℕ)
    : Type 0 where
  pub count : i ≤ n
  pub bytes : end ≤ length s
  pub room : to + n ≤ length before
  pub same : length after ≡ length before
  pub answer :
      (filled F coding base bound (n - i) (drop i old) (slice p end s)).answer ≡ (filled_at F coding base bound n old s at end).answer
  pub values :
      sets after (to + i) (filled F coding base bound (n - i) (drop i old) (slice p end s)).values
      ≡ sets before to (filled_at F coding base bound n old s at end).values

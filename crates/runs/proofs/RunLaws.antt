-- Laws of runs, over any form, coding, base and bound: one step of reading, measuring and writing; and that reading what was written for a
-- list against the same old list gives the list. Assumes nothing.
use Prim.Native.Nat.{ℕ, zero, suc, ◌+◌, ◌≤◌, ◌<◌}
use native.Mathlib.Omega.{arith}
use mathlib.Core.Path.{◌≡◌, refl, sym, ◌∙◌}
use mathlib.Core.List.{List, [], ◌∷◌, ◌++◌}
use borrow.Author.Tests.{le-leb, lt-leb}
use lib.ListN.{length, drop, length-append}
use lib.Seq.{slice}
use Rattle.wire.specs.declared.form.Row.{Row}
use Rattle.runs.specs.declared.Misread.TheVariants.{Misfit, Outside}
use Rattle.std.specs.Prelude.{Option, Some, None, Ok, Err}
use Rattle.wire.specs.declared.zigzag.Coding.{Coding}
use Rattle.wire.specs.Varint.{read_f, on_got, encode, size_of}
use Rattle.wire.specs.Zigzag.{code_of, reached}
use Rattle.wire.proofs.FormLaws.{Lawful}
use Rattle.wire.proofs.VarintLaws.{length-encode, read-encode, drop-encode}
use Rattle.wire.proofs.ZigzagLaws.{coded-inv, code-back}
use Rattle.runs.specs.Run.{first, rest, Filled, stop, more, ended, filled, filled_at, plus, run_of, measured}
use Rattle.laws.specs.Options.{on_option}

module _ (F : List Row) (coding : Coding) (base bound : ℕ) where
  -- the end is past the bytes, and it isn't
  pub filled-outside : (n : ℕ) (old s : List ℕ) (at end : ℕ) → length s < end → filled_at F coding base bound n old s at end ≡ stop (Err Misfit)
  unfolding filled_at
  filled-outside n old s at end h = rw (lt-leb _ _ h)

  pub filled-inside : (n : ℕ) (old s : List ℕ) (at end : ℕ) → end ≤ length s
      → filled_at F coding base bound n old s at end ≡ filled F coding base bound n old (slice at end s)
  unfolding filled_at
  filled-inside n old s at end h = rw (le-leb _ _ h)

  -- no more values are wanted
  pub filled_none : (old s : List ℕ) → filled F coding base bound zero old s ≡ stop (ended s)
  unfolding filled
  filled_none old s = refl

  -- a value more, read before the rest
  module _ (n : ℕ) (old s : List ℕ) where
    pub filled-to : (z k v : ℕ) → read_f F s ≡ Some (z, k) → reached coding (first base old) bound z ≡ Some v
        → filled F coding base bound (suc n) old s ≡ more v (filled F coding base bound n (rest old) (drop k s))
    unfolding filled
    filled-to z k v e t = rw (e, t)

  -- no more values are read than were wanted
  pub filled-length : (n : ℕ) (old s : List ℕ) → length (filled F coding base bound n old s).values ≤ n
  unfolding filled
  filled-length zero old s = omega arith
  filled-length (suc n) old s = go (read_f F s) _ (λ k. filled-length n (rest old) (drop k s))
    where
      one : (t : Option ℕ) (f : Filled) → length f.values ≤ n → length (on_option t (λ v. more v f) (stop (Err Outside))).values ≤ suc n
      one (Some v) f h = omega arith
      one None f h = omega arith

      go : (g : Option (ℕ × ℕ)) (others : ℕ → Filled) → ((k : ℕ) → length (others k).values ≤ n)
          → length (on_got g (λ z k. on_option (reached coding (first base old) bound z) (λ v. more v (others k)) (stop (Err Outside))) (stop (Err Misfit))).values ≤ suc n
      go (Some (z, k)) others h = one (reached coding (first base old) bound z) (others k) (h k)
      go None others h = omega arith

module _ (F : List Row) (coding : Coding) (base : ℕ) where
  -- a value more of a run: its number is too wide, or stands before the rest
  module _ (old vs : List ℕ) (v : ℕ) where
    pub run-wide : code_of F coding (first base old) v ≡ None → run_of F coding base old (v ∷ vs) ≡ []
    unfolding run_of
    run-wide e = rw e

    pub run-number : (z : ℕ) → code_of F coding (first base old) v ≡ Some z
        → run_of F coding base old (v ∷ vs) ≡ encode F z ++ run_of F coding base (rest old) vs
    unfolding run_of
    run-number z e = rw e

    pub measured-wide : code_of F coding (first base old) v ≡ None → measured F coding base old (v ∷ vs) ≡ None
    unfolding measured
    measured-wide e = rw e

    pub measured-number : (z : ℕ) → code_of F coding (first base old) v ≡ Some z
        → measured F coding base old (v ∷ vs) ≡ plus (size_of F z) (measured F coding base (rest old) vs)
    unfolding measured
    measured-number z e = rw e

  -- what is known of a run that was measured to take n bytes: its first number, and how many bytes those after it take
  pub record Counted (old : List ℕ) (v : ℕ) (vs : List ℕ) (n : ℕ) : Type 0 where
    pub number : ℕ
    pub after : ℕ
    pub coded : code_of F coding (first base old) v ≡ Some number
    pub others : measured F coding base (rest old) vs ≡ Some after
    pub sum : n ≡ size_of F number + after

  -- as it was measured
  pub counted : (old : List ℕ) (v : ℕ) (vs : List ℕ) (n : ℕ) → measured F coding base old (v ∷ vs) ≡ Some n → Counted old v vs n
  unfolding measured
  counted old v vs n e = go (code_of F coding (first base old) v) (measured F coding base (rest old) vs) refl refl e
    where
      go : (c : Option ℕ) (m : Option ℕ) → code_of F coding (first base old) v ≡ c → measured F coding base (rest old) vs ≡ m
          → on_option c (λ z. plus (size_of F z) m) None ≡ Some n → Counted old v vs n
      go (Some z) (Some k) p q d = record { number = z; after = k; coded = p; others = q; sum = cc }
      go (Some z) None p q d = let x : ◌≡◌ {A = ℕ} 0 1 = cc in absurd (omega arith)
      go None m p q d = let x : ◌≡◌ {A = ℕ} 0 1 = cc in absurd (omega arith)

  -- a run has as many bytes as were measured
  pub measured-length : (old vs : List ℕ) (n : ℕ) → measured F coding base old vs ≡ Some n → length (run_of F coding base old vs) ≡ n
  unfolding measured run_of
  measured-length old [] n e = cc
  measured-length old (v ∷ vs) n e =
      let c = counted old v vs n e in
      let z : ℕ = c.number in
      let fit = (coded-inv F coding (first base old) v c.coded).1 in
      let more : length (run_of F coding base (rest old) vs) ≡ c.after = measured-length (rest old) vs c.after c.others in
      rw (c.coded, length-append, length-encode F z fit, more) (sym c.sum)

-- each of the values is within the bound
abbrev pub AllWithin : ℕ → List ℕ → Type 0
AllWithin bound [] = Unit {0}
AllWithin bound (v ∷ vs) = (v ≤ bound) × AllWithin bound vs

-- reading back the run that was written for a list against the same old list gives the list
pub round_trip : (F : List Row) (coding : Coding) (base bound : ℕ) (old vs : List ℕ) (n : ℕ)
    → Lawful 0 F → measured F coding base old vs ≡ Some n → AllWithin bound vs
    → filled F coding base bound (length vs) old (run_of F coding base old vs) ≡ record { answer = Ok tt; values = vs }
unfolding run_of
round_trip F coding base bound old [] n w e b = filled_none F coding base bound old []
round_trip F coding base bound old (v ∷ vs) n w e b =
    let c = counted F coding base old v vs n e in
    let z : ℕ = c.number in
    let fit = (coded-inv F coding (first base old) v c.coded).1 in
    let others : List ℕ = run_of F coding base (rest old) vs in
    rw c.coded
    (filled-to F coding base bound (length vs) old (encode F z ++ others) z (size_of F z) v
    (read-encode F w z fit others)
    (code-back F coding (first base old) v bound c.coded b.0)
    ∙ rw (drop-encode F w z fit others, round_trip F coding base bound (rest old) vs c.after w c.others b.1))

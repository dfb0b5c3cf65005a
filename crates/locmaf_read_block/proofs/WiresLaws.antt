-- A run of numbers as it stands on the wire: its bytes are those of the numbers, and the numbers lead back to the values. Assumes nothing.
use Prim.Native.Nat.{ℕ, suc}
use native.Mathlib.Omega.{arith}
use mathlib.Core.Path.{◌≡◌, refl, ap, ap₂}
use mathlib.Core.Bool.{true}
use mathlib.Core.List.{List, [], ◌∷◌, ◌++◌}
use borrow.Author.Tests.{leb-true}
use lib.ListN.{length}
use Rattle.laws.specs.Tests.{all_le}
use Rattle.laws.proofs.TestLaws.{left, right}
use Rattle.wire.specs.declared.form.Row.{Row}
use Rattle.wire.specs.declared.zigzag.Coding.{Coding}
use Rattle.wire.specs.declared.zigzag.Coding.TheVariants.{Plain}
use Rattle.wire.specs.Varint.{encode}
use Rattle.wire.specs.Zigzag.{wire_of}
use Rattle.wire.proofs.ZigzagLaws.{coded-inv, back}
use Rattle.std.specs.Prelude.{Some, Ok}
use Rattle.runs.specs.Run.{first, rest, run_of, measured}
use Rattle.runs.proofs.RunLaws.{counted}
use Rattle.locmaf_read_block.specs.Numbers.{steps_f}
use Rattle.locmaf_read_block.specs.Written.{varints, AllFit}
use Rattle.locmaf_read_block.specs.Wires.{wires}

-- numbers as they are
pub plain-wires : (base : ℕ) (vs : List ℕ) → wires Plain base [] vs ≡ vs
unfolding wires wire_of
plain-wires base [] = refl
plain-wires base (v ∷ vs) = ap (λ (l : List ℕ). v ∷ l) (plain-wires base vs)

module _ (coding : Coding) (base : ℕ) where
  pub wires-length : (old vs : List ℕ) → length (wires coding base old vs) ≡ length vs
  unfolding wires
  wires-length old [] = refl
  wires-length old (v ∷ vs) = ap suc (wires-length (rest old) vs)

  -- a run that was measured is the varints of what stands on the wire, and each of them fits
  pub run_is : (F : List Row) (old vs : List ℕ) (n : ℕ) → measured F coding base old vs ≡ Some n
      → (run_of F coding base old vs ≡ varints F (wires coding base old vs)) × AllFit F (wires coding base old vs)
  unfolding run_of varints wires
  run_is F old [] n e = (refl, tt)
  run_is F old (v ∷ vs) n e =
      let c = counted F coding base old v vs n e in
      let i = coded-inv F coding (first base old) v c.coded in
      let r = run_is F (rest old) vs c.after c.others in
      (rw c.coded (ap₂ (λ (a b : List ℕ). a ++ b) (ap (encode F) i.0) r.0), (omega (arith, i.0, i.1), r.1))

  -- the numbers lead back to the values
  pub steps_back : (bound : ℕ) (old vs : List ℕ) → all_le bound vs ≡ true
      → steps_f coding base bound old (wires coding base old vs) ≡ record { answer = Ok tt; values = vs }
  unfolding wires steps_f all_le
  steps_back bound old [] e = refl
  steps_back bound old (v ∷ vs) e = rw (back coding (first base old) v bound (leb-true _ _ (left _ _ e)), steps_back bound (rest old) vs (right _ _ e))

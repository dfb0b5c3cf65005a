-- The number of a chunk by what was read of it: there is none, or it stands behind the head of the `mfhd`; and what two tests and two comparisons say of two
-- chunks. Assumes nothing.
use Prim.Native.Nat.{ℕ, ◌+◌, ◌-◌, ◌≤◌, ◌<◌}
use native.Mathlib.Omega.{arith}
use mathlib.Core.Path.{◌≡◌, ◌∙◌, ap, sym}
use mathlib.Core.Bool.{Bool, true, ◌&&◌}
use mathlib.Core.List.{List}
use borrow.Author.Tests.{eqb-true, eq-eqb, leb-true, le-leb, lt-leb}
use lib.Dec.{eqb, leb}
use lib.ListN.{length, take, drop, length-drop}
use lib.Seq.{take_all}
use Rattle.laws.proofs.GateLaws.{stop, pass}
use Rattle.laws.proofs.TestLaws.{both_of}
use Rattle.cmaf_read_tree.specs.Numbers.{u32}
use Rattle.byte_parts.specs.declared.Part.{Part}
use Rattle.cmaf_read_shape.specs.Parts.{part, Inside}
use Rattle.mfhd_numbers.specs.Sequence.{mfhd_of, number_of, value_of, SameBut, SameAround}

module _ (c : List ℕ) where
  pub number-none : (m : Part) → m ≡ mfhd_of c → m.len < 16 → (part 0 0 ≡ number_of c) × Inside c (part 0 0)
  unfolding number_of
  number-none m e h =
      let n : m.len ≡ (mfhd_of c).len = ap (λ (p : Part). p.len) e in (
        stop (part ((mfhd_of c).at + 12) 4) (lt-leb 16 (mfhd_of c).len (omega arith)),
        record { within = omega arith },
      )

  pub number-here : (m : Part) → m ≡ mfhd_of c → Inside c m → 16 ≤ m.len → (part (m.at + 12) 4 ≡ number_of c) × Inside c (part (m.at + 12) 4)
  unfolding number_of
  number-here m e i h =
      let n : m.len ≡ (mfhd_of c).len = ap (λ (p : Part). p.len) e in (
        pass (part 0 0) (le-leb 16 (mfhd_of c).len (omega arith)) (λ j. part ((e j).at + 12) 4),
        record { within = omega (arith, i.within) },
      )

  pub value_none : (p : Part) → p ≡ number_of c → p.len < 4 → 0 ≡ value_of c
  unfolding value_of
  value_none p e h =
      let n : p.len ≡ (number_of c).len = ap (λ (q : Part). q.len) e in
      stop (u32 c (number_of c).at) (lt-leb 4 (number_of c).len (omega arith))

  pub value-here : (p : Part) (v : ℕ) → p ≡ number_of c → 4 ≤ p.len → v ≡ u32 c p.at → v ≡ value_of c
  unfolding value_of
  value-here p v e h f =
      let n : p.len ≡ (number_of c).len = ap (λ (q : Part). q.len) e in
      pass 0 (le-leb 4 (number_of c).len (omega arith)) (f ∙ (λ j. u32 c (e j).at))

-- what a part that goes on to the end has
abbrev rest : ℕ → List ℕ → List ℕ
rest i l = take (length l - i) (drop i l)

rest-is : (i : ℕ) (l : List ℕ) → rest i l ≡ drop i l
rest-is i l = take_all (length l - i) (drop i l) (omega (arith, length-drop i l))

-- two chunks with a part of each: whether all before the parts is the same (s), and whether all behind them is (t)
module _ (a : List ℕ) (p : Part) (b : List ℕ) (q : Part) (s t : Bool) where
  pub around-same : (s ≡ true → take p.at a ≡ take q.at b) → (t ≡ true → rest (p.at + p.len) a ≡ rest (q.at + q.len) b)
      → (s && t) ≡ true → SameAround a p b q
  around-same g h x =
      let y = both_of s t x in
      record { before = g y.0; behind = sym (rest-is _ a) ∙ h y.1 ∙ rest-is _ b }

  pub same-around : (take p.at a ≡ take q.at b → s ≡ true) → (rest (p.at + p.len) a ≡ rest (q.at + q.len) b → t ≡ true)
      → SameAround a p b q → (s && t) ≡ true
  same-around g h x =
      let i : s ≡ true = g x.before in
      let j : t ≡ true = h (rest-is _ a ∙ x.behind ∙ sym (rest-is _ b)) in
      rw (i, j)

-- the parts that were read, and whether all around them is the same (s)
module _ (front : ℕ) (a b : List ℕ) (p q : Part) (s : Bool) (e : p ≡ number_of a) (f : q ≡ number_of b) where
  at_a : p.at ≡ (number_of a).at
  at_a = ap (λ (x : Part). x.at) e

  at_b : q.at ≡ (number_of b).at
  at_b = ap (λ (x : Part). x.at) f

  len-a : p.len ≡ (number_of a).len
  len-a = ap (λ (x : Part). x.len) e

  len-b : q.len ≡ (number_of b).len
  len-b = ap (λ (x : Part). x.len) f

  abbrev tested : Bool
  tested = (((eqb p.len 4 && eqb q.len 4) && eqb p.at q.at) && leb (p.at + p.len) front) && s

  pub tested-same : (s ≡ true → SameAround a p b q) → tested ≡ true → SameBut front a b
  tested-same g x =
      let h1 = both_of _ s x in
      let h2 = both_of _ (leb (p.at + p.len) front) h1.0 in
      let h3 = both_of _ (eqb p.at q.at) h2.0 in
      let h4 = both_of (eqb p.len 4) (eqb q.len 4) h3.0 in
      let m : p.len ≡ 4 = eqb-true _ _ h4.0 in
      let n : q.len ≡ 4 = eqb-true _ _ h4.1 in
      let k : p.at + p.len ≤ front = leb-true _ _ h2.1 in
      let u : (number_of a).at + 4 ≡ p.at + p.len = omega (arith, at_a, m) in
      let v : q.at + q.len ≡ (number_of b).at + 4 = omega (arith, at_b, n) in
      record {
        one = sym len-a ∙ m;
        other = sym len-b ∙ n;
        there = sym at_a ∙ eqb-true _ _ h3.1 ∙ at_b;
        inside = omega (arith, u, k);
        before = ap (λ (i : ℕ). take i a) (sym at_a) ∙ (g h1.1).before ∙ ap (λ (i : ℕ). take i b) at_b;
        behind = ap (λ (i : ℕ). drop i a) u ∙ (g h1.1).behind ∙ ap (λ (i : ℕ). drop i b) v;
      }

  pub same-tested : (SameAround a p b q → s ≡ true) → SameBut front a b → tested ≡ true
  same-tested g x =
      let m : p.len ≡ 4 = len-a ∙ x.one in
      let n : q.len ≡ 4 = len-b ∙ x.other in
      let u : p.at + p.len ≡ (number_of a).at + 4 = omega (arith, at_a, m) in
      let v : (number_of b).at + 4 ≡ q.at + q.len = omega (arith, at_b, n) in
      let around : SameAround a p b q =
      record {
        before = ap (λ (i : ℕ). take i a) at_a ∙ x.before ∙ ap (λ (i : ℕ). take i b) (sym at_b);
        behind = ap (λ (i : ℕ). drop i a) u ∙ x.behind ∙ ap (λ (i : ℕ). drop i b) v;
      } in
      let i1 : eqb p.len 4 ≡ true = eq-eqb _ _ m in
      let i2 : eqb q.len 4 ≡ true = eq-eqb _ _ n in
      let i3 : eqb p.at q.at ≡ true = eq-eqb _ _ (at_a ∙ x.there ∙ sym at_b) in
      let i4 : leb (p.at + p.len) front ≡ true = le-leb (p.at + p.len) front (omega (arith, u, x.inside)) in
      let i5 : s ≡ true = g around in
      rw (i1, i2, i3, i4, i5)

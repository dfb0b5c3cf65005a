-- Laws of the varints that fill a list of bytes. Assumes nothing.
use Prim.Native.Nat.{ℕ, zero, suc, ◌+◌, ◌-◌, ◌≤◌, ◌<◌}
use native.Mathlib.Nat.{zero-add}
use native.Mathlib.Omega.{arith}
use mathlib.Core.Path.{◌≡◌, refl, ◌∙◌, ap}
use mathlib.Core.Bool.{Bool, true, false, cond}
use mathlib.Core.List.{List, [], ◌∷◌}
use borrow.Author.Tests.{le-leb}
use lib.ListN.{length, drop}
use lib.Seq.{slice}
use Rattle.wire.specs.declared.form.Row.{Row}
use Rattle.runs.specs.declared.Misread.TheVariants.{Misfit, Outside}
use Rattle.std.specs.Prelude.{Option, Some, None, Ok, Err}
use Rattle.wire.specs.declared.zigzag.Coding.{Coding}
use Rattle.wire.specs.Varint.{read_f, on_got}
use Rattle.wire.specs.Zigzag.{reached}
use Rattle.wire.proofs.VarintLaws.{read-size}
use Rattle.runs.specs.Run.{first, rest, stop, more, filled, plus}
use Rattle.locmaf_read_block.specs.Front.{Front, off, cut, on_front, Series, series, before, taken, wholly}
use Rattle.locmaf_read_block.specs.Numbers.{number_front, numbers_run, numbers_f, counted, count_at, steps_f}
use Rattle.locmaf_read_block.proofs.FrontLaws.{taken_none, taken-cut, taken-off}
use Rattle.laws.specs.Options.{on_option}

module _ (F : List Row) where
  -- where they stand doesn't matter
  anywhere : (k at at' : ℕ) (s : List ℕ) → taken (number_front F) k at s ≡ taken (number_front F) k at' s
  unfolding taken number_front
  anywhere k at at' [] = refl
  anywhere (suc k) at at' (b ∷ s) = anywhere k (suc at) (suc at') s
  anywhere zero at at' (b ∷ s) = go (on_got (read_f F (b ∷ s)) off cut) (λ k. anywhere k (suc at) (suc at') s)
    where
      go : (f : Front ℕ) → ((k : ℕ) → taken (number_front F) k (suc at) s ≡ taken (number_front F) k (suc at') s)
          → on_front f (λ x k. before x (taken (number_front F) (k - 1) (suc at) s)) (series [] false)
          ≡ on_front f (λ x k. before x (taken (number_front F) (k - 1) (suc at') s)) (series [] false)
      go (off x k) ih = ap (before x) (ih (k - 1))
      go cut ih = refl

  pub numbers-none : (s : List ℕ) → length s ≡ 0 → numbers_run F s ≡ series [] true
  unfolding numbers_run
  numbers-none s e = taken_none (number_front F) 0 s e

  pub numbers-cut : (s : List ℕ) → 0 < length s → read_f F s ≡ None → numbers_run F s ≡ series [] false
  unfolding numbers_run number_front
  numbers-cut s h e = taken-cut (number_front F) 0 s h (rw e)

  pub numbers-one : (s : List ℕ) (v k : ℕ) → read_f F s ≡ Some (v, k) → numbers_run F s ≡ before v (numbers_run F (drop k s))
  unfolding numbers_run number_front
  numbers-one s v k e =
      let z = read-size F s v k e in
      taken-off (number_front F) 0 s v k (omega (arith, z.0, z.1)) z.0 (rw e) ∙ ap (before v) (anywhere 0 (0 + k) 0 (drop k s))

-- how many there are
pub plus-zero : (c : Option ℕ) → plus 0 c ≡ c
plus-zero (Some n) = ap Some (zero-add n)
plus-zero None = refl

pub counted-before : {A : Type 0} (n : ℕ) (x : A) (r : Series A) → plus n (counted (before x r)) ≡ plus (n + 1) (counted r)
unfolding counted
counted-before n x r = go r.whole
  where
    go : (w : Bool) → plus n (cond w (Some (suc (length r.items))) None) ≡ plus (n + 1) (cond w (Some (length r.items)) None)
    go true = let e : n + suc (length r.items) ≡ n + 1 + length r.items = omega arith in ap Some e
    go false = refl

module _ (F : List Row) (s : List ℕ) (at end : ℕ) where
  pub count-inside : end ≤ length s → count_at F s at end ≡ counted (numbers_run F (slice at end s))
  unfolding count_at
  count-inside h = rw (le-leb _ _ h)

-- ---- what fills a list that splits into numbers

pub wholly-inv : {A : Type 0} (r : Series A) (xs : List A) → wholly r ≡ Some xs → (r.whole ≡ true) × (r.items ≡ xs)
unfolding wholly
wholly-inv {A} r xs e = go r.whole refl e
  where
    go : (w : Bool) → r.whole ≡ w → cond w (Some r.items) None ≡ Some xs → (r.whole ≡ true) × (r.items ≡ xs)
    go true q d = (q, cc)
    go false q d = cc

module _ (F : List Row) where
  -- no numbers are no bytes
  pub numbers-empty : (s : List ℕ) → numbers_f F s ≡ Some [] → s ≡ []
  unfolding numbers_f
  numbers-empty [] e = refl
  numbers-empty (b ∷ s) e = go (read_f F (b ∷ s)) refl
    where
      go : (g : Option (ℕ × ℕ)) → read_f F (b ∷ s) ≡ g → b ∷ s ≡ []
      go (Some (v, k)) q = let z : (before v (numbers_run F (drop k (b ∷ s)))).items ≡ [] = rw (numbers-one F (b ∷ s) v k q) at (wholly-inv _ _ e).1 in cc
      go None q = let z : false ≡ true = rw (numbers-cut F (b ∷ s) (omega arith) q) at (wholly-inv _ _ e).0 in cc

  -- a number and more: the first is read off the front, and the rest splits into the others
  pub numbers-inv : (s : List ℕ) (v : ℕ) (vs : List ℕ) → numbers_f F s ≡ Some (v ∷ vs)
      → (k : ℕ) × (read_f F s ≡ Some (v, k)) × (numbers_f F (drop k s) ≡ Some vs)
  unfolding numbers_f wholly
  numbers-inv [] v vs e =
      let z : [] ≡ v ∷ vs = rw (numbers-none F [] refl) at (wholly-inv (numbers_run F []) (v ∷ vs) e).1 in
      cc
  numbers-inv (b ∷ s) v vs e = go (read_f F (b ∷ s)) refl (wholly-inv (numbers_run F (b ∷ s)) (v ∷ vs) e)
    where
      go : (g : Option (ℕ × ℕ)) → read_f F (b ∷ s) ≡ g → ((numbers_run F (b ∷ s)).whole ≡ true) × ((numbers_run F (b ∷ s)).items ≡ v ∷ vs)
          → (k : ℕ) × (read_f F (b ∷ s) ≡ Some (v, k)) × (numbers_f F (drop k (b ∷ s)) ≡ Some vs)
      go (Some (u, k)) q w =
          let x : u ∷ (numbers_run F (drop k (b ∷ s))).items ≡ v ∷ vs = rw (numbers-one F (b ∷ s) u k q) at w.1 in
          let y : (numbers_run F (drop k (b ∷ s))).whole ≡ true = rw (numbers-one F (b ∷ s) u k q) at w.0 in
          let a : u ≡ v = cc in
          let c : (numbers_run F (drop k (b ∷ s))).items ≡ vs = cc in
          (k, cc, rw (y, c))
      go None q w =
          let z : false ≡ true = rw (numbers-cut F (b ∷ s) (omega arith) q) at w.0 in
          cc

  pub numbers-nil : numbers_f F [] ≡ Some []
  unfolding numbers_f wholly
  numbers-nil = rw (numbers-none F [] refl)

  pub numbers-cons : (s : List ℕ) (v k : ℕ) (vs : List ℕ) → read_f F s ≡ Some (v, k) → numbers_f F (drop k s) ≡ Some vs → numbers_f F s ≡ Some (v ∷ vs)
  unfolding numbers_f wholly
  numbers-cons s v k vs q e = let w = wholly-inv (numbers_run F (drop k s)) vs e in rw (numbers-one F s v k q, w.0, w.1)

  module _ (coding : Coding) (base bound : ℕ) where
    -- reading the values of a list that splits into the numbers zs is stepping through zs
    pub filled-numbers : (zs old s : List ℕ) → numbers_f F s ≡ Some zs
        → filled F coding base bound (length zs) old s ≡ steps_f coding base bound old zs
    unfolding filled steps_f
    filled-numbers [] old s e = rw (numbers-empty s e)
    filled-numbers (z ∷ zs) old s e =
        let i = numbers-inv s z zs e in
        rw (i.1, filled-numbers zs (rest old) (drop i.0 s) i.2)

    -- a list that was read to the end splits into as many numbers as were wanted
    pub filled-done : (n : ℕ) (old s : List ℕ) → (filled F coding base bound n old s).answer ≡ Ok tt
        → (zs : List ℕ) × (numbers_f F s ≡ Some zs) × (length zs ≡ n)
    unfolding filled
    filled-done zero old [] d = ([], numbers-nil, refl)
    filled-done zero old (b ∷ s) d = cc
    filled-done (suc n) old s d = go (read_f F s) refl (λ k e. filled-done n (rest old) (drop k s) e) d
      where
        Rest : Type 0
        Rest = (k : ℕ) → (filled F coding base bound n (rest old) (drop k s)).answer ≡ Ok tt
            → (zs : List ℕ) × (numbers_f F (drop k s) ≡ Some zs) × (length zs ≡ n)

        one : (z k : ℕ) → read_f F s ≡ Some (z, k) → Rest → (t : Option ℕ)
            → (on_option t (λ v. more v (filled F coding base bound n (rest old) (drop k s))) (stop (Err Outside))).answer ≡ Ok tt
            → (zs : List ℕ) × (numbers_f F s ≡ Some zs) × (length zs ≡ suc n)
        one z k q ih (Some v) e = let i = ih k e in (z ∷ i.0, numbers-cons s z k i.0 q i.1, ap suc i.2)
        one z k q ih None e = cc

        go : (g : Option (ℕ × ℕ)) → read_f F s ≡ g → Rest
            → (on_got g (λ z k. on_option (reached coding (first base old) bound z) (λ v. more v (filled F coding base bound n (rest old) (drop k s))) (stop (Err Outside))) (stop (Err Misfit))).answer ≡ Ok tt
            → (zs : List ℕ) × (numbers_f F s ≡ Some zs) × (length zs ≡ suc n)
        go (Some (z, k)) q ih e = one z k q ih (reached coding (first base old) bound z) e
        go None q ih e = cc

    -- so another number of values than a list has are not read to the end
    pub filled-otherwise : (n : ℕ) (zs old s : List ℕ) → numbers_f F s ≡ Some zs → (length zs ≡ n → ⊥)
        → (filled F coding base bound n old s).answer ≡ (Ok tt) → ⊥
    filled-otherwise n zs old s e h d = let i = filled-done n old s d in let q : zs ≡ i.0 = cc in h (ap length q ∙ i.2)

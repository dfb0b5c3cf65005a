-- Stores at several places, one after another: those that lie apart may change their order, and those that meet are one. Assumes nothing.
use Prim.Native.Nat.{ℕ, suc, ◌+◌, ◌≤◌}
use native.Mathlib.Omega.{arith}
use mathlib.Core.Path.{◌≡◌, refl, sym, ◌∙◌, ap}
use mathlib.Core.List.{List, [], ◌∷◌, ◌++◌}
use lib.ListN.{length, set}
use lib.Seq.{sets, set_comm}
use Rattle.laws.proofs.StoreLaws.{sets-append}

-- a store past a run of stores
pub set_past : (vs l : List ℕ) (i p v : ℕ) → i + length vs ≤ p → set (sets l i vs) p v ≡ sets (set l p v) i vs
set_past [] l i p v h = refl
set_past (a ∷ vs) l i p v h =
    set_past vs (set l i a) (suc i) p v (omega arith) ∙ ap (λ (k : List ℕ). sets k (suc i) vs) (set_comm l i p a v (omega arith))

-- a run past a run
pub sets-past : (ws vs l : List ℕ) (i p : ℕ) → i + length vs ≤ p → sets (sets l i vs) p ws ≡ sets (sets l p ws) i vs
sets-past [] vs l i p h = refl
sets-past (w ∷ ws) vs l i p h =
    ap (λ (k : List ℕ). sets k (suc p) ws) (set_past vs l i p w h) ∙ sets-past ws vs (set l p w) i (suc p) (omega arith)

-- a run from where another ends
module _ (l : List ℕ) (i : ℕ) (a : List ℕ) (q : ℕ) (a' : List ℕ) (e : q ≡ i + length a) where
  pub meet : sets (sets l i a) q a' ≡ sets l i (a ++ a')
  meet = ap (λ (n : ℕ). sets (sets l i a) n a') e ∙ sym (sets-append a a' l i)

  -- with one, two or three runs past it between
  module _ (j : ℕ) (b : List ℕ) (h : q + length a' ≤ j) where
    meet_one : sets (sets (sets l i a) j b) q a' ≡ sets (sets l i (a ++ a')) j b
    meet_one = sym (sets-past b a' (sets l i a) q j h) ∙ ap (λ (z : List ℕ). sets z j b) meet

    module _ (k : ℕ) (c : List ℕ) (g : q + length a' ≤ k) where
      meet-two : sets (sets (sets (sets l i a) j b) k c) q a' ≡ sets (sets (sets l i (a ++ a')) j b) k c
      meet-two = sym (sets-past c a' (sets (sets l i a) j b) q k g) ∙ ap (λ (z : List ℕ). sets z k c) meet_one

      module _ (m : ℕ) (d : List ℕ) (f : q + length a' ≤ m) where
        meet-three : sets (sets (sets (sets (sets l i a) j b) k c) m d) q a' ≡ sets (sets (sets (sets l i (a ++ a')) j b) k c) m d
        meet-three = sym (sets-past d a' (sets (sets (sets l i a) j b) k c) q m f) ∙ ap (λ (z : List ℕ). sets z m d) meet-two

-- runs at four places
abbrev pub four : List ℕ → ℕ → List ℕ → ℕ → List ℕ → ℕ → List ℕ → ℕ → List ℕ → List ℕ
four l i a j b k c m d = sets (sets (sets (sets l i a) j b) k c) m d

-- each of them goes on where it ended
module _
    (l : List ℕ)
    (i j k m : ℕ)
    (a b c d : List ℕ)
    (i' j' k' m' : ℕ)
    (a' b' c' d' : List ℕ)
    (p : i' ≡ i + length a)
    (q : j' ≡ j + length b)
    (r : k' ≡ k + length c)
    (s : m' ≡ m + length d)
    (ab : i' + length a' ≤ j)
    (bc : j' + length b' ≤ k)
    (cd : k' + length c' ≤ m)
  where
    pub four-more : four (four l i a j b k c m d) i' a' j' b' k' c' m' d' ≡ four l i (a ++ a') j (b ++ b') k (c ++ c') m (d ++ d')
    four-more =
        ap (λ (z : List ℕ). sets (sets (sets z j' b') k' c') m' d')
        (meet-three l i a i' a' p j b ab k c (omega (arith, q)) m d (omega (arith, q, r)))
        ∙ ap (λ (z : List ℕ). sets (sets z k' c') m' d')
        (meet-two (sets l i (a ++ a')) j b j' b' q k c bc m d (omega (arith, r)))
        ∙ ap (λ (z : List ℕ). sets z m' d')
        (meet_one (sets (sets l i (a ++ a')) j (b ++ b')) k c k' c' r m d cd)
        ∙ meet (sets (sets (sets l i (a ++ a')) j (b ++ b')) k (c ++ c')) m d m' d' s

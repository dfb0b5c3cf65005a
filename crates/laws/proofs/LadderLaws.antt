-- A ladder gives each number exactly when its rule says. Assumes nothing.
use Prim.Native.Nat.{ℕ}
use mathlib.Core.Path.{◌≡◌, refl, sym, ◌∙◌, ap}
use mathlib.Core.Logic.{◌⊎◌, inl, inr}
use mathlib.Core.Bool.{Bool, true, false, false≢true, not}
use mathlib.Core.List.{List, [], ◌∷◌, ◌++◌, map, Memᴰ}
use borrow.Author.Tests.{eqb-false, not-true}
use lib.Dec.{eqb}
use Rattle.laws.specs.Gate.{gate}
use Rattle.laws.specs.Ladder.{Rung, ◌else◌, ladder, Given, Hold}
use Rattle.laws.specs.Tests.{◌and◌}
use Rattle.laws.proofs.TestLaws.{left, right}

-- the number that a ladder gives
abbrev pub number_of : List Rung → ℕ
number_of rs = ladder rs (λ k. k) 0

-- a rung whose test fails
pub broken : {A : Type 0} (test : Bool) (n : ℕ) (rs : List Rung) (refuse : ℕ → A) (done : A) → test ≡ false → refuse n ≡ ladder ((test else n) ∷ rs) refuse done
unfolding ladder gate
broken test n rs refuse done e = rw e

-- a rung whose test holds
pub passed : {A : Type 0} (test : Bool) (n : ℕ) (rs : List Rung) (refuse : ℕ → A) (done : A) {o : A} → test ≡ true → o ≡ ladder rs refuse done → o ≡ ladder ((test else n) ∷ rs) refuse done
unfolding ladder gate
passed test n rs refuse done e h = rw e h

-- no rung is left
pub top : {A : Type 0} (refuse : ℕ → A) (done : A) → done ≡ ladder [] refuse done
unfolding ladder
top refuse done = refl

-- the number is given exactly when its rule is broken and none before it
pub given : (rs : List Rung) → Given (number_of rs) rs
unfolding ladder gate
given [] = refl
given (r ∷ rs) = go r.test refl (given rs)
  where
    go : (t : Bool) → r.test ≡ t → Given (ladder rs (λ k. k) 0) rs → ((r.test ≡ false) × (gate t r.number (ladder rs (λ k. k) 0) ≡ r.number)) ⊎ ((r.test ≡ true) × Given (gate t r.number (ladder rs (λ k. k) 0)) rs)
    go true e g = inr (e, g)
    go false e g = inl (e, refl)

-- and no other number is
pub given-one : (rs : List Rung) (j k : ℕ) → Given j rs → Given k rs → j ≡ k
given-one [] j k p q = p ∙ sym q
given-one (r ∷ rs) j k (inl p) (inl q) = p.1 ∙ sym q.1
given-one (r ∷ rs) j k (inl p) (inr q) = absurd (false≢true (sym p.0 ∙ q.0))
given-one (r ∷ rs) j k (inr p) (inl q) = absurd (false≢true (sym q.0 ∙ p.0))
given-one (r ∷ rs) j k (inr p) (inr q) = given-one rs j k p.1 q.1

-- nor one that is neither 0 nor a rung's
pub given-known : (rs : List Rung) (k : ℕ) → Given k rs → Memᴰ k (0 ∷ map (λ (r : Rung). r.number) rs)
given-known [] k g = Memᴰ.head g
given-known (r ∷ rs) k (inl g) = Memᴰ.tail (Memᴰ.head g.1)
given-known (r ∷ rs) k (inr g) = beside (given-known rs k g.1)
  where
    beside : {ns : List ℕ} → Memᴰ k (0 ∷ ns) → Memᴰ k (0 ∷ r.number ∷ ns)
    beside (Memᴰ.head e) = Memᴰ.head e
    beside (Memᴰ.tail m) = Memᴰ.tail (Memᴰ.tail m)

module _ {A : Type 0} (P : A → Type 0) (refuse : ℕ → A) where
  -- P holds of each refusal that the ladder can give
  abbrev pub Each : List Rung → Type 0
  Each [] = Unit {0}
  Each (r ∷ rs) = P (refuse r.number) × Each rs

  -- what holds of each refusal, and of what is done where every test holds, holds of what the ladder gives
  pub climbs : (rs : List Rung) (done : A) → Each rs → (Hold rs → P done) → P (ladder rs refuse done)
  unfolding ladder gate
  climbs [] done e d = d tt
  climbs (r ∷ rs) done e d = go r.test refl (λ q. climbs rs done e.1 (λ h. d (q, h)))
    where
      go : (b : Bool) → r.test ≡ b → (r.test ≡ true → P (ladder rs refuse done)) → P (gate b (refuse r.number) (ladder rs refuse done))
      go true q k = k q
      go false q k = e.0

-- what holds of every refusal holds of those that a ladder can give
each : {A : Type 0} (P : A → Type 0) (refuse : ℕ → A) → ((k : ℕ) → P (refuse k)) → (rs : List Rung) → Each P refuse rs
each P refuse h [] = tt
each P refuse h (r ∷ rs) = (h r.number, each P refuse h rs)

-- what holds of every refusal, and of what is done where every test holds, holds of what the ladder gives
pub climbs-all : {A : Type 0} (P : A → Type 0) (refuse : ℕ → A) (rs : List Rung) (done : A) → ((k : ℕ) → P (refuse k)) → (Hold rs → P done)
    → P (ladder rs refuse done)
climbs-all P refuse rs done h d = climbs P refuse rs done (each P refuse h rs) d

-- what holds of both refusals with a number, and of what both do where every test holds, holds of what two ladders of the same rungs give
pub climbs-both : {A B : Type 0} (P : A → B → Type 0) (rs : List Rung) (refuse : ℕ → A) (refuse' : ℕ → B) (done : A) (done' : B)
    → ((k : ℕ) → P (refuse k) (refuse' k)) → (Hold rs → P done done') → P (ladder rs refuse done) (ladder rs refuse' done')
unfolding ladder gate
climbs-both P [] refuse refuse' done done' r d = d tt
climbs-both {A} {B} P (q ∷ qs) refuse refuse' done done' r d = go q.test refl (λ e. climbs-both P qs refuse refuse' done done' r (λ h. d (e, h)))
  where
    go : (b : Bool) → q.test ≡ b → (q.test ≡ true → P (ladder qs refuse done) (ladder qs refuse' done'))
        → P (gate b (refuse q.number) (ladder qs refuse done)) (gate b (refuse' q.number) (ladder qs refuse' done'))
    go true e k = k e
    go false e k = r q.number

-- one ladder on top of another is one ladder
pub ladder-append : {A : Type 0} (rs qs : List Rung) (refuse : ℕ → A) (done : A) → ladder (rs ++ qs) refuse done ≡ ladder rs refuse (ladder qs refuse done)
unfolding ladder
ladder-append [] qs refuse done = refl
ladder-append (r ∷ rs) qs refuse done = ap (gate r.test (refuse r.number)) (ladder-append rs qs refuse done)

-- what is seen of an answer is the answer of the ladder as it is seen
pub ladder-seen : {A B : Type 0} (h : A → B) (rs : List Rung) (refuse : ℕ → A) (done : A)
    → h (ladder rs refuse done) ≡ ladder rs (λ k. h (refuse k)) (h done)
unfolding ladder gate
ladder-seen h [] refuse done = refl
ladder-seen h (r ∷ rs) refuse done = go r.test (ladder-seen h rs refuse done)
  where
    go : (b : Bool) → h (ladder rs refuse done) ≡ ladder rs (λ k. h (refuse k)) (h done)
        → h (gate b (refuse r.number) (ladder rs refuse done)) ≡ gate b (h (refuse r.number)) (ladder rs (λ k. h (refuse k)) (h done))
    go true e = e
    go false e = refl

-- ---- a ladder climbed in parts

-- no rung refuses with 0
abbrev pub Numbered : List Rung → Type 0
Numbered [] = Unit {0}
Numbered (r ∷ rs) = (r.number ≡ 0 → ⊥) × Numbered rs

-- no rung refuses with 0, as a test
unfoldable pub nonzero : List Rung → Bool
nonzero [] = true
nonzero (r ∷ rs) = not (eqb r.number 0) and nonzero rs

pub numbered : (rs : List Rung) → nonzero rs ≡ true → Numbered rs
unfolding nonzero
numbered [] e = tt
numbered (r ∷ rs) e = (eqb-false r.number 0 (not-true _ (left _ _ e)), numbered rs (right _ _ e))

-- the number 0 says that every test holds
pub all_hold : (rs : List Rung) → Numbered rs → number_of rs ≡ 0 → Hold rs
unfolding ladder gate
all_hold [] n e = tt
all_hold (r ∷ rs) n e = go r.test refl (all_hold rs n.1) e
  where
    go : (b : Bool) → r.test ≡ b → (number_of rs ≡ 0 → Hold rs) → gate b r.number (number_of rs) ≡ 0 → (r.test ≡ true) × Hold rs
    go true q h z = (q, h z)
    go false q h z = absurd (n.0 z)

-- both parts of a ladder that holds
pub hold-front : (rs qs : List Rung) → Hold (rs ++ qs) → Hold rs
hold-front [] qs h = tt
hold-front (r ∷ rs) qs h = (h.0, hold-front rs qs h.1)

pub hold-back : (rs qs : List Rung) → Hold (rs ++ qs) → Hold qs
hold-back [] qs h = h
hold-back (r ∷ rs) qs h = hold-back rs qs h.1

-- and together they hold where each does
pub hold-append : (rs qs : List Rung) → Hold rs → Hold qs → Hold (rs ++ qs)
hold-append [] qs h k = k
hold-append (r ∷ rs) qs h k = (h.0, hold-append rs qs h.1 k)

module _ {A : Type 0} (refuse : ℕ → A) (done : A) where
  -- where every test holds, what is done
  pub climbed : (rs : List Rung) → Hold rs → ladder rs refuse done ≡ done
  unfolding ladder gate
  climbed [] h = refl
  climbed (r ∷ rs) h = rw h.0 (climbed rs h.1)

  -- and any other number is the one that it refuses with
  pub stopped : (rs : List Rung) → (number_of rs ≡ 0 → ⊥) → ladder rs refuse done ≡ refuse (number_of rs)
  unfolding ladder gate
  stopped [] n = absurd (n refl)
  stopped (r ∷ rs) n = go r.test (stopped rs) n
    where
      go : (b : Bool) → ((number_of rs ≡ 0 → ⊥) → ladder rs refuse done ≡ refuse (number_of rs)) → (gate b r.number (number_of rs) ≡ 0 → ⊥)
          → gate b (refuse r.number) (ladder rs refuse done) ≡ refuse (gate b r.number (number_of rs))
      go true h m = h m
      go false h m = refl

-- the same, with another ladder on top
module _ {A : Type 0} (rs qs : List Rung) (refuse : ℕ → A) (done : A) where
  pub climbed-on : Hold rs → ladder qs refuse done ≡ ladder (rs ++ qs) refuse done
  climbed-on h = sym (ladder-append rs qs refuse done ∙ climbed refuse (ladder qs refuse done) rs h)

  pub stopped-on : (number_of rs ≡ 0 → ⊥) → refuse (number_of rs) ≡ ladder (rs ++ qs) refuse done
  stopped-on n = sym (ladder-append rs qs refuse done ∙ stopped refuse (ladder qs refuse done) rs n)

-- two ladders that begin alike, and agree from there on where the first part holds
pub agree : {A : Type 0} (refuse : ℕ → A) (rs qs qs' : List Rung) (done done' : A) → (Hold rs → ladder qs refuse done ≡ ladder qs' refuse done')
    → ladder (rs ++ qs) refuse done ≡ ladder (rs ++ qs') refuse done'
unfolding ladder gate
agree refuse [] qs qs' done done' h = h tt
agree {A} refuse (r ∷ rs) qs qs' done done' h = go r.test refl (λ q. agree refuse rs qs qs' done done' (λ k. h (q, k)))
  where
    go : (b : Bool) → r.test ≡ b → (r.test ≡ true → ladder (rs ++ qs) refuse done ≡ ladder (rs ++ qs') refuse done')
        → gate b (refuse r.number) (ladder (rs ++ qs) refuse done) ≡ gate b (refuse r.number) (ladder (rs ++ qs') refuse done')
    go true q k = k q
    go false q k = refl

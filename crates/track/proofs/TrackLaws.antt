-- What lawful parameters are, one by one. Assumes nothing.
use Prim.Native.Nat.{ℕ, ◌≤◌}
use native.Mathlib.Omega.{arith}
use mathlib.Core.Path.{◌≡◌, refl}
use mathlib.Core.Bool.{Bool, true, false, false≢true, ◌&&◌, ◌||◌}
use borrow.Author.Tests.{leb-true, eqb-true}
use lib.Dec.{eqb}
use Rattle.laws.proofs.TestLaws.{left, right}
use Rattle.track.specs.declared.Asked.{Asked}
use Rattle.track.specs.Track.{lawful, iv_ok, u32}

-- the IV size is 0, 8 or 16
pub iv-size-le : (p i : ℕ) → iv_ok p i ≡ true → i ≤ 16
iv-size-le p i e = go (eqb p 1) (eqb i 8) refl (eqb i 16) refl (eqb p 0) (eqb p 2) (eqb i 0) refl e
  where
    go : (a b : Bool) → eqb i 8 ≡ b → (c : Bool) → eqb i 16 ≡ c → (d f g : Bool) → eqb i 0 ≡ g → ((a && (b || c)) || ((d || f) && g)) ≡ true → i ≤ 16
    go a true q c r d f g s h = let z : i ≡ 8 = eqb-true i 8 q in omega arith
    go a false q true r d f g s h = let z : i ≡ 16 = eqb-true i 16 r in omega arith
    go a false q false r d f true s h = let z : i ≡ 0 = eqb-true i 0 s in omega arith
    go true false q false r true f false s h = absurd (false≢true h)
    go true false q false r false true false s h = absurd (false≢true h)
    go true false q false r false false false s h = absurd (false≢true h)
    go false false q false r true f false s h = absurd (false≢true h)
    go false false q false r false true false s h = absurd (false≢true h)
    go false false q false r false false false s h = absurd (false≢true h)

protection-le : (p i : ℕ) → iv_ok p i ≡ true → p ≤ 2
protection-le p i e = go (eqb p 1) refl (eqb i 8) (eqb i 16) (eqb p 0) refl (eqb p 2) refl (eqb i 0) e
  where
    go : (a : Bool) → eqb p 1 ≡ a → (b c d : Bool) → eqb p 0 ≡ d → (f : Bool) → eqb p 2 ≡ f → (g : Bool) → ((a && (b || c)) || ((d || f) && g)) ≡ true → p ≤ 2
    go true q b c d r f s g h = let z : p ≡ 1 = eqb-true p 1 q in omega arith
    go false q b c true r f s g h = let z : p ≡ 0 = eqb-true p 0 r in omega arith
    go false q b c false r true s g h = let z : p ≡ 2 = eqb-true p 2 s in omega arith
    go false q b c false r false s g h = absurd (false≢true h)

pub record Ranges (a : Asked) : Type 0 where
  pub id : a.track ≤ u32
  pub timescale : a.timescale ≤ u32
  pub description : a.description ≤ u32
  pub duration : a.duration ≤ u32
  pub size : a.size ≤ u32
  pub flags : a.flags ≤ 31
  pub protection : a.protection ≤ 2
  pub iv-size : a.iv_size ≤ 16

pub ranges : (a : Asked) → lawful a ≡ true → Ranges a
unfolding lawful
ranges a e =
    let e₂ = right _ _ e in
    let e₃ = right _ _ e₂ in
    let e₄ = right _ _ e₃ in
    let e₅ = right _ _ e₄ in
    let e₆ = right _ _ e₅ in
    record {
      id = leb-true _ _ (right _ _ (left _ _ e));
      timescale = leb-true _ _ (right _ _ (left _ _ e₂));
      description = leb-true _ _ (right _ _ (left _ _ e₃));
      duration = leb-true _ _ (left _ _ e₄);
      size = leb-true _ _ (left _ _ e₅);
      flags = leb-true _ _ (left _ _ e₆);
      protection = protection-le a.protection a.iv_size (right _ _ e₆);
      iv-size = iv-size-le a.protection a.iv_size (right _ _ e₆);
    }

-- an open track's id isn't 0
pub id-from-one : (a : Asked) → lawful a ≡ true → 1 ≤ a.track
unfolding lawful
id-from-one a e = leb-true _ _ (left _ _ (left _ _ e))

-- the IV size is one that the protection has
pub lawful-iv : (a : Asked) → lawful a ≡ true → iv_ok a.protection a.iv_size ≡ true
unfolding lawful
lawful-iv a e = right _ _ (right _ _ (right _ _ (right _ _ (right _ _ (right _ _ e)))))

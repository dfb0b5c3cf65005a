-- Laws of an object's head: what code finds of it, and where its block lies. Assumes nothing.
use Prim.Native.Nat.{ℕ, ◌+◌, ◌-◌, ◌≤◌, ◌<◌}
use native.Mathlib.Omega.{arith}
use mathlib.Core.Path.{◌≡◌, refl}
use mathlib.Core.Bool.{Bool, true, false, cond}
use mathlib.Core.List.{List}
use borrow.Author.Tests.{eq-eqb, ne_eqb, le-leb, lt-leb, leb-true}
use lib.Dec.{eqb, leb}
use lib.ListN.{length, drop, length-drop}
use Rattle.constants.specs.Maxima.{block_most}
use Rattle.wire.specs.declared.form.Row.{Row}
use Rattle.std.specs.Prelude.{Option, Some, None, Result, Ok, Err, ok_or}
use Rattle.refusal.specs.declared.Refusal.{Refusal}
use Rattle.refusal.specs.declared.Refusal.TheVariants.{OtherHeader, Unreadable, OutOfRange}
use Rattle.wire.specs.Varint.{read_f, read_at, on_got}
use Rattle.wire.proofs.VarintLaws.{read-size}
use Rattle.locmaf_read_block.specs.Records.{number}
use Rattle.locmaf_read_block.proofs.ReadLaws.{Found}
use Rattle.locmaf_read_block.proofs.RecordLaws.{number-none, number_is}
use Rattle.locmaf_read_head.specs.declared.head.Place.{Place}
use Rattle.locmaf_read_head.specs.Head.{place_of, block_f, head_of}

-- what can't be read is refused as unreadable
pub unread : {A : Type 0} {g : Option A} {r : Refusal} → Err r ≡ ok_or g Unreadable → g ≡ None → r ≡ Unreadable
unread e n = grind arith

-- ---- what code finds

module _ (F : List Row) (o : List ℕ) (p : ℕ) (delta : Bool) where
  -- the block length is cut
  pub block_none : None ≡ read_at F o p (length o) → Err Unreadable ≡ block_f F o p delta
  unfolding block_f
  block_none e = number-none F o p _ (Err Unreadable) e

  module _ (n at : ℕ) (i : Found F o p (length o) n at) where
    -- it leads past the object
    pub block-past : length o - at < n → Err Unreadable ≡ block_f F o p delta
    unfolding block_f
    block-past h = number_is F o p _ (Err Unreadable) i (rw (lt-leb _ _ h))

    -- it is past its maximum
    pub block-long : n ≤ length o - at → block_most < n → Err OutOfRange ≡ block_f F o p delta
    unfolding block_f
    block-long h k = number_is F o p _ (Err Unreadable) i (rw (le-leb _ _ h, lt-leb _ _ k))

    pub block-is : n ≤ length o - at → n ≤ block_most → Ok (place_of delta at (at + n)) ≡ block_f F o p delta
    unfolding block_f
    block-is h k = number_is F o p _ (Err Unreadable) i (rw (le-leb _ _ h, le-leb _ _ k))

module _ (F : List Row) (o : List ℕ) where
  -- the header id is cut
  pub head-none : None ≡ read_at F o 0 (length o) → Err Unreadable ≡ head_of F o
  unfolding head_of
  head-none e = number-none F o 0 _ (Err Unreadable) e

  module _ (id p : ℕ) (i : Found F o 0 (length o) id p) where
    pub head-full : id ≡ 23 → (r : Result Place Refusal) → r ≡ block_f F o p false → r ≡ head_of F o
    unfolding head_of
    head-full h r e = number_is F o 0 _ (Err Unreadable) i (rw (eq-eqb _ _ h) e)

    pub head-delta : (id ≡ 23 → ⊥) → id ≡ 25 → (r : Result Place Refusal) → r ≡ block_f F o p true → r ≡ head_of F o
    unfolding head_of
    head-delta h k r e = number_is F o 0 _ (Err Unreadable) i (rw (ne_eqb _ _ h, eq-eqb _ _ k) e)

    pub head-other : (id ≡ 23 → ⊥) → (id ≡ 25 → ⊥) → Err OtherHeader ≡ head_of F o
    unfolding head_of
    head-other h k = number_is F o 0 _ (Err Unreadable) i (rw (ne_eqb _ _ h, ne_eqb _ _ k))

-- ---- where the block lies

pub record Within (o : List ℕ) (p : Place) : Type 0 where
  pub order : p.at ≤ p.end
  pub inside : p.end ≤ length o
  pub short : p.end - p.at ≤ block_most

module _ (F : List Row) (o : List ℕ) (b : Place) where
  block_within : (p : ℕ) (delta : Bool) → block_f F o p delta ≡ Ok b → Within o b
  unfolding block_f number
  block_within p delta e = go (read_f F (drop p o)) refl e
    where
      sized : (n at : ℕ) → at ≤ length o → (x y : Bool) → leb n (length o - at) ≡ x → leb n block_most ≡ y
          → cond {A = Result Place Refusal} x (cond y (Ok (place_of delta at (at + n))) (Err OutOfRange)) (Err Unreadable) ≡ Ok b → Within o b
      sized n at h true true u v d =
          let g : place_of delta at (at + n) ≡ b = cc in
          let k : n ≤ length o - at = leb-true _ _ u in
          let m : n ≤ block_most = leb-true _ _ v in
          rw (← g) (record { order = omega arith; inside = omega arith; short = omega arith })
      sized n at h true false u v d = cc
      sized n at h false y u v d = cc

      go : (g : Option (ℕ × ℕ)) → read_f F (drop p o) ≡ g
          → on_got g
          (λ n k. cond (leb n (length o - (p + k))) (cond (leb n block_most) (Ok (place_of delta (p + k) (p + k + n))) (Err OutOfRange)) (Err Unreadable))
          (Err Unreadable)
          ≡ Ok b
          → Within o b
      go (Some (n, k)) q d =
          let s = read-size F (drop p o) n k q in
          let h : p + k ≤ length o = omega (arith, s.0, s.1, length-drop p o) in
          sized n (p + k) h (leb n (length o - (p + k))) (leb n block_most) refl refl d
      go None q d = cc

  -- a head that is a block: it lies in the object and has at most 16,384 bytes
  pub head-within : head_of F o ≡ Ok b → Within o b
  unfolding head_of number
  head-within e = go (read_f F (drop 0 o)) refl e
    where
      kinds : (p : ℕ) (x y : Bool) → cond x (block_f F o p false) (cond y (block_f F o p true) (Err OtherHeader)) ≡ Ok b → Within o b
      kinds p true y d = block_within p false d
      kinds p false true d = block_within p true d
      kinds p false false d = cc

      go : (g : Option (ℕ × ℕ)) → read_f F (drop 0 o) ≡ g
          → on_got g (λ id k. cond (eqb id 23) (block_f F o (0 + k) false) (cond (eqb id 25) (block_f F o (0 + k) true) (Err OtherHeader))) (Err Unreadable)
          ≡ Ok b
          → Within o b
      go (Some (id, k)) q d = kinds (0 + k) (eqb id 23) (eqb id 25) d
      go None q d = cc

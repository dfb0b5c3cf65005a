-- What a head that was read says of its object's rungs. Assumes nothing.
use Prim.Native.Nat.{ℕ, ◌+◌, ◌-◌, ◌≤◌}
use native.Mathlib.Omega.{arith}
use mathlib.Core.Path.{◌≡◌, refl, sym, ◌∙◌, ap, subst}
use mathlib.Core.Bool.{Bool, true, false, cond, ◌||◌}
use mathlib.Core.List.{List}
use borrow.Author.Tests.{eqb-true, leb-true}
use lib.Dec.{eqb, leb}
use lib.ListN.{length, drop, length-drop}
use Rattle.constants.specs.Maxima.{block_most}
use Rattle.laws.specs.Ladder.{Hold}
use Rattle.laws.proofs.LadderLaws.{number_of, broken, passed}
use Rattle.refusal.specs.declared.Refusal.{Refusal}
use Rattle.refusal.specs.declared.Refusal.TheVariants.{OtherHeader, Unreadable, OutOfRange}
use Rattle.refusal.specs.Numbers.{number_of as refusal_number}
use Rattle.wire.specs.declared.form.Row.{Row}
use Rattle.std.specs.Prelude.{Option, Some, None, Result, Ok, Err}
use Rattle.wire.specs.Varint.{read_f, on_got}
use Rattle.wire.proofs.VarintLaws.{read-size}
use Rattle.locmaf_read_block.specs.Records.{number}
use Rattle.locmaf_read_head.specs.declared.head.Place.{Place}
use Rattle.locmaf_read_head.specs.Head.{place_of, block_f, head_of}
use Rattle.receiver.specs.Object.{header_reads, header_id, length_at, block_reads, block_length, block_at, block_end, is_delta, head_rungs}

-- a refusal is that of the rungs, and a place is that of the object's block
abbrev pub Stopped : List Row → List ℕ → Refusal → Type 0
Stopped F o r = number_of (head_rungs F o) ≡ refusal_number r

pub record Opened (F : List Row) (o : List ℕ) (p : Place) : Type 0 where
  pub hold : Hold (head_rungs F o)
  pub place : p ≡ place_of (is_delta F o) (block_at F o) (block_end F o)
  pub inside : block_end F o ≤ length o
  pub block : block_length F o ≤ block_most

-- what the rungs have to do with a head
abbrev pub Says : List Row → List ℕ → Result Place Refusal → Type 0
Says F o (Err r) = Stopped F o r
Says F o (Ok p) = Opened F o p

module _ (F : List Row) (o : List ℕ) where
  -- the numbers of the head, by what is read at its two places
  module _ (id c : ℕ) (q : read_f F (drop 0 o) ≡ Some (id, c)) where
    reads-is : header_reads F o ≡ true
    unfolding header_reads number
    reads-is = rw q

    id-is : header_id F o ≡ id
    unfolding header_id number
    id-is = rw q

    length-at : length_at F o ≡ 0 + c
    unfolding length_at number
    length-at = rw q

  reads-cut : read_f F (drop 0 o) ≡ None → header_reads F o ≡ false
  unfolding header_reads number
  reads-cut q = rw q

  module _ (p : ℕ) (e : length_at F o ≡ p) where
    block-cut : read_f F (drop p o) ≡ None → block_reads F o ≡ false
    unfolding block_reads number
    block-cut q = rw (e, q)

    module _ (n c : ℕ) (q : read_f F (drop p o) ≡ Some (n, c)) where
      block-reads : block_reads F o ≡ leb n (length o - (p + c))
      unfolding block_reads number
      block-reads = rw (e, q)

      block-length : block_length F o ≡ n
      unfolding block_length number
      block-length = rw (e, q)

      block-at : block_at F o ≡ p + c
      unfolding block_at number
      block-at = rw (e, q)

  -- from the block length on
  module _ (p : ℕ) (delta : Bool) (e : length_at F o ≡ p) (d : is_delta F o ≡ delta) (h : header_reads F o ≡ true)
      (k : eqb (header_id F o) 23 || eqb (header_id F o) 25 ≡ true) where
    cut_off : block_reads F o ≡ false → Says F o (Err Unreadable)
    unfolding head_rungs
    cut_off b = sym (passed _ 12 _ _ _ h (passed _ 10 _ _ _ k (broken _ 12 _ _ _ b)))

    sized : (n c : ℕ) → read_f F (drop p o) ≡ Some (n, c) → (x y : Bool) → leb n (length o - (p + c)) ≡ x → leb n block_most ≡ y
        → Says F o (cond x (cond y (Ok (place_of delta (p + c) (p + c + n))) (Err OutOfRange)) (Err Unreadable))
    unfolding head_rungs block_end
    sized n c q true true u v =
        let r = read-size F (drop p o) n c q in
        let b = block-at p e n c q in
        let l = block-length p e n c q in
        let i : n ≤ length o - (p + c) = leb-true _ _ u in
        let m : n ≤ block_most = leb-true _ _ v in
        record {
          hold = (h, (k, (block-reads p e n c q ∙ u, (ap (λ (z : ℕ). leb z block_most) l ∙ v, tt))));
          place = rw (d, b, l);
          inside = omega (arith, b, l, r.0, r.1, length-drop p o);
          block = omega (arith, l);
        }
    sized n c q true false u v =
        sym (passed _ 12 _ _ _ h (passed _ 10 _ _ _ k (passed _ 12 _ _ _ (block-reads p e n c q ∙ u)
        (broken _ 15 _ _ _ (ap (λ (z : ℕ). leb z block_most) (block-length p e n c q) ∙ v)))))
    sized n c q false y u v = cut_off (block-reads p e n c q ∙ u)

    block-says : Says F o (block_f F o p delta)
    unfolding block_f number
    block-says = go (read_f F (drop p o)) refl
      where
        go : (g : Option (ℕ × ℕ)) → read_f F (drop p o) ≡ g
            → Says F o
            (on_got g
            (λ n c. cond (leb n (length o - (p + c))) (cond (leb n block_most) (Ok (place_of delta (p + c) (p + c + n))) (Err OutOfRange)) (Err Unreadable))
            (Err Unreadable))
        go (Some (n, c)) q = sized n c q (leb n (length o - (p + c))) (leb n block_most) refl refl
        go None q = cut_off (block-cut p e q)

  module _ (id p : ℕ) (h : header_reads F o ≡ true) (i : header_id F o ≡ id) (e : length_at F o ≡ p) where
    kinds : (x y : Bool) → eqb id 23 ≡ x → eqb id 25 ≡ y → Says F o (cond x (block_f F o p false) (cond y (block_f F o p true) (Err OtherHeader)))
    unfolding is_delta head_rungs
    kinds true y u v =
        let z : header_id F o ≡ 23 = i ∙ eqb-true _ _ u in
        block-says p false e (rw z) h (rw z)
    kinds false true u v =
        let z : header_id F o ≡ 25 = i ∙ eqb-true _ _ v in
        block-says p true e (rw z) h (rw z)
    kinds false false u v = sym (passed _ 12 _ _ _ h (broken _ 10 _ _ _ (rw (i, u, v))))

  -- every head says so
  pub head-is : Says F o (head_of F o)
  unfolding head_of number head_rungs
  head-is = go (read_f F (drop 0 o)) refl
    where
      go : (g : Option (ℕ × ℕ)) → read_f F (drop 0 o) ≡ g
          → Says F o
          (on_got g (λ id c. cond (eqb id 23) (block_f F o (0 + c) false) (cond (eqb id 25) (block_f F o (0 + c) true) (Err OtherHeader))) (Err Unreadable))
      go (Some (id, c)) q = kinds id (0 + c) (reads-is id c q) (id-is id c q) (length-at id c q) (eqb id 23) (eqb id 25) refl refl
      go None q = sym (broken _ 12 _ _ _ (reads-cut q))

  pub head-stopped : (r : Refusal) → head_of F o ≡ Err r → Stopped F o r
  head-stopped r e = subst (Says F o) e head-is

  pub head_opened : (p : Place) → head_of F o ≡ Ok p → Opened F o p
  head_opened p e = subst (Says F o) e head-is

-- Laws of one tuple: what the tests of `tuple_at` say of it, and where it lies. Assumes nothing.
use Prim.Native.Nat.{ℕ, ◌+◌, ◌-◌, ◌%◌, ◌≤◌, ◌<◌}
use native.Mathlib.Omega.{arith}
use mathlib.Core.Path.{◌≡◌, refl, sym, ◌∙◌, ap}
use mathlib.Core.Bool.{Bool, true, false, cond, ◌||◌}
use mathlib.Core.List.{List}
use borrow.Author.Tests.{le-leb, lt-leb, eq-eqb, ne_eqb, leb-true, eqb-true, eqb-false}
use lib.Dec.{leb, eqb}
use lib.ListN.{length, drop, length-drop}
use lib.Seq.{slice, length-slice}
use Rattle.laws.proofs.SliceLaws.{drop-slice}
use Rattle.wire.specs.declared.form.Row.{Row}
use Rattle.std.specs.Prelude.{Option, Some, None}
use Rattle.std.proofs.lemmas.Option.{none-some, some_pair_parts}
use Rattle.wire.specs.Varint.{read_f, read_at, shift, on_got}
use Rattle.wire.proofs.VarintLaws.{read-size}
use Rattle.wire.proofs.Reading.{cut-inv}
use Rattle.byte_parts.specs.declared.Part.{Part}
use Rattle.locmaf_read_block.specs.declared.tuples.Kind.TheVariants.{Scalar, Numbers, Raw, Records}
use Rattle.locmaf_read_block.specs.declared.tuples.Tuple.{Tuple}
use Rattle.locmaf_read_block.specs.Tuples.{part, kind_of, part_of, tuple, body_f, tuple_f, tuple_at}
use Rattle.locmaf_read_block.proofs.ReadLaws.{Found}

module _ (F : List Row) (s : List ℕ) (at end : ℕ) where
  pub inside : end ≤ length s → tuple_at F s at end ≡ tuple_f F at (slice at end s)
  unfolding tuple_at
  inside h = rw (le-leb _ _ h)

  -- there is no id
  pub no-id : None ≡ read_at F s at end → None ≡ tuple_at F s at end
  unfolding tuple_at tuple_f read_at
  no-id e = go (leb end (length s)) refl e
    where
      one : (g : Option (ℕ × ℕ)) → read_f F (slice at end s) ≡ g → None ≡ shift at g → None ≡ on_got (read_f F (slice at end s)) (λ id k. body_f F id (at + k) (drop k (slice at end s))) None
      one (Some (v, k)) q d = cc
      one None q d = rw q

      go : (b : Bool) → leb end (length s) ≡ b → None ≡ cond b (shift at (read_f F (slice at end s))) None
          → None ≡ cond b (on_got (read_f F (slice at end s)) (λ id k. body_f F id (at + k) (drop k (slice at end s))) None) None
      go true q d = one (read_f F (slice at end s)) refl d
      go false q d = refl

  module _ (id p : ℕ) (i : Found F s at end id p) where
    body : tuple_at F s at end ≡ body_f F id p (slice p end s)
    unfolding tuple_f
    body = inside i.inside ∙ rw (i.read, drop-slice at end i.size s, ← i.place)

    -- there is no number behind it
    pub no_body : None ≡ read_at F s p end → None ≡ tuple_at F s at end
    unfolding body_f
    no_body f = sym (body ∙ rw (cut-inv F s p end i.inside f))

    module _ (n q : ℕ) (j : Found F s p end n q) where
      left : length (drop j.size (slice p end s)) ≡ end - q
      left = ap length (drop-slice p end j.size s) ∙ rw (← j.place) (length-slice q end s i.inside)

      -- a scalar
      pub even : id % 2 ≡ 0 → Some (tuple id n (part p (q - p)), q) ≡ tuple_at F s at end
      unfolding body_f
      even t = let d : q - p ≡ j.size = omega (arith, j.place) in sym (body ∙ rw (j.read, eq-eqb _ _ t, d, ← j.place))

      -- a length past the end
      pub long : (id % 2 ≡ 0 → ⊥) → end - q < n → None ≡ tuple_at F s at end
      unfolding body_f
      long t lt =
          let l : length (drop j.size (slice p end s)) < n = omega (arith, left) in
          sym (body ∙ rw (j.read, ne_eqb _ _ t, lt-leb _ _ l))

      -- a length and its bytes
      pub odd : (id % 2 ≡ 0 → ⊥) → n ≤ end - q → Some (tuple id n (part q n), q + n) ≡ tuple_at F s at end
      unfolding body_f
      odd t le =
          let l : n ≤ length (drop j.size (slice p end s)) = omega (arith, left) in
          sym (body ∙ rw (j.read, ne_eqb _ _ t, le-leb _ _ l, ← j.place))

-- whatever the kind, the part is the one that was put in
pub part-kind : (id : ℕ) (p : Part) → part_of (kind_of id p) ≡ p
unfolding kind_of
part-kind id p = go (eqb (id % 2) 0) (eqb id 25) (eqb id 9 || eqb id 23)
  where
    go : (a b c : Bool) → part_of (cond a (Scalar p) (cond b (Records p) (cond c (Raw p) (Numbers p)))) ≡ p
    go true b c = refl
    go false true c = refl
    go false false true = refl
    go false false false = refl

-- what is known of a tuple that was read off the front of s, which starts at the place at: its part ends where the tuple ends, within the bytes
-- that were there; it takes at least two bytes; a scalar's part is its varint, and any other's is as long as the number says
pub record Spans (F : List Row) (at : ℕ) (s : List ℕ) (t : Tuple) (next : ℕ) : Type 0 where
  pub two : at + 2 ≤ next
  pub starts : at < (part_of t.kind).at
  pub ends : (part_of t.kind).at + (part_of t.kind).len ≡ next
  pub within : next ≤ at + length s
  pub kind : t.kind ≡ kind_of t.id (part_of t.kind)
  pub scalar : t.id % 2 ≡ 0 → read_f F (drop ((part_of t.kind).at - at) s) ≡ Some (t.number, (part_of t.kind).len)
  pub held : (t.id % 2 ≡ 0 → ⊥) → (part_of t.kind).len ≡ t.number

pub spans : (F : List Row) (at : ℕ) (s : List ℕ) (t : Tuple) (next : ℕ) → tuple_f F at s ≡ Some (t, next) → Spans F at s t next
unfolding tuple_f body_f
spans F at s t next e = first (read_f F s) refl e
  where
    Gives : Option (Tuple × ℕ) → Type 0
    Gives o = o ≡ Some (t, next)

    never : {X : Type 0} → Gives None → X
    never r = absurd (none-some _ r)

    -- from the part of what was found
    of : (id n p l : ℕ) → at + 1 ≤ p → at + 2 ≤ p + l → p + l ≤ at + length s
        → (id % 2 ≡ 0 → read_f F (drop (p - at) s) ≡ Some (n, l)) → ((id % 2 ≡ 0 → ⊥) → l ≡ n)
        → Gives (Some (tuple id n (part p l), p + l)) → Spans F at s t next
    of id n p l h₁ h₂ h₃ h₄ h₅ r =
        let w = some_pair_parts (tuple id n (part p l)) t (p + l) next r in
        let q : part_of (kind_of id (part p l)) ≡ part p l = part-kind id (part p l) in
        rw (← w.0, ← w.1)
        (record {
          two = omega arith;
          starts = rw q (omega arith);
          ends = rw q;
          within = omega arith;
          kind = rw q;
          scalar = λ u. rw q (h₄ u);
          held = λ u. rw q (h₅ u);
        })

    third : (id k j n : ℕ) → 0 < k → 0 < j → k ≤ length s → j ≤ length s - k → read_f F (drop k s) ≡ Some (n, j)
        → (a b : Bool) → eqb (id % 2) 0 ≡ a → leb n (length (drop j (drop k s))) ≡ b
        → Gives (cond a (Some (tuple id n (part (at + k) j), at + k + j)) (cond b (Some (tuple id n (part (at + k + j) n), at + k + j + n)) None))
        → Spans F at s t next
    third id k j n k₀ j₀ h₂ h₃ g true b o q r =
        let m : at + k - at ≡ k = omega arith in
        of id n (at + k) j (omega arith) (omega arith) (omega arith) (λ u. rw m g) (λ u. absurd (u (eqb-true _ _ o))) r
    third id k j n k₀ j₀ h₂ h₃ g false true o q r =
        let l : n ≤ length (drop j (drop k s)) = leb-true _ _ q in
        let l' : n ≤ length s - k - j = omega (arith, length-drop j (drop k s), length-drop k s) in
        of id n (at + k + j) n (omega arith) (omega arith) (omega arith) (λ u. absurd (eqb-false _ _ o u)) (λ u. refl) r
    third id k j n k₀ j₀ h₂ h₃ g false false o q r = never r

    second : (id k : ℕ) → 0 < k → k ≤ length s → (g : Option (ℕ × ℕ)) → read_f F (drop k s) ≡ g
        → Gives (on_got g
        (λ n j.
        cond (eqb (id % 2) 0) (Some (tuple id n (part (at + k) j), at + k + j))
        (cond (leb n (length (drop j (drop k s)))) (Some (tuple id n (part (at + k + j) n), at + k + j + n)) None))
        None)
        → Spans F at s t next
    second id k h₁ h₂ (Some (n, j)) q r =
        let z = read-size F (drop k s) n j q in
        third id k j n h₁ z.0 h₂ (omega (arith, z.1, length-drop k s)) q (eqb (id % 2) 0) (leb n (length (drop j (drop k s)))) refl refl r
    second id k h₁ h₂ None q r = never r

    first : (g : Option (ℕ × ℕ)) → read_f F s ≡ g → Gives (on_got g (λ id k. body_f F id (at + k) (drop k s)) None) → Spans F at s t next
    first (Some (id, k)) q r = let z = read-size F s id k q in second id k z.0 z.1 (read_f F (drop k s)) refl r
    first None q r = never r

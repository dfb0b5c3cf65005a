-- What is answered of a block is what its entries say, whatever order they stand in. Assumes nothing.
use Prim.Native.Nat.{ℕ, zero, suc, ◌+◌, ◌≤◌}
use native.Mathlib.Nat.{add-zero}
use native.Mathlib.Omega.{arith}
use mathlib.Core.Path.{◌≡◌, refl, sym, ◌∙◌, ap}
use mathlib.Core.Bool.{Bool, true, false, cond, not, ◌&&◌, ◌||◌, and-false, and-true}
use mathlib.Core.List.{List, [], ◌∷◌}
use mathlib.Core.Logic.{◌⊎◌, inl, inr}
use borrow.Author.Tests.{eqb-true, eqb-false, ne_eqb}
use lib.Dec.{eqb}
use lib.ListN.{length, get_or, replicate}
use lib.Seq.{slice}
use Rattle.locmaf_read_index.specs.Places.{index_len, stands_at}
use Rattle.laws.specs.Tests.{◌and◌}
use Rattle.wire.specs.declared.form.Row.{Row}
use Rattle.locmaf_read_block.specs.declared.tuples.Tuple.{Tuple}
use Rattle.std.specs.Prelude.{Option, Some, None, option_map}
use Rattle.locmaf_read_index.specs.declared.index.Indexed.TheVariants.{Clean, Stray, Cut}
use Rattle.locmaf_read_block.specs.Front.{Series, wholly}
use Rattle.locmaf_read_block.specs.Tuples.{part_of, tuples_run, tuples_f, bytes_of}
use Rattle.locmaf_read_block.specs.Entries.{known, Entry, content, contents, entries_at, body, readable, member, lawful}
use Rattle.locmaf_read_index.specs.Index.{weighed, heard, fresh, noted, index, told, indexed, index_at}
use Rattle.locmaf_read_index.specs.Held.{answer_of}
use Rattle.laws.specs.Options.{is_some, on_option}
use Rattle.locmaf_read_index.proofs.NoteLaws.{noted-cell, noted_other}
use Rattle.laws.specs.Each.{AllOf}
use Rattle.locmaf_read_block.proofs.TupleRuns.{Proper, all-proper}
use Rattle.locmaf_read_index.proofs.BodyLaws.{kind-readable}
use Rattle.locmaf_read_index.proofs.IndexLoop.{noted-length}

-- each id is fresh, and none stands twice
unfoldable pub fresh_all : List ℕ → List Entry → Bool
fresh_all words [] = true
fresh_all words (e ∷ es) = fresh words e.id and not (member e.id es) and fresh_all words es

module _ (words : List ℕ) (t : Tuple) (count : ℕ) (l : length words ≡ index_len) (f : fresh words t.id ≡ true) where
  -- after a tuple was noted its id is fresh no more, and the others are as they were
  fresh-noted : (id : ℕ) → fresh (noted words t count) id ≡ not (eqb id t.id) && fresh words id
  unfolding fresh
  fresh-noted id = go (eqb id t.id) refl
    where
      go : (b : Bool) → eqb id t.id ≡ b
          → known id && eqb (get_or (noted words t count) (stands_at id) 0) 0 ≡ not b && (known id && eqb (get_or words (stands_at id) 0) 0)
      go true q =
          let e : id ≡ t.id = eqb-true _ _ q in
          rw (e, (noted-cell words t count l f).one, ne_eqb ((part_of t.kind).at + 1) 0 (λ z. omega arith), and-false)
      go false q =
          let e : t.id ≡ id → ⊥ = λ z. eqb-false _ _ q (sym z) in
          let o : get_or (noted words t count) (stands_at id) 0 ≡ get_or words (stands_at id) 0 = rw add-zero at (noted_other words t count id 0 e (omega arith)) in
          rw o

  pub fresh-rest : (es : List Entry) → fresh_all (noted words t count) es ≡ (not (member t.id es) and fresh_all words es)
  unfolding fresh_all member ◌and◌
  fresh-rest [] = refl
  fresh-rest (e ∷ es) =
      rw (fresh-noted e.id, fresh-rest es)
      (go (eqb e.id t.id) (fresh words e.id) (not (member e.id es)) (member t.id es) (fresh_all words es))
    where
      go : (a b c d r : Bool) → ((not a && b) and c and not d and r) ≡ (not (a || d) and b and c and r)
      go true b c d r = refl
      go false true true true r = refl
      go false true true false r = refl
      go false true false true r = refl
      go false true false false r = refl
      go false false c true r = refl
      go false false c false r = refl

module _ (F : List Row) (s : List ℕ) (end : ℕ) (h : end ≤ length s) where
  -- a tuple is cut just where its entry isn't readable
  pub entry-readable : (t : Tuple) → Proper F s end t → is_some (body F t.id (bytes_of s (part_of t.kind))) ≡ is_some (weighed F s t.kind)
  entry-readable t p =
      kind-readable F s t.id t.number (part_of t.kind) (omega (arith, p.inside)) p.scalar
      ∙ sym (ap (λ k. is_some (weighed F s k)) p.kind)

  answer-is : (ts : List Tuple) → AllOf (Proper F s end) ts → (whole clean : Bool) (words events : List ℕ) → length words ≡ index_len
      → (indexed F s ts whole clean words events).answer
      ≡ cond (whole && readable F (contents s ts)) (told (fresh_all words (contents s ts) && clean)) Cut
  unfolding indexed readable fresh_all content ◌and◌
  answer-is [] a true clean words events l = refl
  answer-is [] a false clean words events l = refl
  answer-is (t ∷ ts) a whole clean words events l =
      go (weighed F s t.kind) refl
      (λ k. answer-is ts a.1 whole (fresh words t.id && clean) (noted words t k) (heard F s t.kind events) (noted-length words t k ∙ l))
    where
      rest : Bool
      rest = fresh_all words (contents s ts)

      flags : (k : ℕ) (b : Bool) → fresh words t.id ≡ b
          → fresh_all (noted words t k) (contents s ts) && (b && clean) ≡ (b and not (member t.id (contents s ts)) and rest) && clean
      flags k true q = ap (λ (z : Bool). z && clean) (fresh-rest words t k l q (contents s ts))
      flags k false q = and-false (fresh_all (noted words t k) (contents s ts))

      go : (c : Option ℕ) → weighed F s t.kind ≡ c
          → ((k : ℕ)
          → (indexed F s ts whole (fresh words t.id && clean) (noted words t k) (heard F s t.kind events)).answer
          ≡ cond (whole && readable F (contents s ts)) (told (fresh_all (noted words t k) (contents s ts) && (fresh words t.id && clean))) Cut)
          → (on_option c
          (λ k. indexed F s ts whole (fresh words t.id && clean) (noted words t k) (heard F s t.kind events))
          (index Cut words (heard F s t.kind events))
          ).answer
          ≡ cond (whole && (is_some (body F t.id (bytes_of s (part_of t.kind))) and readable F (contents s ts)))
          (told ((fresh words t.id and not (member t.id (contents s ts)) and rest) && clean))
          Cut
      go (Some k) q ih =
          let r : is_some (body F t.id (bytes_of s (part_of t.kind))) ≡ true = entry-readable t a.0 ∙ ap is_some q in
          rw (r, ← flags k (fresh words t.id) refl) (ih k)
      go None q ih =
          let r : is_some (body F t.id (bytes_of s (part_of t.kind))) ≡ false = entry-readable t a.0 ∙ ap is_some q in
          rw (r, and-false whole)

-- in words that say nothing yet, fresh is known
abbrev pub Blank : List ℕ → Type 0
Blank words = (i : ℕ) → get_or words i 0 ≡ 0

pub blank-zeros : (n : ℕ) → Blank (replicate n 0)
blank-zeros zero i = refl
blank-zeros (suc n) zero = refl
blank-zeros (suc n) (suc i) = blank-zeros n i

pub fresh-lawful : (words : List ℕ) → Blank words → (es : List Entry) → fresh_all words es ≡ lawful es
unfolding fresh_all lawful fresh
fresh-lawful words z [] = refl
fresh-lawful words z (e ∷ es) = rw (z (stands_at e.id), and-true, fresh-lawful words z es)

-- the answer of a block: Cut exactly if it doesn't split into tuples or an entry isn't readable, Stray exactly if all is readable and an id is
-- unknown or stands twice, Clean otherwise
pub index-answer : (F : List Row) (s : List ℕ) (at end : ℕ) (words events : List ℕ) → end ≤ length s → length words ≡ index_len → Blank words
    → (index_at F s at end words events).answer ≡ answer_of F (entries_at F s at end)
unfolding index_at entries_at tuples_f wholly answer_of
index-answer F s at end words events h l z =
    answer-is F s end h r.items (all-proper F s end h at) r.whole true words events l ∙ go r.whole
  where
    r : Series Tuple
    r = tuples_run F at (slice at end s)

    go : (w : Bool)
        → cond (w && readable F (contents s r.items)) (told (fresh_all words (contents s r.items) && true)) Cut
        ≡ answer_of F (option_map (contents s) (cond w (Some r.items) None))
    go true = rw (and-true, fresh-lawful words z (contents s r.items))
    go false = refl

-- the three answers, each with what it says
module _ (F : List Row) (o : Option (List Entry)) where
  pub answer-clean : answer_of F o ≡ Clean → (es : List Entry) × (o ≡ Some es) × (readable F es ≡ true) × (lawful es ≡ true)
  unfolding answer_of
  answer-clean e = go o refl e
    where
      one : (es : List Entry) → o ≡ Some es → (b c : Bool) → readable F es ≡ b → lawful es ≡ c → cond b (told c) Cut ≡ Clean
          → (us : List Entry) × (o ≡ Some us) × (readable F us ≡ true) × (lawful us ≡ true)
      one es q true true r t d = (es, q, r, t)
      one es q true false r t d = cc
      one es q false c r t d = cc

      go : (p : Option (List Entry)) → o ≡ p → answer_of F p ≡ Clean → (es : List Entry) × (o ≡ Some es) × (readable F es ≡ true) × (lawful es ≡ true)
      go None q d = cc
      go (Some es) q d = one es q (readable F es) (lawful es) refl refl d

  pub answer-stray : answer_of F o ≡ Stray → (es : List Entry) × (o ≡ Some es) × (readable F es ≡ true) × (lawful es ≡ false)
  unfolding answer_of
  answer-stray e = go o refl e
    where
      one : (es : List Entry) → o ≡ Some es → (b c : Bool) → readable F es ≡ b → lawful es ≡ c → cond b (told c) Cut ≡ Stray
          → (us : List Entry) × (o ≡ Some us) × (readable F us ≡ true) × (lawful us ≡ false)
      one es q true true r t d = cc
      one es q true false r t d = (es, q, r, t)
      one es q false c r t d = cc

      go : (p : Option (List Entry)) → o ≡ p → answer_of F p ≡ Stray → (es : List Entry) × (o ≡ Some es) × (readable F es ≡ true) × (lawful es ≡ false)
      go None q d = cc
      go (Some es) q d = one es q (readable F es) (lawful es) refl refl d

  pub answer-cut : answer_of F o ≡ Cut → (o ≡ None) ⊎ ((es : List Entry) × (o ≡ Some es) × (readable F es ≡ false))
  unfolding answer_of
  answer-cut e = go o refl e
    where
      one : (es : List Entry) → o ≡ Some es → (b c : Bool) → readable F es ≡ b → cond b (told c) Cut ≡ Cut
          → (o ≡ None) ⊎ ((us : List Entry) × (o ≡ Some us) × (readable F us ≡ false))
      one es q true true r d = cc
      one es q true false r d = cc
      one es q false c r d = inr (es, q, r)

      go : (p : Option (List Entry)) → o ≡ p → answer_of F p ≡ Cut → (o ≡ None) ⊎ ((es : List Entry) × (o ≡ Some es) × (readable F es ≡ false))
      go None q d = inl q
      go (Some es) q d = one es q (readable F es) (lawful es) refl d

-- The words of each id and the events, once the tuples of a block have been noted. Assumes nothing.
use Prim.Native.Nat.{ℕ, ◌+◌, ◌%◌, ◌≤◌, ◌<◌}
use native.Mathlib.Nat.{add-zero}
use native.Mathlib.Omega.{arith}
use mathlib.Core.Path.{◌≡◌, refl, sym, ◌∙◌, ap, subst}
use mathlib.Core.Bool.{Bool, true, false, cond, not, ◌&&◌, ◌||◌}
use mathlib.Core.List.{List, [], ◌∷◌}
use borrow.Author.Tests.{eqb-true, eqb-false, not-true}
use lib.Dec.{eqb}
use lib.ListN.{length, get_or}
use Rattle.locmaf_read_index.specs.Places.{index_len, stands_at}
use Rattle.laws.proofs.TestLaws.{left, right, both}
use Rattle.wire.specs.declared.form.Row.{Row}
use Rattle.byte_parts.specs.declared.Part.{Part}
use Rattle.locmaf_read_block.specs.declared.tuples.Kind.TheVariants.{Scalar, Numbers, Raw, Records}
use Rattle.locmaf_read_block.specs.declared.tuples.Tuple.{Tuple}
use Rattle.std.specs.Prelude.{Option, Some, None, option_map}
use Rattle.locmaf_read_block.specs.Tuples.{kind_of, part_of, bytes_of}
use Rattle.locmaf_read_index.specs.Index.{weighed, heard, fresh, noted, indexed}
use Rattle.locmaf_read_block.specs.Entries.{content, contents, readable, member, entry}
use Rattle.locmaf_read_index.proofs.NoteLaws.{Cell, noted-cell, noted_other}
use Rattle.laws.specs.Each.{AllOf}
use Rattle.locmaf_read_block.proofs.TupleRuns.{Proper}
use Rattle.locmaf_read_index.proofs.IndexLoop.{noted-length}
use Rattle.locmaf_read_index.proofs.AnswerLaws.{fresh_all, fresh-rest, entry-readable}
use Rattle.laws.specs.Options.{is_some}

-- the first tuple of an id
unfoldable pub lookup : ℕ → List Tuple → Option Tuple
lookup id [] = None
lookup id (t ∷ ts) = cond (eqb t.id id) (Some t) (lookup id ts)

pub entry-lookup : (s : List ℕ) (id : ℕ) (ts : List Tuple) → entry id (contents s ts) ≡ option_map (λ t. bytes_of s (part_of t.kind)) (lookup id ts)
unfolding entry lookup content
entry-lookup s id [] = refl
entry-lookup s id (t ∷ ts) = go (eqb t.id id) (entry-lookup s id ts)
  where
    go : (b : Bool) → entry id (contents s ts) ≡ option_map (λ u. bytes_of s (part_of u.kind)) (lookup id ts)
        → cond b (Some (bytes_of s (part_of t.kind))) (entry id (contents s ts))
        ≡ option_map (λ u. bytes_of s (part_of u.kind)) (cond b (Some t) (lookup id ts))
    go true ih = refl
    go false ih = ih

lookup-none : (s : List ℕ) (id : ℕ) (ts : List Tuple) → member id (contents s ts) ≡ false → lookup id ts ≡ None
unfolding member lookup content
lookup-none s id [] e = refl
lookup-none s id (t ∷ ts) e = go (eqb t.id id) (λ q. lookup-none s id ts q) e
  where
    go : (b : Bool) → (member id (contents s ts) ≡ false → lookup id ts ≡ None) → b || member id (contents s ts) ≡ false
        → cond b (Some t) (lookup id ts) ≡ None
    go true ih q = cc
    go false ih q = ih q

whole_of : (c : Option ℕ) → is_some c ≡ true → (k : ℕ) × (c ≡ Some k)
whole_of (Some k) e = (k, refl)
whole_of None e = cc

-- what is known of a block's tuples that are readable and fresh: the first, and the others in the words that it leaves
record First (F : List Row) (s : List ℕ) (end : ℕ) (t : Tuple) (ts : List Tuple) (words : List ℕ) : Type 0 where
  count : ℕ
  weight : weighed F s t.kind ≡ Some count
  new : fresh words t.id ≡ true
  alone : member t.id (contents s ts) ≡ false
  others : readable F (contents s ts) ≡ true
  rest : fresh_all (noted words t count) (contents s ts) ≡ true

module _ (F : List Row) (s : List ℕ) (end : ℕ) (h : end ≤ length s) where
  first_of : (t : Tuple) (ts : List Tuple) (words : List ℕ) → Proper F s end t → length words ≡ index_len
      → readable F (contents s (t ∷ ts)) ≡ true → fresh_all words (contents s (t ∷ ts)) ≡ true → First F s end t ts words
  unfolding readable fresh_all content
  first_of t ts words p l r f =
      let w = whole_of (weighed F s t.kind) (sym (entry-readable F s end h t p) ∙ left _ _ r) in
      let n : fresh words t.id ≡ true = left _ _ f in
      let m : not (member t.id (contents s ts)) ≡ true = left _ _ (right _ _ f) in
      let o : fresh_all words (contents s ts) ≡ true = right _ _ (right _ _ f) in
      record {
        count = w.0;
        weight = w.1;
        new = n;
        alone = not-true _ m;
        others = right _ _ r;
        rest = fresh-rest words t w.0 l n (contents s ts) ∙ both _ _ m o;
      }

  -- what the words of an id are in the end, by the first tuple of the id
  abbrev pub CellOf : List ℕ → List ℕ → ℕ → Option Tuple → Type 0
  CellOf after words id None = (i : ℕ) → i < 3 → get_or after (stands_at id + i) 0 ≡ get_or words (stands_at id + i) 0
  CellOf after words id (Some t) =
      (k : ℕ) × (weighed F s t.kind ≡ Some k) × Cell after id ((part_of t.kind).at + 1) t.number k × Proper F s end t × (t.id ≡ id)

  pub cells : (ts : List Tuple) → AllOf (Proper F s end) ts → (whole clean : Bool) (words events : List ℕ) → length words ≡ index_len
      → readable F (contents s ts) ≡ true → fresh_all words (contents s ts) ≡ true
      → (id : ℕ) → CellOf (indexed F s ts whole clean words events).words words id (lookup id ts)
  unfolding indexed lookup
  cells [] a true clean words events l r f id = λ i k. refl
  cells [] a false clean words events l r f id = λ i k. refl
  cells (t ∷ ts) a whole clean words events l r f id =
      let o = first_of t ts words a.0 l r f in
      rw o.weight
      (go o (eqb t.id id) refl (lookup id ts) refl _
      (cells ts a.1 whole (fresh words t.id && clean) (noted words t o.count) (heard F s t.kind events) (noted-length words t o.count ∙ l)
      o.others
      o.rest
      id))
    where
      -- the words of an id that doesn't come again
      last : (o : First F s end t ts words) → t.id ≡ id → (after : List ℕ) → CellOf after (noted words t o.count) id None → CellOf after words id (Some t)
      last o e after c =
          let n : Cell (noted words t o.count) id ((part_of t.kind).at + 1) t.number o.count =
          subst (λ (m : ℕ). Cell (noted words t o.count) m ((part_of t.kind).at + 1) t.number o.count) e (noted-cell words t o.count l o.new) in
          let z : get_or after (stands_at id) 0 ≡ get_or (noted words t o.count) (stands_at id) 0 = rw add-zero at (c 0 (omega arith)) in (
            o.count,
            o.weight,
            record { one = z ∙ n.one; two = c 1 (omega arith) ∙ n.two; three = c 2 (omega arith) ∙ n.three },
            a.0,
            e,
          )

      go : (o : First F s end t ts words) (b : Bool) → eqb t.id id ≡ b → (u : Option Tuple) → lookup id ts ≡ u → (after : List ℕ)
          → CellOf after (noted words t o.count) id u → CellOf after words id (cond b (Some t) u)
      go o true q None e after c = last o (eqb-true _ _ q) after c
      go o true q (Some u) e after c =
          let n : lookup id ts ≡ None = lookup-none s id ts (subst (λ (m : ℕ). member m (contents s ts) ≡ false) (eqb-true _ _ q) o.alone) in
          cc
      go o false q None e after c = λ i k. c i k ∙ noted_other words t o.count id i (eqb-false _ _ q) k
      go o false q (Some u) e after c = c

  -- what the events are in the end, by the first tuple of id 25
  abbrev pub EventsOf : List ℕ → List ℕ → Option Tuple → Type 0
  EventsOf after events None = after ≡ events
  EventsOf after events (Some t) = after ≡ heard F s t.kind events

  heard-other : (id : ℕ) (p : Part) (events : List ℕ) → (id ≡ 25 → ⊥) → heard F s (kind_of id p) events ≡ events
  unfolding heard kind_of
  heard-other id p events other = go (eqb (id % 2) 0) (eqb id 25) refl (eqb id 9 || eqb id 23)
    where
      go : (a b : Bool) → eqb id 25 ≡ b → (c : Bool) → heard F s (cond a (Scalar p) (cond b (Records p) (cond c (Raw p) (Numbers p)))) events ≡ events
      go true b q c = refl
      go false true q c = absurd (other (eqb-true _ _ q))
      go false false q true = refl
      go false false q false = refl

  pub heard-at : (ts : List Tuple) → AllOf (Proper F s end) ts → (whole clean : Bool) (words events : List ℕ) → length words ≡ index_len
      → readable F (contents s ts) ≡ true → fresh_all words (contents s ts) ≡ true
      → EventsOf (indexed F s ts whole clean words events).events events (lookup 25 ts)
  unfolding indexed lookup
  heard-at [] a true clean words events l r f = refl
  heard-at [] a false clean words events l r f = refl
  heard-at (t ∷ ts) a whole clean words events l r f =
      let o = first_of t ts words a.0 l r f in
      rw o.weight
      (go o (eqb t.id 25) refl (lookup 25 ts) refl _
      (heard-at ts a.1 whole (fresh words t.id && clean) (noted words t o.count) (heard F s t.kind events) (noted-length words t o.count ∙ l)
      o.others
      o.rest))
    where
      go : (o : First F s end t ts words) (b : Bool) → eqb t.id 25 ≡ b → (u : Option Tuple) → lookup 25 ts ≡ u → (after : List ℕ)
          → EventsOf after (heard F s t.kind events) u → EventsOf after events (cond b (Some t) u)
      go o true q None e after c = c
      go o true q (Some u) e after c =
          let n : lookup 25 ts ≡ None = lookup-none s 25 ts (subst (λ (m : ℕ). member m (contents s ts) ≡ false) (eqb-true _ _ q) o.alone) in
          cc
      go o false q u e after c = same (heard F s t.kind events) (ap (λ k. heard F s k events) a.0.kind ∙ heard-other t.id (part_of t.kind) events (eqb-false _ _ q)) u c
        where
          same : (x : List ℕ) → x ≡ events → (v : Option Tuple) → EventsOf after x v → EventsOf after events v
          same x e None c = c ∙ e
          same x e (Some v) c = c ∙ ap (heard F s v.kind) e

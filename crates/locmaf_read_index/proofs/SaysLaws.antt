-- The words of the index tell what the entries say. Assumes nothing.
use Prim.Native.Nat.{ℕ, ◌+◌, ◌%◌, ◌≤◌}
use native.Mathlib.Omega.{arith}
use mathlib.Core.Path.{◌≡◌, refl, sym, ◌∙◌, ap, subst}
use mathlib.Core.Bool.{Bool, true, false, cond, false≢true}
use mathlib.Core.List.{List, [], ◌∷◌}
use borrow.Author.Tests.{eq-eqb}
use lib.ListN.{length, get_or, take}
use lib.Seq.{slice, sets}
use Rattle.constants.specs.Maxima.{events_most}
use Rattle.locmaf_read_index.specs.Places.{index_len, stands_at, number_at, many_at}
use Rattle.wire.specs.declared.form.Row.{Row}
use Rattle.byte_parts.specs.declared.Part.{Part}
use Rattle.locmaf_read_block.specs.declared.tuples.Kind.TheVariants.{Records}
use Rattle.locmaf_read_block.specs.declared.tuples.Tuple.{Tuple}
use Rattle.std.specs.Prelude.{Some, Option, None, option_map}
use Rattle.locmaf_read_block.specs.declared.records.Record.{Record}
use Rattle.locmaf_read_block.specs.Front.{Series, wholly}
use Rattle.locmaf_read_block.specs.Tuples.{kind_of, part_of, tuples_run, tuples_f, bytes_of}
use Rattle.locmaf_read_block.specs.Numbers.{numbers_f}
use Rattle.locmaf_read_block.specs.Records.{records_run, records_f, words_of}
use Rattle.locmaf_read_index.specs.Index.{weighed, heard, Index, indexed, index_at}
use Rattle.locmaf_read_block.specs.Entries.{Entry, contents, entries_at, body, readable, lawful, entry, says}
use Rattle.locmaf_read_index.specs.Held.{HeldAs, Tells}
use Rattle.laws.specs.Options.{on_option, is_some}
use Rattle.locmaf_read_index.proofs.NoteLaws.{Cell}
use Rattle.laws.specs.Each.{AllOf}
use Rattle.locmaf_read_block.proofs.TupleRuns.{Proper, all-proper}
use Rattle.locmaf_read_index.proofs.BodyLaws.{kind-count, records-counted}
use Rattle.locmaf_read_index.proofs.AnswerLaws.{Blank, fresh_all, fresh-lawful, entry-readable}
use Rattle.locmaf_read_index.proofs.CellLaws.{lookup, entry-lookup, CellOf, cells, EventsOf, heard-at}

module _ (F : List Row) (s : List ℕ) (end : ℕ) (h : end ≤ length s) where
  -- a scalar's body is its varint
  body-even : (id : ℕ) (bs : List ℕ) → id % 2 ≡ 0 → body F id bs ≡ numbers_f F bs
  unfolding body
  body-even id bs e = rw (eq-eqb _ _ e)

  kind-records : (id : ℕ) (p : Part) → id ≡ 25 → kind_of id p ≡ Records p
  unfolding kind_of
  kind-records id p e = rw e

  heard-records : (p : Part) (events : List ℕ) (rs : List Record) → (records_run F p.at (bytes_of s p)).items ≡ rs
      → heard F s (Records p) events ≡ sets events 0 (words_of (take events_most rs))
  unfolding heard
  heard-records p events rs e = rw e

  -- the words of a tuple, and its events where it is the one of id 25, tell what its bytes say
  held-as : (t : Tuple) (k : ℕ) (words before events zs : List ℕ) → Proper F s end t → weighed F s t.kind ≡ Some k
      → Cell words t.id ((part_of t.kind).at + 1) t.number k → (t.id ≡ 25 → events ≡ heard F s t.kind before)
      → body F t.id (bytes_of s (part_of t.kind)) ≡ Some zs → HeldAs F s end words before events t.id zs
  held-as t k words before events zs p w c ev b =
      record {
        place = q.at;
        first = c.one;
        scalar = λ u. even (sym (body-even t.id (bytes_of s q) u ∙ p.scalar u) ∙ b);
        inside = λ u. rw c.two (omega (arith, p.inside, p.held u));
        bytes = λ u. rw (c.two, ← p.held u) b;
        count = λ u. c.three ∙ kind-count F s t.id t.number q (omega (arith, p.inside)) p.scalar k zs u (sym (ap (weighed F s) p.kind) ∙ w) b;
        records = λ u. listed u;
      }
    where
      q : Part
      q = part_of t.kind

      even : Some (t.number ∷ []) ≡ Some zs → zs ≡ get_or words (number_at t.id) 0 ∷ []
      even e = let x : zs ≡ t.number ∷ [] = cc in x ∙ ap (λ (m : ℕ). m ∷ []) (sym c.two)

      listed : t.id ≡ 25
          → (rs : List Record)
          × (records_f F q.at (slice q.at (q.at + get_or words (number_at t.id) 0) s) ≡ Some rs)
          × (get_or words (many_at t.id) 0 ≡ length rs)
          × (events ≡ sets before 0 (words_of (take events_most rs)))
      listed u =
          let kind : t.kind ≡ Records q = p.kind ∙ kind-records t.id q u in
          let o : t.id % 2 ≡ 0 → ⊥ = λ z. omega arith in
          let g = records-counted F s t.id t.number q (omega (arith, p.inside)) p.scalar k (sym (ap (weighed F s) kind) ∙ w) in
          let l : get_or words (number_at t.id) 0 ≡ q.len = c.two ∙ sym (p.held o) in
          let r : records_f F q.at (slice q.at (q.at + get_or words (number_at t.id) 0) s) ≡ Some g.0 =
          ap (λ (m : ℕ). records_f F q.at (slice q.at (q.at + m) s)) l ∙ g.1 in
          (g.0, r, c.three ∙ g.2, ev u ∙ ap (λ x. heard F s x before) kind ∙ heard-records q before g.0 g.3)

  -- what the words of a block's index tell
  tells : (ts : List Tuple) → AllOf (Proper F s end) ts → (whole clean : Bool) (words events : List ℕ) → length words ≡ index_len → Blank words
      → readable F (contents s ts) ≡ true → fresh_all words (contents s ts) ≡ true
      → (id : ℕ) → let x = indexed F s ts whole clean words events in Tells F s end x.words events x.events id (says F (contents s ts) id)
  unfolding says
  tells ts a whole clean words events l z r f id =
      rw (entry-lookup s id ts) (go (lookup id ts) refl (cells F s end h ts a whole clean words events l r f id))
    where
      x : Index
      x = indexed F s ts whole clean words events

      hear : (t : Tuple) → lookup id ts ≡ Some t → id ≡ 25 → x.events ≡ heard F s t.kind events
      hear t e u =
          let m : lookup 25 ts ≡ Some t = subst (λ (n : ℕ). lookup n ts ≡ Some t) u e in
          subst (EventsOf F s end h x.events events) m (heard-at F s end h ts a whole clean words events l r f)

      one : (t : Tuple) (k : ℕ) → lookup id ts ≡ Some t → weighed F s t.kind ≡ Some k → Cell x.words id ((part_of t.kind).at + 1) t.number k
          → Proper F s end t → t.id ≡ id → (o : Option (List ℕ)) → body F id (bytes_of s (part_of t.kind)) ≡ o
          → Tells F s end x.words events x.events id o
      one t k e w c p i (Some zs) b =
          let back : id ≡ t.id = sym i in
          let c' : Cell x.words t.id ((part_of t.kind).at + 1) t.number k =
          subst (λ (n : ℕ). Cell x.words n ((part_of t.kind).at + 1) t.number k) back c in
          let b' : body F t.id (bytes_of s (part_of t.kind)) ≡ Some zs = subst (λ (n : ℕ). body F n (bytes_of s (part_of t.kind)) ≡ Some zs) back b in
          subst (λ (n : ℕ). HeldAs F s end x.words events x.events n zs) i
          (held-as t k x.words events x.events zs p w c' (λ u. hear t e (back ∙ u)) b')
      one t k e w c p i None b =
          let q : is_some (body F t.id (bytes_of s (part_of t.kind))) ≡ true = entry-readable F s end h t p ∙ ap is_some w in
          let v : is_some (body F t.id (bytes_of s (part_of t.kind))) ≡ false = ap (λ (n : ℕ). is_some (body F n (bytes_of s (part_of t.kind)))) i ∙ ap is_some b in
          absurd (false≢true (sym v ∙ q))

      go : (u : Option Tuple) → lookup id ts ≡ u → CellOf F s end h x.words words id u
          → Tells F s end x.words events x.events id (on_option (option_map (λ t. bytes_of s (part_of t.kind)) u) (body F id) None)
      go None e c = λ i k. c i k ∙ z (stands_at id + i)
      go (Some t) e c = one t c.0 e c.1 c.2 c.3 c.4 (body F id (bytes_of s (part_of t.kind))) refl

-- where a block is read and its ids are lawful, the words of each id tell what the entries say of it
pub index-says : (F : List Row) (s : List ℕ) (at end : ℕ) (words events : List ℕ) (es : List Entry)
    → end ≤ length s → length words ≡ index_len → Blank words → entries_at F s at end ≡ Some es → readable F es ≡ true → lawful es ≡ true
    → (id : ℕ) → let x = index_at F s at end words events in Tells F s end x.words events x.events id (says F es id)
unfolding index_at entries_at tuples_f wholly
index-says F s at end words events es h l z e r f id = go run.whole e
  where
    run : Series Tuple
    run = tuples_run F at (slice at end s)

    go : (w : Bool) → option_map (contents s) (cond w (Some run.items) None) ≡ Some es
        → let x = indexed F s run.items run.whole true words events in Tells F s end x.words events x.events id (says F es id)
    go true d =
        let q : contents s run.items ≡ es = cc in
        subst
        (λ (us : List Entry).
        let x = indexed F s run.items run.whole true words events in Tells F s end x.words events x.events id (says F us id))
        q
        (tells F s end h run.items (all-proper F s end h at) run.whole true words events l z (rw q r) (fresh-lawful words z (contents s run.items) ∙ rw q f) id)
    go false d = cc

-- and where no entry has id 25, the events are as they were
pub index-quiet : (F : List Row) (s : List ℕ) (at end : ℕ) (words events : List ℕ) (es : List Entry)
    → end ≤ length s → length words ≡ index_len → Blank words → entries_at F s at end ≡ Some es → readable F es ≡ true → lawful es ≡ true
    → entry 25 es ≡ None → (index_at F s at end words events).events ≡ events
unfolding index_at entries_at tuples_f wholly
index-quiet F s at end words events es h l z e r f n = go run.whole e
  where
    run : Series Tuple
    run = tuples_run F at (slice at end s)

    none_of : (o : Option Tuple) → option_map (λ t. bytes_of s (part_of t.kind)) o ≡ None → o ≡ None
    none_of None d = refl
    none_of (Some t) d = cc

    go : (w : Bool) → option_map (contents s) (cond w (Some run.items) None) ≡ Some es
        → (indexed F s run.items run.whole true words events).events ≡ events
    go true d =
        let q : contents s run.items ≡ es = cc in
        let m : lookup 25 run.items ≡ None = none_of (lookup 25 run.items) (sym (entry-lookup s 25 run.items) ∙ ap (entry 25) q ∙ n) in
        subst (EventsOf F s end h (indexed F s run.items run.whole true words events).events events) m
        (heard-at F s end h run.items (all-proper F s end h at) run.whole true words events l (rw q r)
        (fresh-lawful words z (contents s run.items) ∙ rw q f))
    go false d = cc

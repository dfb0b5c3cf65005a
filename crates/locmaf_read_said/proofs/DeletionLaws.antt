-- The ids that a delta deletes: which of them have a line, what marking one does, and the loop over those that id 27 lists. Assumes nothing.
use Prim.Native.Nat.{ℕ, zero, suc, ◌+◌, ◌-◌, ◌≤◌, ◌<◌}
use native.Mathlib.Nat.{add-zero, not-suc-le-zero, le_of_suc-le-suc}
use native.Mathlib.Omega.{arith}
use mathlib.Core.Path.{◌≡◌, refl, sym, ◌∙◌, ap}
use mathlib.Core.Bool.{Bool, true, false, false≢true, cond, not, ◌&&◌, ◌||◌}
use mathlib.Core.List.{List, [], ◌∷◌}
use borrow.Author.Tests.{eqb-true, eqb-false, eq-eqb, ne_eqb, leb-true, ltb-true}
use lib.Dec.{eqb, leb, ltb}
use lib.ListN.{length, get_or, set, replicate, length-set}
use lib.Seq.{slice, length-slice, get_or-set_same, get_or-set_other}
use Rattle.constants.specs.Ids.{id_count}
use Rattle.locmaf_read_index.specs.Places.{index_len, stands_at, number_at}
use Rattle.laws.specs.Tests.{◌and◌, among}
use Rattle.laws.proofs.TestLaws.{and_left, and_right}
use Rattle.laws.proofs.SliceLaws.{drop-slice, slice-none}
use Rattle.wire.specs.declared.form.Row.{Row}
use Rattle.std.specs.Prelude.{Some, None, Option}
use Rattle.std.proofs.lemmas.Option.{some_pair_parts}
use Rattle.wire.specs.Varint.{read_at}
use Rattle.wire.proofs.Reading.{cut-inv}
use Rattle.field_table.specs.declared.lines.Line.{Line}
use Rattle.field_table.specs.Lines.{every, lines, spare, line_for, line_number, set_len, line_count}
use Rattle.field_set.specs.Lawful.{has}
use Rattle.field_table.proofs.LineLaws.{every-at, line-count, shaped}
use Rattle.locmaf_read_block.specs.Numbers.{numbers_f}
use Rattle.locmaf_read_block.specs.Entries.{body}
use Rattle.locmaf_read_index.specs.Held.{HeldAs, Tells}
use Rattle.locmaf_read_index.proofs.AnswerLaws.{blank-zeros}
use Rattle.locmaf_read_block.proofs.ReadLaws.{Found}
use Rattle.locmaf_read_block.proofs.NumberLaws.{numbers-cut, numbers-empty, numbers-nil, numbers-inv, wholly-inv}
use Rattle.locmaf_read_said.specs.Said.{Says, says_in, Telling, Gone}
use Rattle.field_rules.specs.Fields.{numbers}
use Rattle.locmaf_read_said.specs.Deletions.{moof_field, is_none, deletions_ok, strikable, StruckAs, ListedAt, MarkedAs}

-- ---- the ids that have a line

-- an id that has a line: it is the line's, and the line is the one at its number
number-line : (d : ℕ) (ls : List Line) → line_number d ls < length ls
    → (get_or ls (line_number d ls) spare ≡ line_for d ls) × ((line_for d ls).id ≡ d)
unfolding line_number line_for
number-line d [] h = absurd (not-suc-le-zero h)
number-line d (l ∷ ls) h = go (eqb l.id d) refl h (number-line d ls)
  where
    go : (b : Bool) → eqb l.id d ≡ b → cond b 0 (suc (line_number d ls)) < suc (length ls)
        → (line_number d ls < length ls → (get_or ls (line_number d ls) spare ≡ line_for d ls) × ((line_for d ls).id ≡ d))
        → (get_or (l ∷ ls) (cond b 0 (suc (line_number d ls))) spare ≡ cond b l (line_for d ls)) × ((cond b l (line_for d ls)).id ≡ d)
    go true q lt ih = (refl, eqb-true _ _ q)
    go false q lt ih = ih (le_of_suc-le-suc lt)

-- an id is that of a line, or its number is past the table
number-most : (d : ℕ) (ls : List Line) → line_number d ls ≤ length ls
unfolding line_number
number-most d [] = omega arith
number-most d (l ∷ ls) = go (eqb l.id d) (number-most d ls)
  where
    go : (b : Bool) → line_number d ls ≤ length ls → cond b 0 (suc (line_number d ls)) ≤ suc (length ls)
    go true h = omega arith
    go false h = omega arith

-- a test that every number below n passes
unfoldable below : ℕ → (ℕ → Bool) → Bool
below zero p = true
below (suc n) p = p n && below n p

below_at : (n : ℕ) (p : ℕ → Bool) (d : ℕ) → below n p ≡ true → d < n → p d ≡ true
unfolding below
below_at zero p d e h = absurd (not-suc-le-zero h)
below_at (suc n) p d e h = go (eqb d n) refl (below_at n p d (and_right (p n) (below n p) e))
  where
    go : (b : Bool) → eqb d n ≡ b → (d < n → p d ≡ true) → p d ≡ true
    go true q less = rw (eqb-true d n q) (and_left (p n) (below n p) e)
    go false q less = let k : d ≡ n → ⊥ = eqb-false d n q in less (omega arith)

-- computed over the table: the id of each line can be deleted
pub all-fields : every (λ l. moof_field l.id) lines ≡ true
unfolding every moof_field lines ◌and◌
all-fields = refl

-- and over the ids up to 16: those that can be deleted have a line
all-lined : below 17 (λ d. not (moof_field d) || ltb (line_number d lines) line_count) ≡ true
unfolding below moof_field line_number lines
all-lined = refl

field-small : (d : ℕ) → moof_field d ≡ true → d ≤ 16
unfolding moof_field
field-small d e = leb-true _ _ (and_left _ _ (and_right (leb 1 d) _ e))

-- an id with the number i has a line
pub record Lined (d i : ℕ) : Type 0 where
  pub under : i < line_count
  pub line : get_or lines i spare ≡ line_for d lines
  pub field : moof_field d ≡ true
  pub small : d ≤ 16
  pub inside : (line_for d lines).place < set_len

module _ (d i : ℕ) (is : i ≡ line_number d lines) where
  pub no_line : i ≡ line_count → moof_field d ≡ false
  no_line e = go (moof_field d) refl
    where
      yes : (b : Bool) → b ≡ true → (not b || ltb (line_number d lines) line_count) ≡ true → ltb (line_number d lines) line_count ≡ true
      yes true q h = h
      yes false q h = absurd (false≢true q)

      go : (b : Bool) → moof_field d ≡ b → b ≡ false
      go true q =
          let s : d ≤ 16 = field-small d q in
          let t = below_at 17 (λ k. not (moof_field k) || ltb (line_number k lines) line_count) d all-lined (omega arith) in
          let lt : line_number d lines < line_count = ltb-true _ _ (yes (moof_field d) q t) in
          absurd (omega arith)
      go false q = refl

  pub has-line : (i ≡ line_count → ⊥) → Lined d i
  has-line n =
      let m : line_number d lines ≤ length lines = number-most d lines in
      let c : length lines ≡ line_count = line-count in
      let lt : line_number d lines < length lines = omega arith in
      let u : i < line_count = omega arith in
      let w = number-line d lines lt in
      let l : get_or lines i spare ≡ line_for d lines = rw is w.0 in
      let f : moof_field (get_or lines i spare).id ≡ true = every-at (λ l. moof_field l.id) lines i spare all-fields (omega arith) in
      let same : (get_or lines i spare).id ≡ d = rw l w.1 in
      let g : moof_field d ≡ true = rw same at f in
      let p : (get_or lines i spare).place ≡ (line_for d lines).place = rw l in
      record {
        under = u;
        line = l;
        field = g;
        small = field-small d g;
        inside = omega (arith, (shaped i u).inside);
      }

-- the line's place is one of a set's words
pub line-inside : (d i : ℕ) (l : Line) → Lined d i → l ≡ get_or lines i spare → l.place < set_len
line-inside d i l h e = let p : l.place ≡ (line_for d lines).place = ap (λ (x : Line). x.place) (e ∙ h.line) in omega (arith, h.inside)

-- ---- marking one

module _ (index r gone : List ℕ) (d : ℕ) where
  -- it has no line
  pub struck-unknown : moof_field d ≡ false → StruckAs index r d gone false gone
  unfolding strikable
  struck-unknown e = record { answered = rw e; marked = λ t. absurd (false≢true t); long = refl }

  module _ (i : ℕ) (l : Line) (h : Lined d i) (is : l ≡ get_or lines i spare) where
    -- what is tested of one with a line
    tested : strikable index r d gone ≡ not (eqb (get_or r l.place 0) 0 || (not (eqb (get_or index (stands_at d) 0) 0) || not (eqb (get_or gone d 0) 0)))
    unfolding strikable has
    tested =
        let p : l.place ≡ (line_for d lines).place = ap (λ (x : Line). x.place) (is ∙ h.line) in
        rw (h.field, ← p) (go (eqb (get_or r l.place 0) 0) (eqb (get_or index (stands_at d) 0) 0) (eqb (get_or gone d 0) 0))
      where
        go : (a b c : Bool) → not a && (b && c) ≡ not (a || (not b || not c))
        go true b c = refl
        go false true true = refl
        go false true false = refl
        go false false c = refl

    -- where it may not be deleted
    pub struck-not : eqb (get_or r l.place 0) 0 || (not (eqb (get_or index (stands_at d) 0) 0) || not (eqb (get_or gone d 0) 0)) ≡ true
        → StruckAs index r d gone false gone
    struck-not e = record { answered = sym (tested ∙ rw e); marked = λ t. absurd (false≢true t); long = refl }

    -- where it may
    pub struck : eqb (get_or r l.place 0) 0 || (not (eqb (get_or index (stands_at d) 0) 0) || not (eqb (get_or gone d 0) 0)) ≡ false
        → StruckAs index r d gone true (set gone d 1)
    struck e = record { answered = sym (tested ∙ rw e); marked = λ t. refl; long = length-set gone d 1 }

-- ---- marking those of id 27

module _ (F : List Row) (o index r gone : List ℕ) (says : Says) (seen : List ℕ) (d : ℕ) where
  -- with the ids of seen marked, what is tested of the next is what is asked of it
  strikable-is : Telling F o index → says ≡ says_in F o index → Gone gone seen
      → strikable index r d gone ≡ (moof_field d && (has d r && (is_none (says d) && not (among d seen))))
  unfolding strikable
  strikable-is t e g = go (moof_field d) refl
    where
      sent : (m : Option (List ℕ)) → Tells F o (length o) index [] [] d m → eqb (get_or index (stands_at d) 0) 0 ≡ is_none m
      sent None h = let z : get_or index (stands_at d) 0 ≡ 0 = rw add-zero at (h 0 (omega arith)) in eq-eqb (get_or index (stands_at d) 0) 0 z
      sent (Some zs) h = ne_eqb (get_or index (stands_at d) 0) 0 (λ z. omega (arith, h.first))

      mark : (b : Bool) → get_or gone d 0 ≡ cond b 1 0 → eqb (get_or gone d 0) 0 ≡ not b
      mark true q = rw q
      mark false q = rw q

      go : (b : Bool) → moof_field d ≡ b
          → b && (has d r && (eqb (get_or index (stands_at d) 0) 0 && eqb (get_or gone d 0) 0)) ≡ b && (has d r && (is_none (says d) && not (among d seen)))
      go true q =
          let s : d ≤ 16 = field-small d q in
          rw (e, sent (says_in F o index d) (t.each d (omega arith) (λ z. omega arith)), mark (among d seen) (g.each d (omega arith)))
      go false q = refl

-- one more is marked
gone-more : (gone seen : List ℕ) (d : ℕ) → d < id_count → Gone gone seen → Gone (set gone d 1) (d ∷ seen)
unfolding among
gone-more gone seen d h g =
    record {
      words = length-set gone d 1 ∙ g.words;
      each = λ id lt. go id lt (eqb d id) refl;
    }
  where
    go : (id : ℕ) → id < id_count → (b : Bool) → eqb d id ≡ b → get_or (set gone d 1) id 0 ≡ cond (b || among id seen) 1 0
    go id lt true q = let e : d ≡ id = eqb-true d id q in rw (← e) (get_or-set_same gone d 1 0 (omega (arith, g.words)))
    go id lt false q = get_or-set_other gone d id 1 0 (λ e. eqb-false d id q (sym e)) ∙ g.each id lt

-- nothing is marked
gone-none : (gone : List ℕ) → gone ≡ replicate id_count 0 → Gone gone []
unfolding among
gone-none gone e = record { words = rw e; each = λ id lt. rw e (blank-zeros id_count id) }

-- the ids of seen are marked, those of left are to come
pub record Marking (F : List Row) (o index r gone₀ gone : List ℕ) (end p : ℕ) : Type 0 where
  pub telling : Telling F o index
  pub bytes : end ≤ length o
  pub set : length r ≡ set_len
  pub words : length index ≡ index_len
  pub ids₀ : length gone₀ ≡ id_count
  pub ids : length gone ≡ id_count
  pub seen : List ℕ
  pub left : List ℕ
  pub rest : numbers_f F (slice p end o) ≡ Some left
  pub marked : Gone gone seen
  pub all : (id : ℕ) → among id seen || among id left ≡ among id (numbers (says_in F o index 27))
  pub whole : deletions_ok r (says_in F o index) seen left ≡ deletions_ok r (says_in F o index) [] (numbers (says_in F o index 27))

module _ (F : List Row) (o index : List ℕ) (t : Telling F o index) where
  -- what the words of id 27 tell
  list_of : Tells F o (length o) index [] [] 27 (says_in F o index 27)
  list_of = t.each 27 (omega arith) (λ z. omega arith)

  listed : (get_or index (stands_at 27) 0 ≡ 0 → ⊥) → (zs : List ℕ) × (says_in F o index 27 ≡ Some zs) × HeldAs F o (length o) index [] [] 27 zs
  listed n = go (says_in F o index 27) refl list_of
    where
      go : (m : Option (List ℕ)) → says_in F o index 27 ≡ m → Tells F o (length o) index [] [] 27 m
          → (zs : List ℕ) × (says_in F o index 27 ≡ Some zs) × HeldAs F o (length o) index [] [] 27 zs
      go None e k = absurd (n (k 0 (omega arith)))
      go (Some zs) e k = (zs, e, k)

  -- where they stand in the object
  pub listed_at : (get_or index (stands_at 27) 0 ≡ 0 → ⊥)
      → ListedAt F o index (get_or index (stands_at 27) 0 - 1) (get_or index (stands_at 27) 0 - 1 + get_or index (number_at 27) 0)
  unfolding body
  listed_at n =
      let zs = (listed n).0 in
      let e : says_in F o index 27 ≡ Some zs = (listed n).1 in
      let k = (listed n).2 in
      let p : get_or index (stands_at 27) 0 - 1 ≡ k.place = omega (arith, k.first) in
      let b : numbers_f F (slice k.place (k.place + get_or index (number_at 27) 0) o) ≡ Some zs = k.bytes (λ u. omega arith) in
      let i : k.place + get_or index (number_at 27) 0 ≤ length o = k.inside (λ u. omega arith) in
      record { inside = omega arith; ids = rw (p, e) b }

  module _ (r gone : List ℕ) (h : (length r ≡ set_len) × (gone ≡ replicate id_count 0)) where
    -- nothing is listed
    pub unlisted : get_or index (stands_at 27) 0 ≡ 0 → MarkedAs r (says_in F o index) true gone
    unfolding deletions_ok
    unlisted z = go (says_in F o index 27) refl list_of
      where
        go : (m : Option (List ℕ)) → says_in F o index 27 ≡ m → Tells F o (length o) index [] [] 27 m → MarkedAs r (says_in F o index) true gone
        go None e k = record { answered = rw e; marked = λ u. rw e (gone-none gone h.1) }
        go (Some zs) e k = absurd (omega (arith, k.first))

-- all are to come
pub start : (F : List Row) (o index : List ℕ) (from end : ℕ) → Telling F o index → ListedAt F o index from end
    → (r gone : List ℕ) → (length r ≡ set_len) × (gone ≡ replicate id_count 0) → Marking F o index r gone gone end from
unfolding among
start F o index from end t l r gone h =
    record {
      telling = t;
      bytes = l.inside;
      set = h.0;
      words = t.words;
      ids₀ = rw h.1;
      ids = rw h.1;
      seen = [];
      left = numbers (says_in F o index 27);
      rest = l.ids;
      marked = gone-none gone h.1;
      all = λ id. refl;
      whole = refl;
    }

module _ (F : List Row) (o index r gone₀ gone : List ℕ) (end p : ℕ) (m : Marking F o index r gone₀ gone end p) where
  -- all are marked
  pub done : end ≤ p → MarkedAs r (says_in F o index) true gone
  unfolding deletions_ok among
  done h = go m.left refl
    where
      or-false : (b : Bool) → b || false ≡ b
      or-false true = refl
      or-false false = refl

      none_left : m.left ≡ []
      none_left =
          let e : numbers_f F [] ≡ Some m.left = rw (slice-none p end o h) at m.rest in
          let n : numbers_f F [] ≡ Some [] = numbers-nil F in
          cc

      go : (left : List ℕ) → m.left ≡ left → MarkedAs r (says_in F o index) true gone
      go (x ∷ xs) e = let z : ◌≡◌ {A = ℕ} 0 1 = (let q = none_left in cc) in absurd (omega arith)
      go [] e =
          let w : true ≡ deletions_ok r (says_in F o index) [] (numbers (says_in F o index 27)) = rw e at m.whole in
          record {
            answered = w;
            marked = λ u.
                record {
                  words = m.marked.words;
                  each = λ id lt.
                      let a : among id m.seen ≡ among id (numbers (says_in F o index 27)) =
                      sym (or-false (among id m.seen)) ∙ (rw e at (m.all id)) in
                      m.marked.each id lt ∙ ap (λ (b : Bool). cond b 1 0) a;
                };
          }

  -- no varint is cut
  pub cut-never : p < end → None ≡ read_at F o p end → ⊥
  unfolding numbers_f
  cut-never lt e =
      let l : 0 < length (slice p end o) = omega (arith, length-slice p end o m.bytes) in
      let z : false ≡ true = rw (numbers-cut F (slice p end o) l (cut-inv F o p end m.bytes e)) at (wholly-inv _ _ m.rest).0 in
      false≢true z

  module _ (d q : ℕ) (f : Found F o p end d q) where
    -- the next one
    one : (vs : List ℕ) × (m.left ≡ d ∷ vs) × (numbers_f F (slice q end o) ≡ Some vs)
    one = go m.left refl
      where
        go : (left : List ℕ) → m.left ≡ left → (vs : List ℕ) × (m.left ≡ d ∷ vs) × (numbers_f F (slice q end o) ≡ Some vs)
        go [] e =
            let s : slice p end o ≡ [] = numbers-empty F (slice p end o) (m.rest ∙ ap Some e) in
            let l : length (slice p end o) ≡ 0 = rw s in
            absurd (omega (arith, length-slice p end o m.bytes, f.some, f.within))
        go (v ∷ vs) e =
            let i = numbers-inv F (slice p end o) v vs (m.rest ∙ ap Some e) in
            let a = some_pair_parts _ _ _ _ (sym i.1 ∙ f.read) in
            let s : numbers_f F (slice q end o) ≡ Some vs = rw (f.place, ← a.1, ← drop-slice p end i.0 o) i.2 in
            (vs, e ∙ ap (λ (x : ℕ). x ∷ vs) a.0, s)

    module _ (b : Bool) (after : List ℕ) (k : StruckAs index r d gone b after) where
      asked : b ≡ (moof_field d && (has d r && (is_none (says_in F o index d) && not (among d m.seen))))
      asked = k.answered ∙ strikable-is F o index r gone (says_in F o index) m.seen d m.telling refl m.marked

      here : (b and deletions_ok r (says_in F o index) (d ∷ m.seen) one.0) ≡ deletions_ok r (says_in F o index) [] (numbers (says_in F o index 27))
      unfolding deletions_ok
      here = rw asked (sym (ap (deletions_ok r (says_in F o index) m.seen) one.1) ∙ m.whole)

      -- it may not be deleted
      pub refused : b ≡ false → MarkedAs r (says_in F o index) false after
      unfolding ◌and◌
      refused e = record { answered = rw e at here; marked = λ t. absurd (false≢true t) }

      -- it is marked
      pub next : b ≡ true → Marking F o index r gone₀ after end q
      unfolding ◌and◌ among strikable
      next e =
          let g : Gone after (d ∷ m.seen) = marked-one in
          record {
            telling = m.telling;
            bytes = m.bytes;
            set = m.set;
            words = m.words;
            ids₀ = m.ids₀;
            ids = g.words;
            seen = d ∷ m.seen;
            left = one.0;
            rest = one.2;
            marked = g;
            all = λ id. shuffle (eqb d id) (among id m.seen) (among id one.0) ∙ before id;
            whole = rw e at here;
          }
        where
          small : d ≤ 16
          small = field-small d (and_left (moof_field d) _ (sym k.answered ∙ e))

          marked-one : Gone after (d ∷ m.seen)
          marked-one = rw (k.marked e) (gone-more gone m.seen d (omega (arith, small)) m.marked)

          before : (id : ℕ) → among id m.seen || (eqb d id || among id one.0) ≡ among id (numbers (says_in F o index 27))
          before id = sym (ap (λ (l : List ℕ). among id m.seen || among id l) one.1) ∙ m.all id

          shuffle : (x y z : Bool) → (x || y) || z ≡ y || (x || z)
          shuffle true true z = refl
          shuffle true false z = refl
          shuffle false y z = refl

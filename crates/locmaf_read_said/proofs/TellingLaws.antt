-- The words of a block's index tell what its entries say, and what is read from them is what is said. Assumes nothing.
use Prim.Native.Nat.{ℕ, ◌+◌, ◌-◌, ◌%◌, ◌≤◌, ◌<◌}
use native.Mathlib.Nat.{add-zero}
use native.Mathlib.Omega.{arith}
use mathlib.Core.Path.{◌≡◌, refl, sym, ◌∙◌, ap}
use mathlib.Core.Bool.{Bool, true, false, cond, not}
use mathlib.Core.List.{List, [], ◌∷◌}
use Rattle.std.specs.Prelude.{Option, Some, None}
use borrow.Author.Tests.{eqb-true, eqb-false, eq-eqb, ne_eqb}
use lib.Dec.{eqb}
use lib.ListN.{length, get_or}
use lib.Seq.{slice, length-slice}
use Rattle.constants.specs.Ids.{id_count}
use Rattle.wire.specs.declared.form.Row.{Row}
use Rattle.locmaf_read_index.specs.Places.{index_len, stands_at, number_at}
use Rattle.locmaf_read_index.specs.Index.{index_at}
use Rattle.locmaf_read_block.specs.Entries.{Entry, entries_at, body, readable, lawful, says}
use Rattle.locmaf_read_index.specs.Held.{HeldAs, Tells}
use Rattle.laws.specs.Options.{is_some}
use Rattle.locmaf_read_index.proofs.AnswerLaws.{Blank}
use Rattle.locmaf_read_index.proofs.LongLaws.{index-length}
use Rattle.locmaf_read_index.proofs.SaysLaws.{index-says}
use Rattle.field_rules.specs.Fields.{numbers}
use Rattle.laws.specs.Tests.{among}
use Rattle.locmaf_read_said.specs.Said.{saying, saying_of, says_in, scalar_in, Telling, Gone, Marked, AllMarked}

-- ---- what the three words of an id tell

module _ (F : List Row) (s : List ℕ) (end : ℕ) (words before events : List ℕ) (id : ℕ) where
  -- is what they say
  says-told : (m : Option (List ℕ)) → Tells F s end words before events id m → says_in F s words id ≡ m
  unfolding says_in
  says-told None h =
      let z : get_or words (stands_at id) 0 ≡ 0 = rw add-zero at (h 0 (omega arith)) in
      rw (eq-eqb (get_or words (stands_at id) 0) 0 z)
  says-told (Some zs) h = rw (ne_eqb (get_or words (stands_at id) 0) 0 (λ z. omega (arith, h.first))) (go (eqb (id % 2) 0) refl)
    where
      go : (b : Bool) → eqb (id % 2) 0 ≡ b
          → cond b (Some (get_or words (number_at id) 0 ∷ []))
          (body F id (slice (get_or words (stands_at id) 0 - 1) (get_or words (stands_at id) 0 - 1 + get_or words (number_at id) 0) s))
          ≡ Some zs
      go true q = ap Some (sym (h.scalar (eqb-true _ _ q)))
      go false q =
          let p : get_or words (stands_at id) 0 - 1 ≡ h.place = omega (arith, h.first) in
          rw p (h.bytes (eqb-false _ _ q))

  -- and of an id but 25 it is told of the whole object, whatever the events are
  told-alone : (m : Option (List ℕ)) → end ≤ length s → (id ≡ 25 → ⊥) → Tells F s end words before events id m → Tells F s (length s) words [] [] id m
  told-alone None le n h = h
  told-alone (Some zs) le n h =
      record {
        place = h.place;
        first = h.first;
        scalar = h.scalar;
        inside = λ u. let i = h.inside u in omega arith;
        bytes = h.bytes;
        count = h.count;
        records = λ e. absurd (n e);
      }

-- ---- the index of a block that is read, and whose ids are lawful

module _ (F : List Row) (o : List ℕ) (at end : ℕ) (words events : List ℕ) (es : List Entry)
    (inside : end ≤ length o) (room : length words ≡ index_len) (blank : Blank words)
    (read : entries_at F o at end ≡ Some es) (fit : readable F es ≡ true) (law : lawful es ≡ true) where
  -- says what the entries say
  pub telling-says : says_in F o (index_at F o at end words events).words ≡ says F es
  telling-says =
      λ j id.
      says-told F o end (index_at F o at end words events).words events (index_at F o at end words events).events id (says F es id)
      (index-says F o at end words events es inside room blank read fit law id) j

  -- and its words tell it
  pub telling : Telling F o (index_at F o at end words events).words
  telling =
      record {
        words = index-length F o at end words events ∙ room;
        each = λ id lt n.
            rw telling-says
            (told-alone F o end (index_at F o at end words events).words events (index_at F o at end words events).events id (says F es id) inside n
            (index-says F o at end words events es inside room blank read fit law id));
      }

-- ---- what is read from an index

module _ (F : List Row) (o index : List ℕ) where
  -- of a scalar
  pub scalar-says : (id : ℕ) → id % 2 ≡ 0 → scalar_in index id ≡ says_in F o index id
  unfolding scalar_in says_in
  scalar-says id e = rw (eq-eqb (id % 2) 0 e)

  -- the bytes of the brands stand in the object
  pub brand-bytes : (bs : List ℕ) → HeldAs F o (length o) index [] [] 23 bs
      → (slice (get_or index (stands_at 23) 0 - 1) (get_or index (stands_at 23) 0 - 1 + get_or index (number_at 23) 0) o ≡ bs)
      × (get_or index (stands_at 23) 0 - 1 + get_or index (number_at 23) 0 ≤ length o)
      × (get_or index (number_at 23) 0 ≡ length bs)
  unfolding body
  brand-bytes bs t =
      let odd : 23 % 2 ≡ 0 → ⊥ = λ e. omega arith in
      let p : get_or index (stands_at 23) 0 - 1 ≡ t.place = omega (arith, t.first) in
      let i : t.place + get_or index (number_at 23) 0 ≤ length o = t.inside odd in
      let e : Some (slice t.place (t.place + get_or index (number_at 23) 0) o) ≡ Some bs = t.bytes odd in
      let s : slice t.place (t.place + get_or index (number_at 23) 0) o ≡ bs = cc in
      let n = length-slice t.place (t.place + get_or index (number_at 23) 0) o i in
      let m : length bs ≡ get_or index (number_at 23) 0 = ap length (sym s) ∙ n ∙ (omega arith) in
      (rw p s, omega arith, sym m)

module _ (F : List Row) (o index : List ℕ) (h : Telling F o index) where
  -- an id stands where something is said of it
  pub stands-says : (id : ℕ) → id < id_count → (id ≡ 25 → ⊥) → not (eqb (get_or index (stands_at id) 0) 0) ≡ is_some (says_in F o index id)
  stands-says id lt n = go (says_in F o index id) (h.each id lt n)
    where
      go : (m : Option (List ℕ)) → Tells F o (length o) index [] [] id m → not (eqb (get_or index (stands_at id) 0) 0) ≡ is_some m
      go None t =
          let z : get_or index (stands_at id) 0 ≡ 0 = rw add-zero at (t 0 (omega arith)) in
          rw (eq-eqb (get_or index (stands_at id) 0) 0 z)
      go (Some zs) t = rw (ne_eqb (get_or index (stands_at id) 0) 0 (λ z. omega (arith, t.first)))

  -- with the ids marked that id 27 lists, every id is marked
  pub all-marked : (gone : List ℕ) → Gone gone (numbers (says_in F o index 27)) → AllMarked F o index gone (says_in F o index)
  unfolding saying_of
  all-marked gone g =
      record {
        words = h.words;
        gone-words = g.words;
        each = λ id lt n. go id (says_in F o index id) (among id (numbers (says_in F o index 27))) (h.each id lt n) (g.each id lt);
      }
    where
      go : (id : ℕ) (m : Option (List ℕ)) (b : Bool) → Tells F o (length o) index [] [] id m → get_or gone id 0 ≡ cond b 1 0
          → Marked F o (length o) index gone [] [] id (saying m b)
      go id (Some zs) b t e = t
      go id None true t e = (rw add-zero at (t 0 (omega arith)), e)
      go id None false t e = (rw add-zero at (t 0 (omega arith)), e)

  -- and so those that are said
  pub part_says : (bs : List ℕ) → says_in F o index 23 ≡ Some bs
      → (slice (get_or index (stands_at 23) 0 - 1) (get_or index (stands_at 23) 0 - 1 + get_or index (number_at 23) 0) o ≡ bs)
      × (get_or index (stands_at 23) 0 - 1 + get_or index (number_at 23) 0 ≤ length o)
      × (get_or index (number_at 23) 0 ≡ length bs)
  part_says bs e = let t : Tells F o (length o) index [] [] 23 (Some bs) = rw e at (h.each 23 (omega arith) (λ z. omega arith)) in brand-bytes F o index bs t

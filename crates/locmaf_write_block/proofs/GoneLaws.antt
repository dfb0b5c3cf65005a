-- The ids that are deleted: the loop that collects them, and their tuple. Assumes nothing.
use Prim.Native.Nat.{ℕ, ◌+◌, ◌≤◌, ◌<◌}
use native.Mathlib.Numerals.{add-one}
use native.Mathlib.Omega.{arith}
use mathlib.Core.Path.{◌≡◌, refl, sym, ◌∙◌, ap}
use mathlib.Core.Bool.{Bool, true, false, cond, not, ◌&&◌}
use mathlib.Core.List.{List, [], ◌∷◌, ◌++◌, append-nil, append_assoc}
use borrow.Author.Tests.{eq-eqb, ne_eqb}
use lib.Dec.{eqb}
use lib.ListN.{length, get_or, take, drop, set, length-set}
use lib.Seq.{length-take-le, take-suc-set}
use Rattle.wire.specs.declared.form.Row.{Row}
use Rattle.wire.specs.declared.zigzag.Coding.TheVariants.{Plain}
use Rattle.track.specs.declared.Track.{Track}
use Rattle.field_table.specs.declared.lines.Line.{Line}
use Rattle.field_table.specs.Lines.{lines, spare, line_count, place_of}
use Rattle.field_table.proofs.LineLaws.{line-here, no_lines, place-of}
use Rattle.field_rules.specs.Fields.{is_ivs}
use Rattle.field_rules.specs.Vanished.{vanished_by}
use Rattle.locmaf_write_block.specs.declared.cells.Change.TheVariants.{Omitted, Deleted, Sent}
use Rattle.locmaf_write_tuples.specs.Items.{nothing, items_if, run_item, bytes_of}
use Rattle.locmaf_write_tuples.proofs.ItemLaws.{not-nothing}
use Rattle.laws.specs.Tests.{same}
use Rattle.locmaf_write_block.specs.Changes.{news, olds, change_of}
use Rattle.locmaf_write_block.specs.Fields.{is_deleted, gone_of, deletion_items, Collected}

module _ (t : Track) (delta follow : Bool) (r x : List ℕ) where
  -- a field is deleted where it stood in the reference and stands no more
  pub deleted-by : (l : Line) → vanished_by delta (get_or r l.place 0) (get_or x l.place 0) ≡ is_deleted (change_of t delta follow r x l)
  unfolding change_of
  deleted-by l =
      go delta (eqb (get_or r l.place 0) 0) (eqb (get_or x l.place 0) 0) (cond (is_ivs l.want) follow (same (olds t delta r x l) (news t delta r x l)))
    where
      go : (d a b s : Bool)
          → (d && (not a && b)) ≡ is_deleted (cond (not b) (cond (d && not a && s) Omitted Sent) (cond (d && not a) Deleted Omitted))
      go false a true s = refl
      go false a false s = refl
      go true true true s = refl
      go true true false s = refl
      go true false true s = refl
      go true false false true = refl
      go true false false false = refl

  -- by its place
  pub deleted-is : (i : ℕ) → i < line_count → (p : ℕ) → p ≡ place_of i
      → vanished_by delta (get_or r p 0) (get_or x p 0) ≡ is_deleted (change_of t delta follow r x (get_or lines i spare))
  deleted-is i lt p e = rw (e ∙ place-of i lt) (deleted-by (get_or lines i spare))

  -- nothing is deleted in a full object
  pub gone-full : delta ≡ false → (ls : List Line) → gone_of t delta follow r x ls ≡ []
  unfolding gone_of
  gone-full d [] = refl
  gone-full d (l ∷ ls) = let no : is_deleted (change_of t delta follow r x l) ≡ false = sym (deleted-by l) ∙ rw d in rw no (gone-full d ls)

-- the same is deleted, whatever the track is
module _ (t u : Track) (delta follow : Bool) (r x : List ℕ) where
  gone-alike : (ls : List Line) → gone_of t delta follow r x ls ≡ gone_of u delta follow r x ls
  unfolding gone_of
  gone-alike [] = refl
  gone-alike (l ∷ ls) = rw (← deleted-by t delta follow r x l, ← deleted-by u delta follow r x l, gone-alike ls)

  pub deletions-alike : (F : List Row) → deletion_items F t delta follow r x ≡ deletion_items F u delta follow r x
  unfolding deletion_items
  deletions-alike F = rw (gone-alike lines)

module _ (delta follow : Bool) (r x : List ℕ) where
  pub collect-full : delta ≡ false → (ids : List ℕ) → length ids ≡ line_count
      → Collected (λ t. gone_of t delta follow r x lines) ids 0
  collect-full d ids e =
      record { few = omega arith; long = e; all = λ t. (ap length (sym (gone-full t delta follow r x d lines)), sym (gone-full t delta follow r x d lines)) }

  -- the ids of the lines before the one at i are collected, n of them
  pub record Collecting (ids : List ℕ) (n i : ℕ) : Type 0 where
    pub long : length ids ≡ line_count
    pub few : n ≤ i
    pub high : i ≤ line_count
    pub rest : (t : Track) → take n ids ++ gone_of t delta follow r x (drop i lines) ≡ gone_of t delta follow r x lines

  pub collect-start : (ids : List ℕ) → length ids ≡ line_count → Collecting ids 0 0
  collect-start ids e = record { long = e; few = omega arith; high = omega arith; rest = λ t. refl }

  module _ (ids : List ℕ) (n i : ℕ) (h : Collecting ids n i) where
    -- all are
    pub collect-end : line_count ≤ i
        → Collected (λ t. gone_of t delta follow r x lines) ids n
    unfolding gone_of
    collect-end le =
        let m : n ≤ length ids = omega (arith, h.few, h.high, h.long) in
        record {
          few = omega (arith, h.few, h.high);
          long = h.long;
          all =
              λ t.
              let all : take n ids ≡ gone_of t delta follow r x lines = sym (append-nil (take n ids)) ∙ rw (no_lines i le) at (h.rest t) in
              (sym (length-take-le n ids m) ∙ ap length all, all);
        }

    module _ (lt : i < line_count) where
      -- the next line's id, where it is deleted
      pub collect-one : ((t : Track) → true ≡ is_deleted (change_of t delta follow r x (get_or lines i spare))) → (id : ℕ) → id ≡ (get_or lines i spare).id
          → (js : List ℕ) → js ≡ set ids n id → (k : ℕ) → k ≡ n + 1 → Collecting js k (i + 1)
      unfolding gone_of
      collect-one d id e js p k q =
          let m : n < length ids = omega (arith, h.few, h.long) in
          let here : (t : Track) → gone_of t delta follow r x (drop i lines) ≡ id ∷ gone_of t delta follow r x (drop (i + 1) lines) = λ t. rw (line-here i lt, ← d t, e) in
          let first : take k js ≡ take n ids ++ (id ∷ []) = rw (p, q, add-one n) (take-suc-set ids n id m) in
          record {
            long = ap length p ∙ length-set ids n id ∙ h.long;
            few = omega (arith, h.few);
            high = omega arith;
            rest =
                λ t.
                ap (λ (s : List ℕ). s ++ gone_of t delta follow r x (drop (i + 1) lines)) first
                ∙ append_assoc (take n ids) (id ∷ []) (gone_of t delta follow r x (drop (i + 1) lines))
                ∙ ap (λ (s : List ℕ). take n ids ++ s) (sym (here t))
                ∙ h.rest t;
          }

      -- and where it isn't
      pub collect-none : ((t : Track) → false ≡ is_deleted (change_of t delta follow r x (get_or lines i spare)))
          → (js : List ℕ) → js ≡ ids → (k : ℕ) → k ≡ n → Collecting js k (i + 1)
      unfolding gone_of
      collect-none d js p k q =
          let here : (t : Track) → gone_of t delta follow r x (drop i lines) ≡ gone_of t delta follow r x (drop (i + 1) lines) = λ t. rw (line-here i lt, ← d t) in
          record {
            long = ap length p ∙ h.long;
            few = omega (arith, h.few);
            high = omega arith;
            rest = λ t. rw (p, q) (ap (λ (s : List ℕ). take n ids ++ s) (sym (here t)) ∙ h.rest t);
          }

-- as many words as were collected
pub gone-many : {gone : Track → List ℕ} {ids : List ℕ} {n : ℕ} → Collected gone ids n → n ≡ length (take n ids)
gone-many {gone} {ids} {n} h = sym (length-take-le n ids (omega (arith, h.few, h.long)))

-- the tuple, where nothing is deleted and where something is
module _ (t : Track) (delta follow : Bool) (r x : List ℕ) (F : List Row) (n : ℕ) (e : n ≡ length (gone_of t delta follow r x lines)) where
  pub none-gone : n ≡ 0 → nothing ≡ deletion_items F t delta follow r x
  unfolding deletion_items items_if
  none-gone z = rw (eq-eqb (length (gone_of t delta follow r x lines)) 0 (omega arith))

  -- something is where the tuple has bytes
  pub bytes-gone : (bytes : ℕ) → bytes ≡ length (bytes_of F (deletion_items F t delta follow r x)) → (bytes ≡ 0 → ⊥) → n ≡ 0 → ⊥
  bytes-gone bytes k some z = not-nothing F (deletion_items F t delta follow r x) bytes k some (none-gone z)

  pub some-gone : (n ≡ 0 → ⊥) → (ids : List ℕ) → ids ≡ gone_of t delta follow r x lines
      → run_item F Plain 27 0 [] ids ≡ deletion_items F t delta follow r x
  unfolding deletion_items items_if
  some-gone z ids d = rw (d, ne_eqb (length (gone_of t delta follow r x lines)) 0 (λ q. z (e ∙ q)))

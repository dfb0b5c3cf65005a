-- What the words of an id say is what is said of it, where the index is marked. Assumes nothing.
use Prim.Native.Nat.{ℕ, ◌-◌, ◌%◌, ◌≤◌, ◌<◌}
use native.Mathlib.Omega.{arith}
use mathlib.Core.Path.{◌≡◌, refl, sym, ◌∙◌, ap}
use mathlib.Core.Bool.{Bool, true, false, cond, not, ◌||◌, beq, false≢true}
use mathlib.Core.List.{List, [], ◌∷◌}
use Rattle.std.specs.Prelude.{Some}
use borrow.Author.Tests.{eqb-true, eqb-false, ne_eqb, ltb-true, not-true}
use lib.Dec.{eqb, ltb}
use lib.ListN.{length, get_or}
use Rattle.constants.specs.Ids.{id_count}
use Rattle.locmaf_read_index.specs.Places.{stands_at, number_at, many_at}
use Rattle.laws.specs.Tests.{◌and◌}
use Rattle.laws.proofs.TestLaws.{left, right, alike}
use Rattle.wire.specs.declared.form.Row.{Row}
use Rattle.locmaf_read_index.specs.Held.{HeldAs}
use Rattle.locmaf_read_block.specs.Entries.{body}
use Rattle.locmaf_read_block.specs.Numbers.{numbers_f}
use Rattle.field_table.specs.declared.lines.Line.{Line}
use Rattle.field_table.specs.Lines.{every, lines, spare, line_count}
use Rattle.field_table.proofs.LineLaws.{every-at, line-count}
use Rattle.locmaf_read_said.specs.declared.said.Span.{Span}
use Rattle.locmaf_read_said.specs.declared.said.Word.TheVariants.{Omitted, Deleted, Sent}
use Rattle.locmaf_read_said.specs.Said.{Saying, omitted, deleted, sent, span, word_in, Marked}
use Rattle.field_rules.specs.Fields.{numbers, is_ivs}
use Rattle.locmaf_read_field.specs.Cells.{span_bytes, list_in, said, Listed, Spans}
use Rattle.locmaf_read_said.proofs.SaidLaws.{word-sent, word-deleted, word-omitted}

-- a line has room for one value where its id is even, and id 9 alone stands as raw bytes
pub record Kinded (l : Line) : Type 0 where
  pub single : eqb l.room 1 ≡ eqb (l.id % 2) 0
  pub raw : is_ivs l.want ≡ (eqb l.id 9 || eqb l.id 23)
  pub plain : eqb l.id 25 ≡ false
  pub small : l.id < id_count

-- ---- the three words
module _ (F : List Row) (o : List ℕ) (end : ℕ) (index gone before events : List ℕ) (id : ℕ) where
  pub marked-omitted : Marked F o end index gone before events id omitted → word_in index gone id ≡ Omitted
  marked-omitted h = sym (word-omitted index gone id h.0 h.1)

  pub marked-deleted : Marked F o end index gone before events id deleted → word_in index gone id ≡ Deleted
  marked-deleted h = sym (word-deleted index gone id h.0 (λ e. omega (arith, h.1)))

  pub marked-sent : (zs : List ℕ) (h : Marked F o end index gone before events id (sent zs))
      → word_in index gone id ≡ Sent (span h.place (get_or index (number_at id) 0) (get_or index (many_at id) 0))
  marked-sent zs h =
      let e : get_or index (stands_at id) 0 - 1 ≡ h.place = omega (arith, h.first) in
      sym (word-sent index gone id (λ z. omega (arith, h.first))) ∙ rw e

-- ---- the numbers of a line that is sent
module _ (F : List Row) (o : List ℕ) (end : ℕ) (index before events : List ℕ) (l : Line) (kind : Kinded l) (zs : List ℕ)
    (h : HeldAs F o end index before events l.id zs) where
  -- its span
  abbrev there : Span
  there = span h.place (get_or index (number_at l.id) 0) (get_or index (many_at l.id) 0)

  -- raw bytes, or varints
  list-is : eqb (l.id % 2) 0 ≡ false → (list_in F o l.want there ≡ zs) × (is_ivs l.want ≡ false → numbers_f F (span_bytes o there) ≡ Some zs)
  unfolding list_in body
  list-is e = go (is_ivs l.want) refl (rw (e, kind.plain, ← kind.raw) at (h.bytes (eqb-false _ _ e)))
    where
      go : (b : Bool) → is_ivs l.want ≡ b → cond b (Some (span_bytes o there)) (numbers_f F (span_bytes o there)) ≡ Some zs
          → (cond (is_ivs l.want) (span_bytes o there) (numbers (numbers_f F (span_bytes o there))) ≡ zs)
          × (is_ivs l.want ≡ false → numbers_f F (span_bytes o there) ≡ Some zs)
      go true q w = (rw q (cc), λ n. absurd (false≢true (sym n ∙ q)))
      go false q w = (rw (q, w), λ n. w)

  sent_is : cond (eqb l.room 1) (there.number ∷ []) (list_in F o l.want there) ≡ zs
  sent_is = go (eqb (l.id % 2) 0) refl
    where
      go : (b : Bool) → eqb (l.id % 2) 0 ≡ b → cond (eqb l.room 1) (there.number ∷ []) (list_in F o l.want there) ≡ zs
      go true q = rw (kind.single, q) (sym (h.scalar (eqb-true _ _ q)))
      go false q = rw (kind.single, q) (list-is q).0

  -- a list's bytes lie in the object, and varints fill them
  listed : end ≤ length o → (l.room ≡ 1 → ⊥) → Listed F o l.want there
  listed inside n =
      let e : eqb (l.id % 2) 0 ≡ false = sym kind.single ∙ ne_eqb l.room 1 n in
      let w = list-is e in
      let p = h.inside (eqb-false _ _ e) in
      record {
        inside = omega (arith, p);
        whole = λ i. w.1 i ∙ ap Some (sym w.0);
        many = λ i. h.count (eqb-false _ _ kind.plain) ∙ ap length (sym w.0);
      }

module _ (F : List Row) (o : List ℕ) (end : ℕ) (index gone before events : List ℕ) (l : Line) (kind : Kinded l) where
  -- what the words of a line say of it
  pub said-is : (s : Saying) → Marked F o end index gone before events l.id s → said F o l (word_in index gone l.id) ≡ s
  unfolding said
  said-is omitted h = rw (marked-omitted F o end index gone before events l.id h)
  said-is deleted h = rw (marked-deleted F o end index gone before events l.id h)
  said-is (sent zs) h = rw (marked-sent F o end index gone before events l.id zs h) (ap sent (sent_is F o end index before events l kind zs h))

  -- and what a call of `take` asks of them
  pub spans : end ≤ length o → (s : Saying) → Marked F o end index gone before events l.id s → Spans F o l (word_in index gone l.id)
  spans inside omitted h = rw (marked-omitted F o end index gone before events l.id h) tt
  spans inside deleted h = rw (marked-deleted F o end index gone before events l.id h) tt
  spans inside (sent zs) h = rw (marked-sent F o end index gone before events l.id zs h) (listed F o end index before events l kind zs h inside)

-- ---- every line of the table is of its kind

unfoldable kinds : Line → Bool
kinds l =
    beq (eqb l.room 1) (eqb (l.id % 2) 0)
    and beq (is_ivs l.want) (eqb l.id 9 || eqb l.id 23)
    and not (eqb l.id 25)
    and ltb l.id id_count

kind-of : (l : Line) → kinds l ≡ true → Kinded l
unfolding kinds
kind-of l e =
    record {
      single = alike _ _ (left _ _ e);
      raw = alike _ _ (left _ _ (right _ _ e));
      plain = not-true _ (left _ _ (right _ _ (right _ _ e)));
      small = ltb-true _ _ (right _ _ (right _ _ (right _ _ e)));
    }

all_kinds : every kinds lines ≡ true
unfolding every kinds lines ◌and◌
all_kinds = refl

pub kinded : (i : ℕ) → i < line_count → Kinded (get_or lines i spare)
kinded i h = kind-of (get_or lines i spare) (every-at kinds lines i spare all_kinds (omega (arith, line-count)))

-- The ids that a delta deletes are read without complaint: each once, of a field that stood and isn't sent. Assumes nothing.
use Prim.Native.Nat.{ℕ, suc, ◌≤◌, ◌<◌}
use native.Mathlib.Omega.{arith}
use mathlib.Core.Path.{◌≡◌, refl, ◌∙◌}
use mathlib.Core.Bool.{Bool, true, false, false≢true}
use mathlib.Core.List.{List, [], ◌∷◌}
use borrow.Author.Tests.{leb-true, ne_eqb}
use borrow.Table.Steps.{cases}
use lib.ListN.{length, get_or}
use Rattle.laws.proofs.TestLaws.{left, right, both, and_left, and_right}
use Rattle.track.specs.declared.Track.{Track}
use Rattle.field_table.specs.declared.lines.Line.{Line}
use Rattle.field_table.specs.Lines.{lines, spare, line_count}
use Rattle.field_set.specs.Lawful.{has}
use Rattle.field_table.proofs.LineLaws.{line-count, ascends, lines-ascend}
use Rattle.locmaf_read_said.specs.Said.{Says}
use Rattle.field_rules.specs.Fields.{numbers}
use Rattle.laws.specs.Tests.{among}
use Rattle.field_rules.proofs.SetLaws.{line-of-id}
use Rattle.locmaf_read_said.specs.Deletions.{moof_field, is_none, deletions_ok}
use Rattle.locmaf_write_block.specs.declared.cells.Change.{Change}
use Rattle.locmaf_write_block.specs.declared.cells.Change.TheVariants.{Omitted, Deleted, Sent}
use Rattle.locmaf_write_block.specs.Changes.{change_of}
use Rattle.locmaf_write_block.specs.Fields.{is_deleted, gone_of}
use Rattle.locmaf_write_block.proofs.GoneLaws.{deleted-by}
use Rattle.reread.specs.Sayings.{numbers_by, sent_numbers, line_says, SetSaid}
use Rattle.reread.proofs.BlockSaid.{moof-line}

-- no deletion is refused, where each of them may be, those of `seen` being below them
deletions-from : (t : Track) (delta follow : Bool) (r x : List ℕ) (says : Says) (lo : ℕ) (ls : List Line) → ascends lo ls ≡ true
    → ((i : ℕ) → i < length ls → is_deleted (change_of t delta follow r x (get_or ls i spare)) ≡ true
    → (moof_field (get_or ls i spare).id ≡ true) × (has (get_or ls i spare).id r ≡ true) × (is_none (says (get_or ls i spare).id) ≡ true))
    → (seen : List ℕ) → ((d : ℕ) → lo ≤ d → among d seen ≡ false) → deletions_ok r says seen (gone_of t delta follow r x ls) ≡ true
unfolding gone_of deletions_ok ascends among
deletions-from t delta follow r x says lo [] a g seen u = refl
deletions-from t delta follow r x says lo (l ∷ ls) a g seen u =
    let low : lo ≤ l.id = leb-true _ _ (left _ _ a) in
    let rest = deletions-from t delta follow r x says (suc l.id) ls (right _ _ a) (λ i lt. g (suc i) (omega arith)) in
    cases (is_deleted (change_of t delta follow r x l))
    (λ e.
    let k = g 0 (omega arith) e in
    rw e
    (both _ _ (rw (k.0, k.1, k.2, u l.id low))
    (rest (l.id ∷ seen) (λ d le. rw (ne_eqb l.id d (λ (q : l.id ≡ d). omega arith)) (u d (omega (arith, low)))))))
    (λ e. rw e (rest seen (λ d le. u d (omega (arith, low)))))

-- nothing stands for a field that is deleted
deleted-none : (c : Change) (zs : List ℕ) → is_deleted c ≡ true → is_none (numbers_by c zs) ≡ true
deleted-none Omitted zs e = absurd (false≢true e)
deleted-none Deleted zs e = refl
deleted-none Sent zs e = absurd (false≢true e)

module _ {t : Track} {delta follow : Bool} {r x : List ℕ} {f : Says} (h : SetSaid t delta follow r x f) where
  -- a field that is deleted may be
  struck : (i : ℕ) → i < line_count → is_deleted (change_of t delta follow r x (get_or lines i spare)) ≡ true
      → (moof_field (get_or lines i spare).id ≡ true) × (has (get_or lines i spare).id r ≡ true) × (is_none (f (get_or lines i spare).id) ≡ true)
  unfolding has line_says
  struck i lt e =
      let l : Line = get_or lines i spare in
      let was = and_left _ _ (and_right delta _ (deleted-by t delta follow r x l ∙ e)) in
      (moof-line i lt, rw (line-of-id i lt) was, rw (h.line i lt) (deleted-none (change_of t delta follow r x l) (sent_numbers t delta r x l) e))

  pub deletions-hold : deletions_ok r f [] (numbers (f 27)) ≡ true
  unfolding among
  deletions-hold = rw h.gone (deletions-from t delta follow r x f 0 lines lines-ascend (λ i lt e. struck i (omega (arith, line-count)) e) [] (λ d le. refl))

-- The items of one id tell what is said of it: a number, bytes as they are, a list of numbers, a field of the set. The block is put together of them.
-- Assumes nothing.
use Prim.Native.Nat.{ℕ, suc, ◌%◌, ◌<◌}
use native.Mathlib.Omega.{arith}
use mathlib.Core.Path.{◌≡◌, refl, sym, ◌∙◌, ap}
use mathlib.Core.Bool.{Bool, true, false, not, ◌||◌, cond, beq}
use mathlib.Core.List.{List, [], ◌∷◌, ◌++◌}
use borrow.Author.Tests.{eqb-true, eqb-false, ltb-true, not-true}
use borrow.Table.Steps.{cases}
use lib.Dec.{eqb, ltb}
use lib.ListN.{length, length-append}
use Rattle.std.specs.Prelude.{Option, Some, None}
use Rattle.constants.specs.Ids.{id_count}
use Rattle.laws.specs.Options.{on_option}
use Rattle.laws.specs.Tests.{◌and◌}
use Rattle.laws.proofs.TestLaws.{left, right, alike}
use Rattle.wire.specs.declared.form.Form.TheVariants.{Rfc9000}
use Rattle.wire.specs.declared.zigzag.Coding.{Coding}
use Rattle.wire.specs.Varint.{encode}
use Rattle.wire.specs.Zigzag.{wire_of, code_of}
use Rattle.wire.proofs.FormLaws.{lawful}
use Rattle.wire.proofs.SizeLaws.{limit-62}
use Rattle.wire.proofs.ZigzagLaws.{coded-inv}
use Rattle.runs.specs.Run.{run_of, measured}
use Rattle.locmaf_read_block.specs.Entries.{known, body}
use Rattle.block_items.specs.Items.{num, run, enc_item}
use Rattle.locmaf_read_block.specs.Written.{entry_of}
use Rattle.locmaf_read_block.specs.Wires.{wires}
use Rattle.locmaf_read_block.proofs.WrittenLaws.{body-num, body-list, body-raw}
use Rattle.locmaf_read_block.proofs.WiresLaws.{run_is}
use Rattle.track.specs.declared.Track.{Track}
use Rattle.field_table.specs.declared.lines.Line.{Line}
use Rattle.locmaf_read_said.specs.Said.{Says}
use Rattle.field_rules.specs.Fields.{is_ivs}
use Rattle.locmaf_write_block.specs.declared.cells.Change.{Change}
use Rattle.locmaf_write_block.specs.declared.cells.Change.TheVariants.{Omitted, Deleted, Sent}
use Rattle.locmaf_write_tuples.specs.Items.{Items, nothing, items_if, number_item, run_item, on_measured}
use Rattle.locmaf_write_block.specs.Changes.{on_change, change_of, sent_items, line_items}
use Rattle.cmaf_read_facts.specs.Given.{F}
use Rattle.reread.specs.Sayings.{numbers_by, sent_numbers, line_says}
use Rattle.reread.specs.Telling.{Tells}
use Rattle.reread.specs.Block.{said_if}
use Rattle.reread.proofs.TellingLaws.{done, one, wide, gap}

-- ---- how an id reads

-- with a number, or with bytes
unfoldable pub numeric : ℕ → Bool
numeric id = known id and (ltb id id_count and eqb (id % 2) 0)

unfoldable pub odd : ℕ → Bool
odd id = known id and (ltb id id_count and not (eqb (id % 2) 0))

-- with bytes as they are, or with a list of numbers
unfoldable pub bytes_as : Bool → ℕ → Bool
bytes_as raw id = odd id and (not (eqb id 25) and beq (eqb id 9 || eqb id 23) raw)

-- as the line of a field wants it
unfoldable pub line_reads : Line → Bool
line_reads l = cond (is_ivs l.want) (bytes_as true l.id) (cond (eqb l.room 1) (numeric l.id) (bytes_as false l.id))

not-even : (id : ℕ) → odd id ≡ true → id % 2 ≡ 0 → ⊥
unfolding odd
not-even id k = eqb-false _ _ (not-true _ (right _ _ (right _ _ k)))

module _ {f : Says} where
  -- ---- one id

  -- a number
  pub number-tells : (id : ℕ) (coding : Coding) (old new : ℕ) → numeric id ≡ true → f id ≡ Some (wire_of coding old new ∷ [])
      → Tells f id (suc id) (number_item id (code_of F coding old new))
  unfolding number_item numeric entry_of
  number-tells id coding old new k e = go (code_of F coding old new) refl
    where
      go : (c : Option ℕ) → code_of F coding old new ≡ c → Tells f id (suc id) (on_option c (λ z. Some (num id z ∷ [])) None)
      go (Some z) p =
          let i = coded-inv F coding old new p in
          let low : id < id_count = ltb-true _ _ (left _ _ (right _ _ k)) in
          let even : id % 2 ≡ 0 = eqb-true _ _ (right _ _ (right _ _ k)) in
          one (z ∷ []) refl (left _ _ k) (λ n. (even, omega (arith, limit-62 Rfc9000), i.1)) (body-num F (lawful Rfc9000) id z even i.1)
          (e ∙ ap (λ (y : ℕ). Some (y ∷ [])) (sym i.0))
      go None p = wide

  -- bytes that say some numbers
  pub bytes-tell : (id : ℕ) (bs zs : List ℕ) → odd id ≡ true → body F id bs ≡ Some zs → f id ≡ Some zs → Tells f id (suc id) (Some (run id bs ∷ []))
  unfolding odd enc_item entry_of
  bytes-tell id bs zs k b e =
      let low : id < id_count = ltb-true _ _ (left _ _ (right _ _ k)) in
      let n₁ = length-append (encode F id) (encode F (length bs) ++ bs) in
      let n₂ = length-append (encode F (length bs)) bs in
      one zs refl (left _ _ k) (λ n. (not-even id k, omega (arith, limit-62 Rfc9000), omega arith)) b e

  -- bytes as they are
  pub bare-tells : (id : ℕ) (bs : List ℕ) → bytes_as true id ≡ true → f id ≡ Some bs → Tells f id (suc id) (Some (run id bs ∷ []))
  unfolding bytes_as
  bare-tells id bs k e =
      let o = left _ _ k in
      bytes-tell id bs bs o (body-raw F (lawful Rfc9000) id bs (not-even id o) (not-true _ (left _ _ (right _ _ k))) (alike _ true (right _ _ (right _ _ k)))) e

  -- a list of numbers
  pub list_tells : (id : ℕ) (coding : Coding) (base : ℕ) (old new : List ℕ) → bytes_as false id ≡ true → f id ≡ Some (wires coding base old new)
      → Tells f id (suc id) (run_item F coding id base old new)
  unfolding run_item bytes_as
  list_tells id coding base old new k e = go (measured F coding base old new) refl
    where
      go : (m : Option ℕ) → measured F coding base old new ≡ m → Tells f id (suc id) (on_measured m (Some (run id (run_of F coding base old new) ∷ [])))
      go (Some n) p =
          let r = run_is coding base F old new n p in
          let o = left _ _ k in
          bytes-tell id (run_of F coding base old new) (wires coding base old new) o
          (ap (body F id) r.0
          ∙ body-list F (lawful Rfc9000) id (wires coding base old new) (not-even id o) (not-true _ (left _ _ (right _ _ k)))
          (alike _ false (right _ _ (right _ _ k))) r.1)
          e
      go None p = wide

  -- items that stand under a condition
  pub tells-if : (id : ℕ) (b : Bool) (zs : List ℕ) (is : Items) → f id ≡ said_if b zs → (f id ≡ Some zs → Tells f id (suc id) is)
      → Tells f id (suc id) (items_if b is)
  unfolding items_if
  tells-if id true zs is e g = g e
  tells-if id false zs is e g = gap e done

  pub number-if : (id : ℕ) (coding : Coding) (old new : ℕ) (b : Bool) → numeric id ≡ true → f id ≡ said_if b (wire_of coding old new ∷ [])
      → Tells f id (suc id) (items_if b (number_item id (code_of F coding old new)))
  number-if id coding old new b k e = tells-if id b (wire_of coding old new ∷ []) _ e (number-tells id coding old new k)

  -- ---- a field of the set

  module _ (t : Track) (delta follow : Bool) (r x : List ℕ) (l : Line) (k : line_reads l ≡ true) where
    sent-tells : f l.id ≡ Some (sent_numbers t delta r x l) → Tells f l.id (suc l.id) (sent_items t delta r x l F)
    unfolding sent_items sent_numbers line_reads
    sent-tells e =
        cases (is_ivs l.want) (λ a. rw a (bare-tells l.id _ (rw a at k) (rw a at e)))
        (λ a.
        cases (eqb l.room 1) (λ b. rw (a, b) (number-tells l.id _ _ _ (rw (a, b) at k) (rw (a, b) at e)))
        (λ b. rw (a, b) (list_tells l.id _ _ _ _ (rw (a, b) at k) (rw (a, b) at e))))

    -- whatever became of it
    pub line-tells : f l.id ≡ line_says t delta follow r x l → Tells f l.id (suc l.id) (line_items t delta follow r x l F)
    unfolding line_items line_says
    line-tells e = by (change_of t delta follow r x l) e
      where
        by : (c : Change) → f l.id ≡ numbers_by c (sent_numbers t delta r x l)
            → Tells f l.id (suc l.id) (on_change c (sent_items t delta r x l F) nothing)
        by Omitted q = gap q done
        by Deleted q = gap q done
        by Sent q = sent-tells q

-- Each entry that is written has as many clear and protected bytes as its sample, and the length that `saiz` says. Assumes nothing.
use Prim.Native.Nat.{ℕ, zero, suc, ◌+◌, ◌*◌, ◌≤◌, ◌<◌}
use native.Mathlib.Omega.{arith}
use mathlib.Core.Path.{◌≡◌, refl, sym, ◌∙◌, ap, ap₂, subst}
use mathlib.Core.Bool.{Bool, true, false, cond, not, ◌||◌}
use mathlib.Core.List.{List}
use borrow.Author.Tests.{eq-eqb, eqb-true}
use lib.Dec.{eqb}
use lib.ListN.{length}
use Rattle.laws.specs.Tests.{sum}
use Rattle.laws.proofs.TestLaws.{left, right, both}
use Rattle.track.specs.declared.Track.{Track}
use Rattle.field_table.specs.Lines.{lines, line_for, set_len}
use Rattle.field_set.specs.Lawful.{has, values_of, value_at, count_in}
use Rattle.boxes.specs.Box.{flag_when}
use Rattle.cmaf_write_senc.specs.Protected.{senc_entries}
use Rattle.cmaf_write_saiz.specs.Saiz.{info_size}
use Rattle.effective.specs.Sizes.{size_of}
use Rattle.byte_parts.specs.declared.Part.{Part}
use Rattle.cmaf_read_shape.specs.Parts.{end_of}
use Rattle.cmaf_read_shape.specs.Left.{Left}
use Rattle.cmaf_read_trun.specs.declared.rows.Run.{Run}
use Rattle.cmaf_read_trun.specs.Rows.{size_at}
use Rattle.cmaf_read_senc.specs.declared.entries.Entries.{Entries}
use Rattle.cmaf_read_senc.specs.Entries.{map_length, pairs_at, length_at, entries_of}
use Rattle.cmaf_read_senc.specs.Sizes.{info_size as info_at}
use Rattle.told_sizes.specs.Sums.{bytes_of}
use Rattle.effective.specs.Sums.{samples_ok, protected_ok}
use Rattle.cmaf_read_facts.proofs.SumGives.{pairs-split}
use Rattle.cmaf_read_rules.specs.Rules.{pairs_sum, entry_ok, entries_ok}
use Rattle.rebuilt.proofs.SencBack.{pairs_is, left-next}
use Rattle.rebuilt.proofs.SencValues.{values_from, values-slice, pairs_from}
use Rattle.rebuilt.proofs.SencWalk.{pairs-at}
use Rattle.rebuilt_set.proofs.SencLines.{Entered}

-- the bytes of v subsamples in the set, value by value
bytes-are : (w : List ℕ) (j v : ℕ) → length w ≡ set_len → j + v ≤ 256
    → sum (values_from 13 w v j) + sum (values_from 15 w v j) ≡ bytes_of 13 w j v + bytes_of 15 w j v
unfolding bytes_of lines line_for
bytes-are w j v long room =
    ap₂ (λ (m n : ℕ). m + n) (ap sum (values-slice 13 w v j (omega (arith, long)))) (ap sum (values-slice 15 w v j (omega (arith, long))))

module _ (t : Track) (c w : List ℕ) (b : Part) (x : Entered t c w b) (long : length w ≡ set_len) (few : sum (values_of 11 (count_in w) w) ≤ 256)
    (payload : ℕ) (saiz : Part) (r : Run) (default : ℕ) (sizes : (i : ℕ) → i < count_in w → size_at c r default i ≡ size_of t w payload i)
    (infos : (i : ℕ) → i < count_in w → info_at c saiz i ≡ info_size t w i) where
  abbrev e : Entries
  e = entries_of t c b

  abbrev most : ℕ
  most = sum (values_of 11 (count_in w) w)

  -- the entry of the sample i, whose first subsample has the number j
  module _ (k i j at : ℕ) (lt : i < count_in w) (h : Left c at (end_of b) (senc_entries t w (suc k) i j)) where
    abbrev v : ℕ
    v = value_at 11 i w

    -- its length
    length-is : info_at c saiz i ≡ length_at c e at
    unfolding info_size map_length
    length-is =
        infos i lt
        ∙ rw (pairs_is x.written k i j at h lt, x.written.map_is, x.written.iv-is) (by (has 11 w))
      where
        by : (a : Bool) → t.iv_size + flag_when a (2 + 6 * v) ≡ t.iv_size + cond a (2 + 6 * flag_when a v) 0
        by true = refl
        by false = refl

    -- its bytes
    entry-right : j + flag_when (has 11 w) v ≤ most → (has 11 w ≡ true → bytes_of 13 w j v + bytes_of 15 w j v ≡ size_of t w payload i)
        → entry_ok c e at (size_at c r default i) ≡ true
    unfolding entry_ok
    entry-right room same = rw (sizes i lt) (by e.map refl)
      where
        by : (a : Bool) → e.map ≡ a → (not a || eqb (pairs_sum c (pairs_at c e at) (at + e.iv + 2)) (size_of t w payload i)) ≡ true
        by true m =
            let q : has 11 w ≡ true = sym x.written.map_is ∙ m in
            let is-v : flag_when (has 11 w) v ≡ v = ap (λ (a : Bool). flag_when a v) q in
            let p =
            pairs-at x.written q (x.small q) k i j at lt room h in
            eq-eqb _ _
            (pairs-split c (pairs_at c e at) (at + e.iv + 2)
            ∙ ap₂ (λ (y z : List ℕ). sum y + sum z) p.0 p.1
            ∙ ap (λ (n : ℕ). sum (values_from 13 w n j) + sum (values_from 15 w n j)) is-v
            ∙ bytes-are w j v long (omega (arith, room, is-v))
            ∙ same q)
        by false m = refl

  -- the entries of k samples from the number i on
  entries-right : (k i j at : ℕ) → i + k ≡ count_in w → j + pairs_from w k i ≤ most → Left c at (end_of b) (senc_entries t w k i j)
      → (has 11 w ≡ true → samples_ok t w payload k i j ≡ true) → entries_ok c e saiz r default k i at ≡ true
  unfolding entries_ok pairs_from samples_ok
  entries-right zero i j at q room h ok = refl
  entries-right (suc k) i j at q room h ok =
      let lt : i < count_in w = omega arith in
      let pairs : ℕ = flag_when (has 11 w) (value_at 11 i w) in
      let first : entry_ok c e at (size_at c r default i) ≡ true = entry-right k i j at lt h (omega arith) (λ z. eqb-true _ _ (left _ _ (ok z))) in
      let info : eqb (info_at c saiz i) (length_at c e at) ≡ true = eq-eqb _ _ (length-is k i j at lt h) in
      let later : has 11 w ≡ true → samples_ok t w payload k (suc i) (j + pairs) ≡ true =
      λ z. subst (λ (a : Bool). samples_ok t w payload k (suc i) (j + flag_when a (value_at 11 i w)) ≡ true) (sym z) (right _ _ (ok z)) in
      both _ _ (rw (first, info))
      (entries-right k (suc i) (j + pairs) (at + length_at c e at) (omega arith) (omega arith)
      (left-next x.written k i j at h lt) later)

  -- all of them
  pub all_right : r.count ≡ count_in w → protected_ok t w payload ≡ true → entries_ok c e saiz r default r.count 0 e.at ≡ true
  unfolding protected_ok
  all_right count sums =
      subst (λ (n : ℕ). entries_ok c e saiz r default n 0 e.at ≡ true) (sym count)
      (entries-right (count_in w) 0 0 e.at (omega arith) (omega (arith, x.written.total)) x.written.list
      (λ z. subst (λ (a : Bool). cond a (samples_ok t w payload (count_in w) 0 0) true ≡ true) z sums))

-- Whole tuples one behind the other, anywhere in a list and in any order, are read as those tuples, each by its own bytes. Assumes nothing.
use Prim.Native.Nat.{ℕ, ◌+◌}
use native.Mathlib.Nat.{add_assoc, zero-add, add-sub_cancel_left}
use native.Mathlib.Omega.{arith}
use mathlib.Core.Path.{◌≡◌, refl, ◌∙◌, ap}
use mathlib.Core.Bool.{true}
use mathlib.Core.List.{List, [], ◌∷◌, ◌++◌, map, flatten, append_assoc, append-nil}
use Rattle.std.specs.Prelude.{Some}
use lib.ListN.{length, length-append}
use lib.Seq.{drop-append_seam}
use Rattle.laws.proofs.SliceLaws.{slice-between, slice-within}
use Rattle.wire.specs.declared.form.Row.{Row}
use Rattle.locmaf_read_block.specs.declared.tuples.Tuple.{Tuple}
use Rattle.locmaf_read_block.specs.Front.{series, before, wholly, on_read}
use Rattle.locmaf_read_block.specs.Tuples.{part, tuple, tuple_f, tuples_run, tuples_f}
use Rattle.locmaf_read_block.specs.Entries.{Entry, content, contents, entries_at}
use Rattle.locmaf_read_block.specs.Whole.{WholeTuple}
use Rattle.laws.specs.Each.{AllOf}
use Rattle.locmaf_read_block.proofs.TupleLaws.{part-kind}
use Rattle.locmaf_read_block.proofs.TupleRuns.{tuples-off, tuples-none}
use Rattle.locmaf_read_block.proofs.OwnBytes.{Own, tuple-own}

module _ (F : List Row) where
  -- a whole tuple is one by its own bytes, and only such are
  pub whole-own : (bs : List ℕ) (h : WholeTuple F bs) → Own F 0 bs h.0
  whole-own bs h = tuple-own F 0 bs [] h.0 (rw (append-nil, zero-add) h.1)

  pub own-whole : {at : ℕ} {bs : List ℕ} {t : Tuple} → Own F at bs t → WholeTuple F bs
  own-whole {at} {bs} {t} o = (_, rw (append-nil, zero-add (length bs)) at (o.again 0 []))

  -- what its bytes say: its id, and the bytes of its number, its list or its records
  unfoldable pub entry_in : List ℕ → Entry
  entry_in bs = on_read (tuple_f F 0 bs) (λ t next. content bs t) (record { id = 0; bytes = [] })

  -- the tuple, where its bytes stand at the place at, and all of them from there on
  abbrev placed : ℕ → (bs : List ℕ) → WholeTuple F bs → Tuple
  placed at bs h = let o = whole-own bs h in tuple o.id o.number (part (at + o.from) o.len)

  abbrev placed_all : ℕ → (ts : List (List ℕ)) → AllOf (WholeTuple F) ts → List Tuple
  placed_all at [] h = []
  placed_all at (bs ∷ ts) h = placed at bs h.0 ∷ placed_all (at + length bs) ts h.1

  run-joined : (at : ℕ) (ts : List (List ℕ)) (h : AllOf (WholeTuple F) ts) → tuples_run F at (flatten ts) ≡ series (placed_all at ts h) true
  unfolding flatten
  run-joined at [] h = tuples-none F at
  run-joined at (bs ∷ ts) h =
      let n : ℕ = length bs in
      tuples-off F at (bs ++ flatten ts) (placed at bs h.0) (at + n) ((whole-own bs h.0).again at (flatten ts))
      ∙ ap (before (placed at bs h.0)) (rw (add-sub_cancel_left at n, drop-append_seam) (run-joined (at + n) ts h.1))

  -- between two others it says what its bytes say
  content-placed : (pre bs post : List ℕ) (h : WholeTuple F bs) → content (pre ++ (bs ++ post)) (placed (length pre) bs h) ≡ entry_in bs
  unfolding content entry_in
  content-placed pre bs post h = go (whole-own bs h)
    where
      go : (o : Own F 0 bs h.0)
          → content (pre ++ (bs ++ post)) (tuple o.id o.number (part (length pre + o.from) o.len)) ≡ entry_in bs
      go o =
          let here = part-kind o.id (part (length pre + o.from) o.len) in
          let alone = part-kind o.id (part (0 + o.from) o.len) in
          rw (here, add_assoc, slice-within pre bs post o.from (o.from + o.len) (omega (arith, o.ends)), h.1, o.is, alone, zero-add)

  contents-joined : (s : List ℕ) (at : ℕ) (pre post : List ℕ) (ts : List (List ℕ)) (h : AllOf (WholeTuple F) ts)
      → s ≡ pre ++ (flatten ts ++ post) → at ≡ length pre → contents s (placed_all at ts h) ≡ map entry_in ts
  unfolding flatten
  contents-joined s at pre post [] h e l = refl
  contents-joined s at pre post (bs ∷ ts) h e l =
      let first : content s (placed at bs h.0) ≡ entry_in bs = rw (e, l, append_assoc) (content-placed pre bs (flatten ts ++ post) h.0) in
      let others = contents-joined s (at + length bs) (pre ++ bs) post ts h.1 (e ∙ simp append_assoc) (omega (arith, length-append pre bs)) in
      λ j. first j ∷ others j

  -- a block of whole tuples, anywhere in a list, has their entries, in their order
  pub entries-joined : (pre post : List ℕ) (ts : List (List ℕ)) → AllOf (WholeTuple F) ts
      → entries_at F (pre ++ (flatten ts ++ post)) (length pre) (length pre + length (flatten ts)) ≡ Some (map entry_in ts)
  unfolding entries_at tuples_f wholly
  entries-joined pre post ts h =
      rw (slice-between pre (flatten ts) post, run-joined (length pre) ts h) (ap Some (contents-joined _ _ pre post ts h refl refl))

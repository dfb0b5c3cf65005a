-- What an object says: that its block lies in it, that what it says of id 9 are bytes of it, and of an even id one number. Assumes nothing.
use Prim.Native.Nat.{ℕ, ◌+◌, ◌-◌, ◌%◌, ◌≤◌, ◌<◌}
use native.Mathlib.Omega.{arith}
use mathlib.Core.Path.{◌≡◌, refl, sym, ◌∙◌, ap}
use mathlib.Core.Bool.{Bool, true, false, cond, false≢true}
use mathlib.Core.List.{List, [], ◌∷◌}
use borrow.Author.Tests.{leb-true, eqb-true, eq-eqb}
use lib.Dec.{eqb, leb}
use lib.ListN.{length, drop, length-drop}
use lib.Seq.{slice}
use Rattle.laws.specs.Tests.{all_le}
use Rattle.laws.specs.Ladder.{Hold}
use Rattle.laws.proofs.BytesLaws.{bytes-are}
use Rattle.laws.proofs.TestLaws.{low-slice}
use Rattle.wire.specs.declared.form.Row.{Row}
use Rattle.std.specs.Prelude.{Option, Some, None, option_map}
use Rattle.wire.specs.Varint.{read_f, on_got}
use Rattle.wire.specs.Form.{limit}
use Rattle.wire.proofs.FormLaws.{Lawful}
use Rattle.wire.proofs.VarintLaws.{read-size, read-bound}
use Rattle.locmaf_read_block.specs.declared.tuples.Tuple.{Tuple}
use Rattle.locmaf_read_block.specs.Front.{Series, wholly}
use Rattle.locmaf_read_block.specs.Tuples.{part_of, tuples_run, tuples_f, bytes_of}
use Rattle.locmaf_read_block.specs.Records.{number}
use Rattle.locmaf_read_block.specs.Entries.{content, contents, entries_at, body, entry, says}
use Rattle.laws.specs.Options.{on_option}
use Rattle.laws.specs.Each.{AllOf}
use Rattle.locmaf_read_block.proofs.NumberLaws.{numbers-inv}
use Rattle.locmaf_read_block.proofs.TupleRuns.{Proper, all-proper}
use Rattle.receiver.specs.Object.{length_at, block_reads, block_length, block_at, block_end, head_rungs, tuples, entries, saying}

-- ---- the block

-- a block whose length is not past the object lies in it
pub block_inside : (F : List Row) (o : List ℕ) → block_reads F o ≡ true → block_end F o ≤ length o
unfolding block_reads block_end block_at block_length number
block_inside F o h = go (read_f F (drop (length_at F o) o)) refl h
  where
    q : ℕ
    q = length_at F o

    go : (g : Option (ℕ × ℕ)) → read_f F (drop q o) ≡ g → on_got g (λ n k. leb n (length o - (q + k))) false ≡ true
        → on_got g (λ n k. q + k) 0 + on_got g (λ n k. n) 0 ≤ length o
    go (Some (n, k)) r e =
        let b = read-size F (drop q o) n k r in
        let le : n ≤ length o - (q + k) = leb-true _ _ e in
        omega (arith, b.0, b.1, length-drop q o)
    go None r e = absurd (false≢true e)

pub head-inside : (F : List Row) (o : List ℕ) → Hold (head_rungs F o) → block_end F o ≤ length o
unfolding head_rungs
head-inside F o h = block_inside F o h.1.1.0

-- ---- its tuples

-- something holds of what an entry has for an id
module _ (F : List Row) (o : List ℕ) (id : ℕ) (P : List ℕ → Type 0) (Q : Tuple → Type 0)
    (step : (t : Tuple) → t.id ≡ id → Q t → (zs : List ℕ) → body F id (bytes_of o (part_of t.kind)) ≡ Some zs → P zs) where
  run-says : (ts : List Tuple) → AllOf Q ts → (zs : List ℕ) → says F (contents o ts) id ≡ Some zs → P zs
  unfolding says entry content
  run-says [] a zs e = let z : ◌≡◌ {A = ℕ} 0 1 = cc in absurd (omega arith)
  run-says (t ∷ ts) a zs e = go (eqb t.id id) refl (run-says ts a.1) e
    where
      go : (b : Bool) → eqb t.id id ≡ b → ((ws : List ℕ) → says F (contents o ts) id ≡ Some ws → P ws)
          → on_option (cond b (Some (bytes_of o (part_of t.kind))) (entry id (contents o ts))) (body F id) None ≡ Some zs → P zs
      go true q ih d = step t (eqb-true _ _ q) a.0 zs d
      go false q ih d = ih zs d

  -- no entries say nothing
  none_said : (ws : List ℕ) → says F [] id ≡ Some ws → ⊥
  unfolding says entry
  none_said ws d = let z : ◌≡◌ {A = ℕ} 0 1 = cc in omega arith

  -- of what the object says
  object-says : AllOf Q (tuples_run F (block_at F o) (slice (block_at F o) (block_end F o) o)).items → (zs : List ℕ) → saying F o id ≡ Some zs → P zs
  unfolding entries tuples entries_at tuples_f wholly
  object-says a zs e = go (tuples_run F (block_at F o) (slice (block_at F o) (block_end F o) o)) a e
    where
      go : (r : Series Tuple) → AllOf Q r.items
          → says F (on_option (option_map (contents o) (cond r.whole (Some r.items) None)) (λ es. es) []) id ≡ Some zs → P zs
      go r b d = whole r.whole d
        where
          whole : (w : Bool) → says F (on_option (option_map (contents o) (cond w (Some r.items) None)) (λ es. es) []) id ≡ Some zs → P zs
          whole true d' = run-says r.items b zs d'
          whole false d' = absurd (none_said zs d')

-- what holds of everything holds of a run
all_of : {A : Type 0} (Q : A → Type 0) → ((x : A) → Q x) → (xs : List A) → AllOf Q xs
all_of Q h [] = tt
all_of Q h (x ∷ xs) = (h x, all_of Q h xs)

-- ---- bytes

-- what is said of id 9 are bytes of the object
pub raw-bytes : (F : List Row) (o : List ℕ) → all_le 255 o ≡ true → (zs : List ℕ) → saying F o 9 ≡ Some zs → all_le 255 zs ≡ true
unfolding body
raw-bytes F o h zs e =
    object-says F o 9 (λ ws. all_le 255 ws ≡ true) (λ t. Unit {0})
    (λ t q u ws d.
    let p = part_of t.kind in
    let same : bytes_of o p ≡ ws = cc in
    ap (all_le 255) (sym same) ∙ low-slice 255 p.at (p.at + p.len) o h)
    (all_of {A = Tuple} (λ t. Unit {0}) (λ t. tt) (tuples_run F (block_at F o) (slice (block_at F o) (block_end F o) o)).items) zs e

-- ---- numbers

-- what is said of an even id is a number that the form holds
pub number_small : (F : List Row) → Lawful 0 F → (o : List ℕ) → all_le 255 o ≡ true → (id z : ℕ) (zs : List ℕ) → id % 2 ≡ 0 → saying F o id ≡ Some (z ∷ zs)
    → z < limit F
unfolding body
number_small F w o h id z zs even e =
    object-says F o id (λ ws. (y : ℕ) (ys : List ℕ) → ws ≡ y ∷ ys → y < limit F) (λ t. Unit {0})
    (λ t q u ws d y ys r.
    let p = part_of t.kind in
    let n = numbers-inv F (bytes_of o p) y ys (rw (eq-eqb (id % 2) 0 even, r) at d) in
    read-bound F w (bytes_of o p) y n.0 (bytes-are (bytes_of o p) (low-slice 255 p.at (p.at + p.len) o h)) n.1)
    (all_of {A = Tuple} (λ t. Unit {0}) (λ t. tt) (tuples_run F (block_at F o) (slice (block_at F o) (block_end F o) o)).items) (z ∷ zs) e z zs refl

-- what is said of id 10 is one number
pub one_number : (F : List Row) (o : List ℕ) → block_end F o ≤ length o → (zs : List ℕ) → saying F o 10 ≡ Some zs → (z : ℕ) × (zs ≡ z ∷ [])
unfolding body
one_number F o h zs e =
    object-says F o 10 (λ ws. (z : ℕ) × (ws ≡ z ∷ [])) (Proper F o (block_end F o))
    (λ t q p ws d.
    let even : t.id % 2 ≡ 0 = ap (λ (i : ℕ). i % 2) q in
    let two : ◌≡◌ {A = Option (List ℕ)} (Some ws) (Some (t.number ∷ [])) = sym d ∙ p.scalar even in
    let same : ws ≡ t.number ∷ [] = cc in
    (t.number, same))
    (all-proper F o (block_end F o) h (block_at F o)) zs e

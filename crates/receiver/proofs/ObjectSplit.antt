-- An object whose header id, block length and tuples are read is those bytes one behind the other: the header id's, the length's, whole tuples and the payload.
-- Assumes nothing.
use Prim.Native.Nat.{ℕ, ◌+◌, ◌-◌, ◌≤◌}
use native.Mathlib.Nat.{zero-add}
use native.Mathlib.Omega.{arith}
use mathlib.Core.Path.{◌≡◌, refl, sym, ◌∙◌, ap}
use mathlib.Core.Bool.{true, false, false≢true}
use mathlib.Core.List.{List, flatten}
use lib.Dec.{leb}
use lib.ListN.{length, take, drop, take-append-drop}
use lib.Seq.{slice, length-take-le, length-slice, drop-drop}
use Rattle.laws.proofs.SliceLaws.{slice-lent}
use Rattle.laws.proofs.ListLaws.{fronts-same}
use Rattle.wire.specs.declared.form.Row.{Row}
use Rattle.std.specs.Prelude.{Option, Some, None, option_map}
use Rattle.std.proofs.lemmas.Option.{none-some}
use Rattle.wire.specs.Varint.{read_f, on_got}
use Rattle.wire.proofs.VarintLaws.{read-size, read-prefix, read-once}
use Rattle.locmaf_read_block.specs.declared.tuples.Tuple.{Tuple}
use Rattle.locmaf_read_block.specs.Tuples.{tuples_f}
use Rattle.locmaf_read_block.specs.Records.{number}
use Rattle.locmaf_read_block.specs.Entries.{Entry, contents, entries_at}
use Rattle.locmaf_read_block.proofs.SplitTuples.{WholeTuples, split-whole, split-once}
use Rattle.receiver.specs.Object.{header_reads, length_at, block_reads, block_length, block_at, block_end, tuples}
use Rattle.receiver.specs.Parts.{Parts}
use Rattle.receiver.proofs.SaidLaws.{block_inside}

module _ (F : List Row) (o : List ℕ) where
  header-inv : header_reads F o ≡ true → (id : ℕ) × (read_f F o ≡ Some (id, length_at F o))
  unfolding header_reads length_at number
  header-inv h = go (read_f F o) h
    where
      go : (g : Option (ℕ × ℕ)) → on_got g (λ v k. true) false ≡ true → (id : ℕ) × (g ≡ Some (id, on_got g (λ v k. 0 + k) 0))
      go (Some (id, k)) e = (id, ap (λ n. Some (id, n)) (sym (zero-add k)))
      go None e = absurd (false≢true e)

  length-inv : block_reads F o ≡ true
      → (j : ℕ) × (read_f F (drop (length_at F o) o) ≡ Some (block_length F o, j)) × (block_at F o ≡ length_at F o + j)
  unfolding block_reads block_length block_at number
  length-inv h = go (read_f F (drop q o)) h
    where
      q : ℕ
      q = length_at F o

      go : (g : Option (ℕ × ℕ)) → on_got g (λ n k. leb n (length o - (q + k))) false ≡ true
          → (j : ℕ) × (g ≡ Some (on_got g (λ n k. n) 0, j)) × (on_got g (λ n k. q + k) 0 ≡ q + j)
      go (Some (n, k)) e = (k, refl, refl)
      go None e = absurd (false≢true e)

  block-inv : (es : List Entry) → tuples F o ≡ Some es → WholeTuples F (slice (block_at F o) (block_end F o) o)
  unfolding tuples entries_at
  block-inv es e = go (tuples_f F (block_at F o) (slice (block_at F o) (block_end F o) o)) refl e
    where
      go : (x : Option (List Tuple)) → tuples_f F (block_at F o) (slice (block_at F o) (block_end F o) o) ≡ x
          → option_map (contents o) x ≡ Some es → WholeTuples F (slice (block_at F o) (block_end F o) o)
      go (Some us) q d = split-whole F (block_at F o) (slice (block_at F o) (block_end F o) o) us q
      go None q d = absurd (none-some es d)

-- so it has parts
pub parts-of : (F : List Row) (o : List ℕ) (es : List Entry) → header_reads F o ≡ true → block_reads F o ≡ true → tuples F o ≡ Some es → Parts F o
unfolding block_end
parts-of F o es h b e =
    let a = header-inv F o h in
    let c = length-inv F o b in
    let w = block-inv F o es e in
    let k : ℕ = length_at F o in
    let j : ℕ = c.0 in
    let n : ℕ = block_length F o in
    let m : ℕ = k + j in
    let inside : m + n ≤ length o = omega (arith, block_inside F o b, c.2) in
    let lk : length (take k o) ≡ k = length-take-le k o (read-size F o a.0 k a.1).1 in
    let lj : length (take j (drop k o)) ≡ j = length-take-le j (drop k o) (read-size F (drop k o) n j c.1).1 in
    let block : flatten w.0 ≡ slice m (m + n) o = w.1 ∙ ap (λ (i : ℕ). slice i (i + n) o) c.2 in
    let ln : length (flatten w.0) ≡ n = omega (arith, ap length block, length-slice m (m + n) o inside) in
    let z : m + n - m ≡ n = omega arith in
    let front : flatten w.0 ≡ take n (drop j (drop k o)) = block ∙ sym (slice-lent m (m + n) o (omega arith) inside) ∙ rw (z, drop-drop j k o) in
    record {
      header = take k o;
      long = take j (drop k o);
      tuples = w.0;
      payload = drop n (drop j (drop k o));
      bytes = rw front (sym (simp take-append-drop));
      id = a.0;
      header-reads = read-prefix F o a.0 k a.1 ∙ ap (λ n. Some (a.0, n)) (sym lk);
      length-reads = read-prefix F (drop k o) n j c.1 ∙ (λ i. Some (sym ln i, sym lj i));
      whole = w.2;
    }

-- and in one way only
pub parts-once : (F : List Row) (o : List ℕ) (p q : Parts F o)
    → (p.header ≡ q.header) × (p.long ≡ q.long) × (p.tuples ≡ q.tuples) × (p.payload ≡ q.payload)
parts-once F o p q =
    let a = read-once F p.header q.header _ _ p.id q.id p.header-reads q.header-reads (sym p.bytes ∙ q.bytes) in
    let b = read-once F p.long q.long _ _ _ _ p.length-reads q.length-reads a.2 in
    let c = fronts-same (flatten p.tuples) (flatten q.tuples) p.payload q.payload b.2 b.0 in
    (a.1, b.1, split-once F p.tuples q.tuples p.whole q.whole c.0, c.1)

-- What is read of an object whose block splits into whole tuples, by its bytes; so that their order isn't seen.
-- Assumes nothing.
use Prim.Native.Nat.{ℕ, ◌+◌, ◌-◌, ◌≤◌}
use native.Mathlib.Nat.{zero-add}
use native.Mathlib.Omega.{arith}
use mathlib.Core.Path.{◌≡◌, refl, sym, ◌∙◌, ap}
use mathlib.Core.Bool.{true, ◌||◌}
use mathlib.Core.List.Permᴰ
use mathlib.Core.List.{List, [], ◌∷◌, ◌++◌, map, flatten, append_assoc, Permᴰ}
use borrow.Author.Tests.{le-leb}
use lib.Dec.{eqb, leb}
use lib.ListN.{length, drop, length-append}
use lib.Seq.{drop_at, drop-append_seam}
use Rattle.constants.specs.Maxima.{block_most}
use Rattle.laws.specs.Ladder.{Rung, ◌else◌}
use Rattle.laws.proofs.ListLaws.{flatten-long}
use Rattle.wire.specs.declared.form.Row.{Row}
use Rattle.std.specs.Prelude.{Some}
use Rattle.wire.specs.Varint.{read_f}
use Rattle.wire.proofs.VarintLaws.{read_more}
use Rattle.locmaf_read_block.specs.Records.{number}
use Rattle.locmaf_read_block.specs.Entries.{entries_at}
use Rattle.locmaf_read_block.specs.Whole.{WholeTuple}
use Rattle.locmaf_read_block.proofs.FrontLaws.{all-turned}
use Rattle.locmaf_read_block.proofs.WholeTuples.{entry_in, entries-joined}
use Rattle.receiver.specs.Object.{header_reads, header_id, length_at, block_reads, block_length, block_at, block_end, is_delta, head_rungs, tuples, payload}
use Rattle.receiver.specs.Parts.{Parts}
use Rattle.receiver.specs.Receive.{receiving}
use Rattle.receiver.proofs.AlikeTheorems.{any_order}

-- the rules of a header id and of a block of n bytes, both read
abbrev heads_of : ℕ → ℕ → List Rung
heads_of id n = (true else 12) ∷ ((eqb id 23 || eqb id 25) else 10) ∷ (true else 12) ∷ (leb n block_most else 15) ∷ []

module _ {F : List Row} {o : List ℕ} (p : Parts F o) where
  abbrev header : ℕ
  header = length p.header

  abbrev long : ℕ
  long = length p.long

  abbrev block : List ℕ
  block = flatten p.tuples

  -- the two numbers
  first : read_f F (drop 0 o) ≡ Some (p.id, header)
  first = ap (read_f F) p.bytes ∙ read_more F p.header _ p.id header p.header-reads

  header_is : header_id F o ≡ p.id
  unfolding header_id number
  header_is = rw first

  length-at : length_at F o ≡ header
  unfolding length_at number
  length-at = rw first (zero-add header)

  second : read_f F (drop (length_at F o) o) ≡ Some (length block, long)
  second =
      rw length-at
      (ap (λ (l : List ℕ). read_f F (drop header l)) p.bytes
      ∙ ap (read_f F) (drop-append_seam p.header _)
      ∙ read_more F p.long _ (length block) long p.length-reads)

  length-is : block_length F o ≡ length block
  unfolding block_length number
  length-is = rw second

  block-at : block_at F o ≡ header + long
  unfolding block_at number
  block-at = rw (second, length-at)

  block-end : block_end F o ≡ header + long + length block
  unfolding block_end
  block-end = rw (block-at, length-is)

  -- the bytes in front of the block, and in front of the payload
  block-behind : o ≡ (p.header ++ p.long) ++ (block ++ p.payload)
  block-behind = p.bytes ∙ simp append_assoc

  payload-behind : o ≡ (p.header ++ p.long ++ block) ++ p.payload
  payload-behind = p.bytes ∙ simp append_assoc

  front_long : length (p.header ++ p.long ++ block) ≡ header + long + length block
  front_long = simp length-append

  block-reads : block_reads F o ≡ true
  unfolding block_reads number
  block-reads =
      let fits : length block ≤ length o - (header + long) =
      omega (arith, ap length payload-behind, length-append (p.header ++ p.long ++ block) p.payload, front_long) in
      rw (second, length-at) (le-leb _ _ fits)

  -- so its rules go by the header id and by how long the block is
  heads-are : head_rungs F o ≡ heads_of p.id (length block)
  unfolding head_rungs header_reads number
  heads-are = rw (block-reads, length-is, header_is, first)

  kind-is : is_delta F o ≡ eqb p.id 25
  unfolding is_delta
  kind-is = rw header_is

  payload-is : payload F o ≡ p.payload
  unfolding payload
  payload-is =
      ap (λ (k : ℕ). drop k o) block-end
      ∙ ap (drop (header + long + length block)) payload-behind
      ∙ drop_at (p.header ++ p.long ++ block) p.payload (header + long + length block) front_long

  -- and its entries are its tuples', each by its own bytes
  entries-are : tuples F o ≡ Some (map (entry_in F) p.tuples)
  unfolding tuples
  entries-are =
      let n : length (p.header ++ p.long) ≡ header + long = length-append p.header p.long in
      rw (block-end, block-at, ← n)
      (ap (λ (l : List ℕ). entries_at F l (length (p.header ++ p.long)) (length (p.header ++ p.long) + length block)) block-behind
      ∙ entries-joined F (p.header ++ p.long) p.payload p.tuples p.whole)

-- the tuples in another order: the object has parts again
abbrev turned : {F : List Row} {o : List ℕ} (p : Parts F o) (us : List (List ℕ)) → Permᴰ p.tuples us
    → Parts F (p.header ++ (p.long ++ (flatten us ++ p.payload)))
turned {F} p us d =
    record {
      header = p.header;
      long = p.long;
      tuples = us;
      payload = p.payload;
      bytes = refl;
      id = p.id;
      header-reads = p.header-reads;
      length-reads = rw (flatten-long d) at p.length-reads;
      whole = all-turned (WholeTuple F) d p.whole;
    }

-- and is received alike
pub order-unseen : (F : List Row) (o : List ℕ) (p : Parts F o) (us : List (List ℕ)) → Permᴰ p.tuples us → (room s : List ℕ)
    → receiving F o room s ≡ receiving F (p.header ++ (p.long ++ (flatten us ++ p.payload))) room s
order-unseen F o p us d room s =
    let q = turned p us d in
    any_order F o _ room s (map (entry_in F) p.tuples) (map (entry_in F) us)
    (heads-are p ∙ ap (heads_of p.id) (flatten-long d) ∙ sym (heads-are q))
    (kind-is p ∙ sym (kind-is q))
    (payload-is p ∙ sym (payload-is q))
    (entries-are p)
    (entries-are q)
    (Permᴰ.map (entry_in F) d)

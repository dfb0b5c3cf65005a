-- The object that is written, taken apart: its header, its tuples, what they say of each id, and its payload. All else is read from these. Assumes nothing.
use Prim.Native.Nat.{ℕ, zero-le, ◌+◌, ◌-◌, ◌≤◌, ◌<◌}
use native.Mathlib.Nat.{zero-add}
use native.Mathlib.Omega.{arith}
use mathlib.Core.Path.{◌≡◌, refl, sym, ◌∙◌, ap, fun_ext}
use mathlib.Core.Bool.{Bool, true, false, ◌||◌}
use mathlib.Core.List.{List, ◌++◌, map, append_assoc}
use borrow.Author.Tests.{le-leb}
use lib.Dec.{eqb}
use lib.ListN.{length, drop, length-append}
use lib.Seq.{drop_at}
use Rattle.std.specs.Prelude.{Some}
use Rattle.laws.specs.Ladder.{Hold}
use Rattle.wire.specs.declared.form.Form.TheVariants.{Rfc9000}
use Rattle.wire.specs.Form.{limit}
use Rattle.wire.specs.Varint.{encode, size_of, read_f}
use Rattle.wire.proofs.FormLaws.{Lawful, lawful}
use Rattle.wire.proofs.SizeLaws.{limit-62}
use Rattle.wire.proofs.VarintLaws.{length-encode, read-encode, drop-encode}
use Rattle.locmaf_read_block.specs.Records.{number}
use Rattle.locmaf_read_block.specs.Entries.{Entry, says}
use Rattle.block_items.specs.Items.{Item, enc_block}
use Rattle.locmaf_read_block.specs.Written.{entry_of}
use Rattle.locmaf_read_block.proofs.WrittenLaws.{entries-written}
use Rattle.receiver.specs.Object.{header_reads, header_id, length_at, block_reads, block_length, block_at, block_end, is_delta, head_rungs, tuples, entries, saying, payload as payload_of}
use Rattle.cmaf_read_chunk.specs.Accepted.{payload}
use Rattle.locmaf_write_tuples.specs.Items.{list_of}
use Rattle.encoder.specs.Object.{block_items, header_of, object_of}
use Rattle.cmaf_read_facts.specs.Given.{F}
use Rattle.reread.specs.Block.{block_says}
use Rattle.reread.proofs.BlockTells.{tell-block}
use Rattle.reread.proofs.Known.{Known}

-- a header fits, and tells a delta from a full object
header-of : (d : Bool) → (header_of d < limit F) × (eqb (header_of d) 25 ≡ d) × ((eqb (header_of d) 23 || eqb (header_of d) 25) ≡ true)
unfolding header_of
header-of true = (omega (arith, limit-62 Rfc9000), refl, refl)
header-of false = (omega (arith, limit-62 Rfc9000), refl, refl)

module _ {s c : List ℕ} {delta : Bool} (k : Known s c delta) where
  abbrev header : ℕ
  header = header_of delta

  abbrev is : List Item
  is = list_of (block_items F s c delta)

  abbrev block : List ℕ
  block = enc_block F is

  abbrev n : ℕ
  n = length block

  abbrev o : List ℕ
  o = object_of F s c delta ++ payload c

  w : Lawful 0 F
  w = lawful Rfc9000

  -- ---- the two numbers before the block

  header-low : header < limit F
  header-low = (header-of delta).0

  length-low : n < limit F
  length-low = omega (arith, k.few, limit-62 Rfc9000)

  abbrev pre : List ℕ
  pre = encode F header ++ encode F n

  pre-length : length pre ≡ size_of F header + size_of F n
  pre-length = length-append (encode F header) (encode F n) ∙ rw (length-encode F header header-low, length-encode F n length-low)

  o_is : o ≡ pre ++ (block ++ payload c)
  unfolding object_of
  o_is = simp append_assoc

  first : read_f F (drop 0 o) ≡ Some (header, size_of F header)
  first = rw o_is (simp append_assoc (read-encode F w header header-low (encode F n ++ (block ++ payload c))))

  length-at : length_at F o ≡ size_of F header
  unfolding length_at number
  length-at = rw first (zero-add (size_of F header))

  second : read_f F (drop (length_at F o) o) ≡ Some (n, size_of F n)
  second =
      rw (length-at, o_is)
      (simp append_assoc (rw (drop-encode F w header header-low (encode F n ++ (block ++ payload c))) (read-encode F w n length-low (block ++ payload c))))

  block-at : block_at F o ≡ length pre
  unfolding block_at number
  block-at = rw (second, length-at) (sym pre-length)

  block-end : block_end F o ≡ length pre + n
  unfolding block_end block_length number
  block-end = rw (block-at, second)

  -- ---- what is read

  pub kind-is : is_delta F o ≡ delta
  unfolding is_delta header_id number
  kind-is = rw first (header-of delta).1

  pub heads-hold : Hold (head_rungs F o)
  unfolding head_rungs header_reads header_id block_reads block_length number
  heads-hold =
      let long : length o ≡ length pre + (n + length (payload c)) = ap length o_is ∙ simp length-append in
      let fits : n ≤ length o - (size_of F header + size_of F n) = omega (arith, pre-length) in
      (rw first, (rw first (header-of delta).2, (rw (second, length-at) (le-leb _ _ fits), (rw second (le-leb _ _ k.few), tt))))

  -- its tuples are the items, and so it says of every id what is said
  pub tuples-are : tuples F o ≡ Some (map (entry_of F) is)
  unfolding tuples
  tuples-are = rw (block-end, block-at, o_is) (entries-written F w pre (payload c) is ((tell-block k).all-writable length-low))

  pub entries-are : entries F o ≡ map (entry_of F) is
  unfolding entries
  entries-are = rw tuples-are

  pub said : saying F o ≡ block_says s c delta
  said = fun_ext (λ id. ap (λ (es : List Entry). says F es id) entries-are ∙ (tell-block k).says-are id zero-le)

  pub payload-is : payload_of F o ≡ payload c
  unfolding payload_of
  payload-is = rw (block-end, o_is, ← append_assoc) (drop_at (pre ++ block) (payload c) (length pre + n) (length-append pre block))

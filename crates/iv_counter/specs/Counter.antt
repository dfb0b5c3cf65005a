-- An IV as a counter. 02, order 6: "if each IV follows, never past its size, from the one before it by that one's protected bytes, divided by 16 and rounded up, as a
-- big-endian counter of 8 or 16 bytes".
use Rattle.std.specs.Prelude.{ℕ, zero, suc, ◌+◌, ◌-◌, ◌*◌, ◌/◌, ◌%◌, ◌^◌, ◌≤◌, ◌≡◌, true, cond, List, [], ◌∷◌, ◌++◌, eqb, leb, length, take, drop}
use Rattle.std.proofs.Math.Seq.{slice}
use Rattle.field_table.specs.Lines.{ivs_at}
use Rattle.iv_counter.specs.declared.Counter.{Counter}

-- ==== The rules

-- "divided by 16 and rounded up": the bytes of a sample are added up before (D151)
unfoldable pub blocks : ℕ → ℕ
blocks bytes = (bytes + 15) / 16

-- the counters of samples with the protected bytes `own`, behind the counter c of a sample with so many: "each IV follows .. from the one before it by that one's
-- protected bytes"
unfoldable pub following : ℕ → ℕ → List ℕ → List ℕ
following c bytes [] = []
following c bytes (own ∷ rest) = (c + blocks bytes) ∷ following (c + blocks bytes) own rest

-- how many counters there are of k words
abbrev pub counters : ℕ → ℕ
counters k = 2 ^ (64 * k)

-- the counter that the words of an IV are, the highest first
unfoldable pub counter_of : List ℕ → ℕ
counter_of [] = 0
counter_of (w ∷ ws) = w * counters (length ws) + counter_of ws

-- and the k words of a counter
unfoldable pub counter_words : ℕ → ℕ → List ℕ
counter_words zero c = []
counter_words (suc k) c = (c / counters k) % 2 ^ 64 ∷ counter_words k c

-- the counters of n IVs of k words each
unfoldable pub counters_of : ℕ → ℕ → List ℕ → List ℕ
counters_of k zero ws = []
counters_of k (suc n) ws = counter_of (take k ws) ∷ counters_of k n (drop k ws)

-- and the words of each of them
unfoldable pub all_words : ℕ → List ℕ → List ℕ
all_words k [] = []
all_words k (c ∷ cs) = counter_words k c ++ all_words k cs

-- the counter of the IV with the number i of a set, by its words
unfoldable pub counter_at : ℕ → ℕ → List ℕ → ℕ
counter_at k i w = counter_of (slice (ivs_at + 1 + i * k) (ivs_at + 1 + i * k + k) w)

-- ==== What only mirrors the code

-- the largest first word of two, the first being 0 where there is room for one
abbrev pub top_of : ℕ → ℕ
top_of k = cond (eqb k 2) 0xffff_ffff_ffff_ffff 0

-- the counter n, as code has it: of k words, unless it passes them
pub record Counts (k n : ℕ) (c : Counter) : Type 0 where
  pub fits : c.ok ≡ leb n (counters k - 1)
  pub is : c.ok ≡ true → n ≡ c.high * 2 ^ 64 + c.low
  pub top : c.high ≤ top_of k

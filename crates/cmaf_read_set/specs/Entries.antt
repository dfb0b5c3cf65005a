-- What the entries of a `senc` say, one after another: k of them from a place on. 01: "Ids 9, 11, 13, 15 as `senc` has them."
-- ==== The rules
use Rattle.std.specs.Prelude.{ℕ, zero, suc, ◌+◌, ◌*◌, ◌/◌, List, [], ◌∷◌, ◌++◌}
use Rattle.cmaf_read_tree.specs.Numbers.{u16, u32, u64}
use Rattle.cmaf_read_trun.specs.Samples.{each_from}
use Rattle.cmaf_read_senc.specs.declared.entries.Entries.{Entries}
use Rattle.cmaf_read_senc.specs.Entries.{pairs_at, length_at}

-- an IV as words of eight bytes
unfoldable pub iv_words : List ℕ → ℕ → ℕ → List ℕ
iv_words c k at = each_from (λ j. u64 c (at + 8 * j)) k 0

-- clear and protected bytes of k subsamples that stand from a place on
unfoldable pub clear_bytes : List ℕ → ℕ → ℕ → List ℕ
clear_bytes c k at = each_from (λ j. u16 c (at + 6 * j)) k 0

unfoldable pub protected_bytes : List ℕ → ℕ → ℕ → List ℕ
protected_bytes c k at = each_from (λ j. u32 c (at + 6 * j + 2)) k 0

-- something of each of k entries, one after another from a place on
unfoldable pub all_from : List ℕ → Entries → (ℕ → List ℕ) → ℕ → ℕ → List ℕ
all_from c e of zero at = []
all_from c e of (suc k) at = of at ++ all_from c e of k (at + length_at c e at)

module _ (c : List ℕ) (e : Entries) (k at : ℕ) where
  abbrev pub all_ivs : List ℕ
  all_ivs = all_from c e (iv_words c (e.iv / 8)) k at

  abbrev pub all_counts : List ℕ
  all_counts = all_from c e (λ p. pairs_at c e p ∷ []) k at

  abbrev pub all_clear : List ℕ
  all_clear = all_from c e (λ p. clear_bytes c (pairs_at c e p) (p + e.iv + 2)) k at

  abbrev pub all_protected : List ℕ
  all_protected = all_from c e (λ p. protected_bytes c (pairs_at c e p) (p + e.iv + 2)) k at

-- What a refused object leaves of its share.
use Rattle.std.specs.Prelude.{ℕ, Bool, cond, ◌&&◌, ◌||◌, List, eqb, leb}
use Rattle.share_words.specs.Share.{dropped}

-- ==== The rules

-- 01: "Numbers 12 to 16 drop the slot's reference; every other refusal changes nothing" (D120). 02, order 6: "21, .. dropping the reference".
abbrev pub dropped_by : ℕ → Bool
dropped_by k = (leb 12 k && leb k 16) || eqb k 21

unfoldable pub after_refusal : ℕ → List ℕ → List ℕ
after_refusal k s = cond (dropped_by k) (dropped s) s

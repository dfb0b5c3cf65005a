-- The words that a refusal leaves in a share. Assumes nothing.
use Prim.Native.Nat.{ℕ}
use mathlib.Core.Path.{◌≡◌, refl, sym, ◌∙◌}
use mathlib.Core.Bool.{Bool, true, false, cond}
use mathlib.Core.List.{List}
use lib.ListN.{length}
use Rattle.share_words.specs.Share.{share_len, dropped}
use Rattle.slots.proofs.StaysLawful.{dropped-long}
use Rattle.answers.specs.Refusals.{dropped_by, after_refusal}

module _ (k : ℕ) (s : List ℕ) where
  pub refusal-drops : dropped_by k ≡ true → dropped s ≡ after_refusal k s
  unfolding after_refusal
  refusal-drops e = rw e

  pub refusal-keeps : dropped_by k ≡ false → s ≡ after_refusal k s
  unfolding after_refusal
  refusal-keeps e = rw e

  pub refusal-long : length s ≡ share_len → length (after_refusal k s) ≡ length s
  unfolding after_refusal
  refusal-long l = go (dropped_by k)
    where
      go : (b : Bool) → length (cond b (dropped s) s) ≡ length s
      go true = dropped-long s l ∙ sym l
      go false = refl

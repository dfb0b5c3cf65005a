-- Items that weigh the same: a sum is the same whatever the order of its parts. Assumes nothing.
use Prim.Native.Nat.{ℕ, ◌+◌}
use mathlib.Core.Path.{◌≡◌, sym, ◌∙◌, ap}
use mathlib.Core.Bool.{true, ◌&&◌}
use mathlib.Core.List.{List}
use lib.ListN.{length, length-append}
use Rattle.laws.proofs.TestLaws.{and_left, and_right}
use Rattle.std.specs.Prelude.{Option}
use Rattle.wire.specs.declared.form.Row.{Row}
use Rattle.laws.specs.Options.{is_some}
use Rattle.locmaf_write_tuples.specs.Items.{Items, ◌before◌, bytes_of, weight, sum_of, WeighedAs}
use Rattle.locmaf_write_tuples.proofs.ItemLaws.{before-some, before-assoc, bytes-before, weight-before, weight-fits, sum_comm}

module _ (F : List Row) where
  -- both fit or neither does, and then they have as many bytes
  abbrev pub Alike : Items → Items → Type 0
  Alike a b = weight F a ≡ weight F b

  -- a weight is that of both
  pub weighed-alike : {a b : Items} {n : ℕ} {w : Option ℕ} → Alike a b → WeighedAs F a n w → WeighedAs F b n w
  weighed-alike h k = record { found = k.found ∙ h; small = k.small }

  pub alike-fit : (a b : Items) → Alike a b → is_some a ≡ is_some b
  alike-fit a b h = sym (weight-fits F a) ∙ ap is_some h ∙ weight-fits F b

  -- two parts that fit
  pub parts-long : (a b : Items) → is_some (a before b) ≡ true → length (bytes_of F (a before b)) ≡ length (bytes_of F a) + length (bytes_of F b)
  parts-long a b s =
      let both : (is_some a && is_some b) ≡ true = sym (before-some a b) ∙ s in
      ap length (bytes-before F a b (and_left (is_some a) (is_some b) both) (and_right (is_some a) (is_some b) both)) ∙ length-append (bytes_of F a) (bytes_of F b)

  -- the same under another name
  alike_is : {a b : Items} → a ≡ b → Alike a b
  alike_is e = ap (weight F) e

  -- they change places
  swapped : (a b : Items) → Alike (a before b) (b before a)
  swapped a b = weight-before F a b ∙ sum_comm (weight F a) (weight F b) ∙ sym (weight-before F b a)

  -- the same stands before both
  behind : (c a b : Items) → Alike a b → Alike (c before a) (c before b)
  behind c a b h = weight-before F c a ∙ ap (sum_of (weight F c)) h ∙ sym (weight-before F c b)

  -- two parts are put between three others
  pub interleaved : (a b c p q : Items) → Alike ((a before b before c) before p before q) (a before p before b before q before c)
  interleaved a b c p q =
      let last : Alike (q before b before c) (b before q before c) =
      swapped q (b before c) ∙ alike_is (before-assoc b c q) ∙ behind b _ _ (swapped c q) in
      let rest : Alike ((b before c) before p before q) (p before b before q before c) =
      swapped (b before c) (p before q) ∙ alike_is (before-assoc p q (b before c)) ∙ behind p _ _ last in
      alike_is (before-assoc a (b before c) (p before q)) ∙ behind a _ _ rest

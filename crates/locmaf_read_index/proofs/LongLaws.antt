-- No words of an index are lost. Assumes nothing.
use Prim.Native.Nat.{ℕ}
use mathlib.Core.Path.{◌≡◌, refl, ◌∙◌}
use mathlib.Core.Bool.{Bool, true, false, ◌&&◌}
use mathlib.Core.List.{List, [], ◌∷◌}
use lib.ListN.{length}
use Rattle.wire.specs.declared.form.Row.{Row}
use Rattle.locmaf_read_block.specs.declared.tuples.Tuple.{Tuple}
use Rattle.std.specs.Prelude.{Option, Some, None}
use Rattle.locmaf_read_index.specs.declared.index.Indexed.TheVariants.{Cut as CutBlock}
use Rattle.locmaf_read_index.specs.Index.{weighed, heard, fresh, noted, index, indexed, index_at}
use Rattle.locmaf_read_index.proofs.IndexLoop.{noted-length}
use Rattle.laws.specs.Options.{on_option}

indexed-length : (F : List Row) (s : List ℕ) (ts : List Tuple) (whole clean : Bool) (words events : List ℕ)
    → length (indexed F s ts whole clean words events).words ≡ length words
unfolding indexed
indexed-length F s [] true clean words events = refl
indexed-length F s [] false clean words events = refl
indexed-length F s (t ∷ ts) whole clean words events =
    go (weighed F s t.kind)
    (λ k. indexed-length F s ts whole (fresh words t.id && clean) (noted words t k) (heard F s t.kind events) ∙ noted-length words t k)
  where
    go : (c : Option ℕ)
        → ((k : ℕ) → length (indexed F s ts whole (fresh words t.id && clean) (noted words t k) (heard F s t.kind events)).words ≡ length words)
        → length
        (on_option c
        (λ k. indexed F s ts whole (fresh words t.id && clean) (noted words t k) (heard F s t.kind events))
        (index CutBlock words (heard F s t.kind events))
        ).words
        ≡ length words
    go (Some k) ih = ih k
    go None ih = refl

pub index-length : (F : List Row) (s : List ℕ) (at end : ℕ) (words events : List ℕ) → length (index_at F s at end words events).words ≡ length words
unfolding index_at
index-length F s at end words events = indexed-length F s _ _ true words events

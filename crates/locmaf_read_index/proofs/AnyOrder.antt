-- What is answered of a block doesn't depend on the order in which its entries stand. Assumes nothing.
use Prim.Native.Nat.{ℕ, ◌≤◌}
use mathlib.Core.Path.{◌≡◌, sym, ◌∙◌, ap}
use mathlib.Core.Bool.{cond}
use mathlib.Core.List.{List, Permᴰ}
use Rattle.std.specs.Prelude.{Some}
use lib.ListN.{length}
use Rattle.locmaf_read_index.specs.Places.{index_len}
use Rattle.wire.specs.declared.form.Row.{Row}
use Rattle.locmaf_read_index.specs.declared.index.Indexed.TheVariants.{Cut}
use Rattle.locmaf_read_block.specs.Entries.{Entry, entries_at}
use Rattle.locmaf_read_index.specs.Index.{told, index_at}
use Rattle.locmaf_read_index.specs.Held.{answer_of}
use Rattle.locmaf_read_index.proofs.AnswerLaws.{Blank, index-answer}
use Rattle.locmaf_read_block.proofs.Order.{readable-perm, lawful-perm}

-- lawful or not, readable or not: the same answer
pub answer-perm : (F : List Row) {es us : List Entry} → Permᴰ es us → answer_of F (Some es) ≡ answer_of F (Some us)
unfolding answer_of
answer-perm F d = λ j. cond (readable-perm F d j) (told (lawful-perm d j)) Cut

-- two blocks with the same entries, in whatever order they stand: the same answer
pub any_order : (F : List Row) (s s' : List ℕ) (at at' end end' : ℕ) (words words' events events' : List ℕ) (es us : List Entry)
    → end ≤ length s → end' ≤ length s' → length words ≡ index_len → length words' ≡ index_len → Blank words → Blank words'
    → entries_at F s at end ≡ Some es → entries_at F s' at' end' ≡ Some us → Permᴰ es us
    → (index_at F s at end words events).answer ≡ (index_at F s' at' end' words' events').answer
any_order F s s' at at' end end' words words' events events' es us h h' l l' z z' e e' d =
    index-answer F s at end words events h l z
    ∙ ap (answer_of F) e
    ∙ answer-perm F d
    ∙ sym (index-answer F s' at' end' words' events' h' l' z' ∙ ap (answer_of F) e')

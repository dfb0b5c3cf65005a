-- No chunk reaches the case for id 16, and the set of an accepted one has none. Assumes nothing.
use Prim.Native.Nat.{ℕ}
use mathlib.Core.Path.{◌≡◌, refl, sym, ◌∙◌, ap}
use mathlib.Core.Bool.{Bool, false, and-false}
use mathlib.Core.List.{List, [], ◌∷◌}
use Rattle.std.specs.Prelude.{None}
use borrow.Author.Tests.{eq-eqb}
use Rattle.track.specs.declared.Track.{Track}
use Rattle.track.proofs.TrackLaws.{iv-size-le}
use Rattle.field_table.specs.Lines.{lines, line_for}
use Rattle.cmaf_read_senc.proofs.SencLaws.{entries-iv}
use Rattle.cmaf_read_samples.specs.Held.{held_if}
use Rattle.cmaf_read_set.specs.Set.{held_for}
use Rattle.cmaf_read_set.proofs.SetSays.{set_says}
use Rattle.cmaf_read_set.proofs.StoredLaws.{no-sixteen}
use Rattle.cmaf_read_chunk.specs.Accepted.{inner, fields}
use Rattle.cmaf_read_chunk.specs.IvSize.{iv_size, iv_size_differs, NoIvSize}
use Rattle.cmaf_read_chunk.proofs.ChunkFacts.{set-fits}

-- the entries are cut by the parameter
never : (t : Track) (c : List ℕ) → iv_size_differs t c ≡ false
unfolding iv_size_differs iv_size
never t c = rw (eq-eqb _ _ (entries-iv t c (inner c).senc), and-false) refl

-- the definition of the set, which says nothing of id 16
silent : (t : Track) (c : List ℕ) → held_for t c (inner c) 16 ≡ None
unfolding lines line_for
silent t c = no-sixteen t c (inner c)

absent-case : (values : List ℕ) → None ≡ held_if false values
unfolding held_if
absent-case values = refl

pub no-iv-size : NoIvSize
unfolding fields
no-iv-size =
    record {
      unreached = never;
      as-ruled = λ t c. silent t c ∙ absent-case (iv_size t c ∷ []) ∙ ap (λ (b : Bool). held_if b (iv_size t c ∷ [])) (sym (never t c));
      absent = λ F t c iv h. (set_says t c (inner c) (set-fits F t c h (iv-size-le t.protection t.iv_size iv))).iv-size;
    }

-- What the calls of `set` ask: the rows of the samples, whether their sizes are equal, and how many words there are. Assumes nothing.
use Prim.Native.Nat.{ℕ, ◌≤◌}
use mathlib.Core.Path.{◌≡◌, sym, ◌∙◌, subst}
use mathlib.Core.Bool.{Bool}
use mathlib.Core.List.{List}
use lib.ListN.{length, get_or, set, replicate, length-set}
use Rattle.constants.specs.Maxima.{samples_most}
use Rattle.track.specs.declared.Track.{Track}
use Rattle.cmaf_read_shape.specs.declared.inner.Inner.{Inner}
use Rattle.field_table.specs.Lines.{set_len}
use Rattle.field_table.proofs.LineLaws.{zeros-long}
use Rattle.cmaf_read_moof.specs.declared.defaults.Defaults.{Defaults}
use Rattle.cmaf_read_trun.specs.declared.rows.Run.{Run}
use Rattle.cmaf_read_trun.specs.Rows.{RowsIn}
use Rattle.cmaf_read_trun.specs.Samples.{sizes_of}
use Rattle.cmaf_read_trun.proofs.RowLaws.{rows_in}
use Rattle.cmaf_read_samples.specs.Sizes.{all_same}
use Rattle.cmaf_read_set.specs.Set as G
use Rattle.cmaf_read_set.specs.Gatherable.{Gatherable}

module _ (t : Track) (c : List ℕ) (f : Inner) where
  -- the rows of the samples lie in the chunk, and are few
  pub rows-ready : Gatherable t c f → (r : Run) → r ≡ G.run t c f → RowsIn c r × (r.count ≤ samples_most)
  rows-ready g r e = subst (λ (k : Run). RowsIn c k × (k.count ≤ samples_most)) (sym e) (rows_in c f.trun g.trun-ok g.trun-in, g.samples)

  -- whether the sizes are equal, by what was read
  pub equal_is : (d : Defaults) (r : Run) {equal : Bool} → d ≡ G.defaults t c f → r ≡ G.run t c f
      → equal ≡ all_same (get_or (sizes_of c r d.size) 0 0) (sizes_of c r d.size) → equal ≡ G.equal t c f
  equal_is d r ed er h = h ∙ (λ j. all_same (get_or (sizes_of c (er j) (ed j).size) 0 0) (sizes_of c (er j) (ed j).size))

-- zeros with BMDT and the count
pub begun-long : (x : List ℕ) (b n : ℕ) → x ≡ replicate set_len 0 → length (set (set x 0 b) 1 n) ≡ set_len
begun-long x b n e = length-set (set x 0 b) 1 n ∙ length-set x 0 b ∙ zeros-long e

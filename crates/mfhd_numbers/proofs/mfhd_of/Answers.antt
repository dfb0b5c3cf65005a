-- `mfhd_numbers::mfhd_of` meets its contract: the `moof` lies in the chunk, and so does the box in it.
use Prim.Native.Nat.{ℕ}
use mathlib.Core.Path.{◌≡◌, ◌∙◌}
use mathlib.Core.List.{List}
use Rattle.cmaf_read_shape.specs.declared.top.Top.{Top}
use Rattle.cmaf_read_shape.specs.declared.inner.Inner.{Inner}
use Rattle.cmaf_read_shape.specs.Parts.{Inside}
use Rattle.cmaf_read_shape.specs.Top.{top_of}
use Rattle.cmaf_read_shape.specs.Inner.{inner_of}
use Rattle.cmaf_read_shape.proofs.TopLaws.{top_in, moof-inside}
use Rattle.cmaf_read_shape.proofs.InnerLaws.{inner-in, mfhd-inside}
use Rattle.mfhd_numbers.proofs.mfhd_of.Goals as goal

moof-in : (c : List ℕ) → Inside c (top_of c).moof
moof-in c = moof-inside (top_in c)

mfhd-in : (c : List ℕ) → Inside c (inner_of c (top_of c).moof).mfhd
mfhd-in c = mfhd-inside (moof-in c) (inner-in c (top_of c).moof (moof-in c))

found : (c : List ℕ) (t : Top) (f : Inner) → t ≡ top_of c → f ≡ inner_of c t.moof
    → (f.mfhd ≡ (inner_of c (top_of c).moof).mfhd) × Inside c f.mfhd
found c t f p q =
    let e : f.mfhd ≡ (inner_of c (top_of c).moof).mfhd = (λ i. (q i).mfhd) ∙ (λ i. (inner_of c (p i).moof).mfhd) in
    (e, rw e (mfhd-in c))

pub inner_of-f-requires : goal.inner_of-f-requires
inner_of-f-requires c = rw c.top_of-t.ensures (moof-in c.args.c.now)

pub returns : goal.returns
returns c = found c.args.c.now _ _ c.top_of-t.ensures c.inner_of-f.ensures

-- The rules, by what code found of each. Assumes nothing.
use Prim.Native.Nat.{ℕ, ◌/◌, ◌%◌}
use mathlib.Core.Path.{◌≡◌, refl, sym, ◌∙◌, ap}
use mathlib.Core.Bool.{Bool, true, false, cond, not, ◌&&◌, ◌||◌}
use mathlib.Core.List.{List}
use borrow.Author.Tests.{eq-eqb, ne_eqb}
use lib.Dec.{eqb}
use Rattle.laws.specs.Tests.{◌and◌, all_le, sum}
use Rattle.laws.proofs.TestLaws.{and_is}
use Rattle.media.specs.Flags.{only}
use Rattle.track.specs.declared.Track.{Track}
use Rattle.track.specs.Track.{cenc}
use Rattle.byte_parts.specs.declared.Part.{Part}
use Rattle.cmaf_read_shape.specs.declared.top.Top.{Top}
use Rattle.cmaf_read_shape.specs.declared.inner.Inner.{Inner}
use Rattle.cmaf_read_shape.specs.Parts.{body_of}
use Rattle.event_value.specs.Events.{Event}
use Rattle.cmaf_read_prelude.specs.Styp.{minor_version}
use Rattle.cmaf_read_prelude.specs.Prft.{prft_track}
use Rattle.cmaf_read_moof.specs.declared.defaults.Defaults.{Defaults}
use Rattle.cmaf_read_trun.specs.declared.rows.Run.{Run}
use Rattle.cmaf_read_trun.specs.Rows.{sample_flags, offsets, offset_leads, first_flags}
use Rattle.cmaf_read_trun.specs.Samples.{column_of, sizes_of}
use Rattle.cmaf_read_trun.proofs.RowLaws.{rows_in}
use Rattle.cmaf_read_rules.specs.Rules.{defaults, run, clocks_ok, outer_ok, offset_ok, flags_ok, offsets_ok, sizes_ok, unprotected_ok, protected_ok, rules_ok, Right}
use Rattle.cmaf_read_trun.specs.Columns.{all_only, offset_most, FewRows}

-- code's row of seven tests is the definition's
row-seven : (o k a b g s l : Bool) → ((o && k) && ((a && (b && g)) && (s && l))) ≡ (o and k and a and b and g and s and l)
unfolding ◌and◌
row-seven false k a b g s l = refl
row-seven true false a b g s l = refl
row-seven true true false b g s l = refl
row-seven true true true false g s l = refl
row-seven true true true true false s l = refl
row-seven true true true true true false l = refl
row-seven true true true true true true l = refl

-- `styp`, `prft` and `tfhd`, by what was read of them
pub outer-by : (t : Track) (c : List ℕ) (top : Top) (d : Defaults) (m p : ℕ) → m ≡ minor_version c top.styp → p ≡ prft_track c top.prft t.id
    → (eqb m 0 && (eqb p t.id && eqb d.track t.id)) ≡ outer_ok t c top d
unfolding outer_ok
outer-by t c top d m p x y = λ j. eqb (x j) 0 && (eqb (y j) t.id && eqb d.track t.id)

module _ (c : List ℕ) where
  -- the flags, by the tests of each field
  pub flags-by : (trun : Part) (default : ℕ) (r : Run) (x y z : Bool) (v : ℕ) → x ≡ only default → y ≡ only v → v ≡ first_flags c trun
      → z ≡ all_only (column_of c r sample_flags) → ((x && y) && z) ≡ flags_ok c trun default r
  unfolding flags_ok
  flags-by trun default r x y z v p q w s =
      (λ j. (p j && q j) && s j) ∙ (λ j. (only default && only (w j)) && all_only (column_of c r sample_flags)) ∙ sym (and_is _ _)

  -- the sizes, by their sum and the payload
  pub sizes-by : (mdat : Part) (default : ℕ) (r : Run) (s : ℕ) (b : Part) → s ≡ sum (sizes_of c r default) → b ≡ body_of mdat
      → (eqb s b.len && (not (eqb r.count 0) || eqb (r.word % 0x100_0000) 0x1)) ≡ sizes_ok c mdat default r
  unfolding sizes_ok
  sizes-by mdat default r s b p q = λ j. eqb (p j) (q j).len && (not (eqb r.count 0) || eqb (r.word % 0x100_0000) 0x1)

  module _ (r : Run) where
    abbrev low : Bool
    low = all_le offset_most (column_of c r offsets)

    -- offsets of version 1, and of version 0
    pub offsets-signed : r.word / 0x100_0000 ≡ 1 → true ≡ offsets_ok c r
    unfolding offsets_ok
    offsets-signed h = sym (ap (λ (b : Bool). b || low) (eq-eqb (r.word / 0x100_0000) 1 h))

    pub offsets-low : (r.word / 0x100_0000 ≡ 1 → ⊥) → (b : Bool) → b ≡ low → b ≡ offsets_ok c r
    unfolding offsets_ok
    offsets-low h b e = e ∙ sym (ap (λ (x : Bool). x || low) (ne_eqb (r.word / 0x100_0000) 1 h))

-- ---- of a chunk, by what was read of it

module _ (t : Track) (c : List ℕ) (top : Top) (f : Inner) where
  -- the rows of the run lie in the chunk, and are few
  pub run-right : (r : Run) → Right t c top f → r ≡ run t c top f → FewRows c r
  run-right r w e = rw e (rows_in c f.trun w.trun-ok w.trun-in, w.samples)

  -- the rule on protection, where no `senc` stands
  abbrev rest : Bool
  rest = cond (eqb f.senc.len 0) (unprotected_ok t c top f) (protected_ok t c top f)

  pub rest-bare : (r : Run) → r ≡ run t c top f → f.senc.len ≡ 0 → (not (eqb t.protection cenc) || eqb r.count 0) ≡ rest
  unfolding unprotected_ok
  rest-bare r u h =
      (λ j. not (eqb t.protection cenc) || eqb (u j).count 0)
      ∙ sym (ap (λ (b : Bool). cond b (unprotected_ok t c top f) (protected_ok t c top f)) (eq-eqb f.senc.len 0 h))

  -- and where one does
  pub rest-protected : (f.senc.len ≡ 0 → ⊥) → (b : Bool) → b ≡ protected_ok t c top f → b ≡ rest
  rest-protected h b e = e ∙ sym (ap (λ (x : Bool). cond x (unprotected_ok t c top f) (protected_ok t c top f)) (ne_eqb f.senc.len 0 h))

  -- every rule, by the tests of each
  pub rules-by : (events : List Event) (d : Defaults) (r : Run) → d ≡ defaults t c top f → r ≡ run t c top f → (o k a b g s l : Bool)
      → o ≡ outer_ok t c top d → k ≡ clocks_ok events → a ≡ offset_leads c f.trun top.moof → b ≡ flags_ok c f.trun d.flags r
      → g ≡ offsets_ok c r → s ≡ sizes_ok c top.mdat d.size r → l ≡ rest
      → ((o && k) && ((a && (b && g)) && (s && l))) ≡ rules_ok t c top f events
  unfolding rules_ok offset_ok
  rules-by events d r e u o k a b g s l p q v w x y z =
      row-seven o k a b g s l
      ∙ (λ j. p j and q j and v j and w j and x j and y j and z j)
      ∙ (λ j.
      outer_ok t c top (e j)
      and clocks_ok events
      and offset_leads c f.trun top.moof
      and flags_ok c f.trun (e j).flags (u j)
      and offsets_ok c (u j)
      and sizes_ok c top.mdat (e j).size (u j)
      and rest)

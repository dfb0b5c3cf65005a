-- Ids 9, 11, 13 and 15: the `senc`, read, stands as the set has it. Assumes nothing.
use Prim.Native.Nat.{ℕ, ◌+◌, ◌*◌, ◌/◌, ◌^◌, ◌<◌}
use native.Mathlib.Omega.{arith}
use mathlib.Core.Path.{◌≡◌, refl, sym, ◌∙◌, ap}
use mathlib.Core.Bool.{Bool, true, false, false≢true, not, ◌&&◌, ◌||◌, and-true}
use mathlib.Core.List.{List, ◌++◌}
use borrow.Author.Tests.{eqb-true, ne_eqb, not-false}
use lib.Dec.{eqb}
use lib.ListN.{length}
use Rattle.laws.specs.Bytes.{be}
use Rattle.laws.specs.Tests.{sum}
use Rattle.track.specs.declared.Track.{Track}
use Rattle.track.specs.Track.{iv_ok, cenc}
use Rattle.track.proofs.TrackLaws.{iv-size-le}
use Rattle.field_set.specs.Lawful.{has, values_of, value_at, count_in}
use Rattle.laws.proofs.TestLaws.{neither}
use Rattle.boxes.specs.Box as B
use Rattle.byte_parts.specs.declared.Part.{Part}
use Rattle.cmaf_read_shape.specs.Parts.{part, end_of}
use Rattle.boxes.proofs.BoxLaws.{length-full_box}
use Rattle.cmaf_read_facts.specs.Given.{Canonical}
use Rattle.boxes.specs.Box.{flag_when}
use Rattle.cmaf_write_senc.specs.Protected.{senc_entries, senc_box}
use Rattle.cmaf_write_senc.specs.Protection.{Protectable}
use Rattle.cmaf_write_senc.proofs.ProtectableLaws.{lawful-protectable}
use Rattle.cmaf_write_senc.proofs.SencLaws.{senc-parts}
use Rattle.cmaf_write_moof.proofs.MoofLaws.{flag-low}
use Rattle.cmaf_read_senc.specs.declared.entries.Entries.{Entries}
use Rattle.cmaf_read_senc.specs.Entries.{entries_of}
use Rattle.cmaf_read_set.specs.Entries.{all_ivs, all_counts, all_clear, all_protected}
use Rattle.cmaf_read_samples.specs.Held.{held_if}
use Rattle.cmaf_read_shape.specs.Left.{Left}
use Rattle.cmaf_read_shape.proofs.LeftLaws.{left-on, left-number}
use Rattle.rebuilt.proofs.FullBoxes.{full-word, full_body}
use Rattle.rebuilt.proofs.SencValues.{values_from, pairs-sum}
use Rattle.rebuilt.specs.Read.{Senc, lacks, stands}
use Rattle.cmaf_read_samples.proofs.CellLaws.{held_same}
use Rattle.field_rules.proofs.Bounds.{Bounded, bounded}
use Rattle.track.proofs.IvLaws.{iv-eights, iv-stands}
use Rattle.field_set.proofs.RuleLaws.{Ruled, ruled}
use Rattle.rebuilt.proofs.SencBack.{Written}
use Rattle.rebuilt.proofs.SencWalk.{ivs-are, counts-are, clear-are, protected-are}

-- the entries stand up to the end of the box as they were written, and are counted; IVs stand just where they have bytes, the numbers of subsamples fit
pub record Entered (t : Track) (c w : List ℕ) (b : Part) : Type 0 where
  pub written : Written c (end_of b) t w (entries_of t c b) (count_in w) (sum (values_of 11 (count_in w) w)) (entries_of t c b).at
  pub count : (entries_of t c b).count ≡ count_in w
  pub ivs : not (eqb t.iv_size 0) ≡ has 9 w
  pub small : has 11 w ≡ true → (i : ℕ) → i < sum (values_of 11 (count_in w) w) → (value_at 13 i w < 2 ^ 16) × (value_at 15 i w < 2 ^ 32)

module _ {payload : ℕ} (t : Track) (c w : List ℕ) (g : Canonical t w payload) (ok : iv_ok t.protection t.iv_size ≡ true) where
  abbrev n : ℕ
  n = count_in w

  abbrev m : ℕ
  m = t.iv_size / 8

  abbrev pairs : ℕ
  pairs = sum (values_of 11 n w)

  rules : Ruled t n w
  rules = ruled t w g.is_lawful

  bounds : Bounded t w
  bounds = bounded t w g.long (iv-size-le t.protection t.iv_size ok) g.is_lawful

  fits : Protectable t w
  fits = lawful-protectable t w g.long (iv-size-le t.protection t.iv_size ok) g.is_lawful

  -- ---- the box that was written

  module _ (at end : ℕ) (ys : List ℕ) (some : (has 9 w || has 11 w) ≡ true) (h : Left c at end (senc_box t w ++ ys)) where
    abbrev b : Part
    b = part at (length (senc_box t w))

    abbrev list : List ℕ
    list = senc_entries t w n 0 0

    body : Left c (at + 12) (end_of b) (be 4 n ++ list)
    unfolding senc_box
    body =
        let q : at + 12 + length (be 4 n ++ list) ≡ end_of b = omega (arith, length-full_box B.senc 0 (flag_when (has 11 w) 2) (be 4 n ++ list)) in
        rw q at (full_body B.senc 0 (flag_when (has 11 w) 2) (be 4 n ++ list) ys h)

    map_is : (entries_of t c b).map ≡ has 11 w
    unfolding entries_of senc_box
    map_is =
        ap (λ (v : ℕ). eqb v 2) (full-word B.senc 0 (flag_when (has 11 w) 2) _ ys h (omega (arith, flag-low (has 11 w) 2))) ∙ by (has 11 w)
      where
        by : (z : Bool) → eqb (0 * 2 ^ 24 + flag_when z 2) 2 ≡ z
        by true = refl
        by false = refl

    -- IVs stand just where they have bytes
    ivs-stand : not (eqb t.iv_size 0) ≡ has 9 w
    ivs-stand =
        let z : not (eqb n 0) ≡ true = ap not (ne_eqb n 0 (λ (y : n ≡ 0). omega (arith, fits.some some))) in
        iv-stands t.protection t.iv_size ok ∙ sym (rules.ivs ∙ rw z (and-true (eqb t.protection cenc)))

    -- all that is known of its entries
    pub entered : Entered t c w b
    unfolding entries_of
    entered =
        record {
          written =
              record {
                map_is = map_is;
                iv-is = refl;
                no-ivs = λ q. eqb-true _ _ (not-false _ (ivs-stand ∙ q));
                eights = iv-eights t.protection t.iv_size ok;
                counts = λ q i lt. omega (arith, bounds.counts q i lt);
                list = left-on 4 n list (omega arith) body;
                total = pairs-sum w n g.long fits.few;
              };
          count = left-number 4 n list (omega (arith, fits.few)) body;
          ivs = ivs-stand;
          small = λ q i lt.
              let a : has 13 w ≡ true = sym rules.clear ∙ q in
              (omega (arith, bounds.clear a i lt), omega (arith, bounds.protected (sym rules.protected ∙ a) i lt));
        }

  -- ---- the box that was found

  -- a field of the `senc` stands where a test of the entries holds, and its values are read from them
  abbrev Line : Part → (Entries → Bool) → (Entries → ℕ → List ℕ) → ℕ → ℕ → Type 0
  Line b test of id k =
      held_if (not (eqb b.len 0) && test (entries_of t c b)) (of (entries_of t c b) (entries_of t c b).count) ≡ held_if (has id w) (values_from id w k 0)

  found : (test : Entries → Bool) (of : Entries → ℕ → List ℕ) (id k : ℕ) → ((has 9 w || has 11 w) ≡ false → has id w ≡ false)
      → ((b : Part) → Entered t c w b → (test (entries_of t c b) ≡ has id w) × (has id w ≡ true → of (entries_of t c b) n ≡ values_from id w k 0))
      → (b : Part) → Senc t c w b → Line b test of id k
  found test of id k none some b (lacks q z) =
      held_same _ (has id w) _ (values_from id w k 0) (rw z (sym (none q))) (λ y. absurd (false≢true (sym (none q) ∙ y)))
  found test of id k none some b (stands at end ys q p h) =
      let x = entered at end ys q h in
      let r = some (part at (length (senc_box t w))) x in
      let z : eqb (length (senc_box t w)) 0 ≡ false = ne_eqb _ _ (λ (y : length (senc_box t w) ≡ 0). omega (arith, senc-parts t w)) in
      rw p (held_same _ (has id w) _ (values_from id w k 0) (rw z r.0) (λ y. ap (of (entries_of t c (part at (length (senc_box t w))))) x.count ∙ r.1 y))

  -- the four fields
  pub nine-line : (b : Part) → Senc t c w b → Line b (λ e. not (eqb e.iv 0)) (λ e k. all_ivs c e k e.at) 9 (n * m)
  nine-line =
      found (λ e. not (eqb e.iv 0)) (λ e k. all_ivs c e k e.at) 9 (n * m) (λ q. (neither (has 9 w) _ q).0)
      (λ b x. (rw x.written.iv-is x.ivs, λ q. ivs-are x.written q (λ j lt. omega (arith, bounds.ivs q j lt))))

  pub eleven-line : (b : Part) → Senc t c w b → Line b (λ e. e.map) (λ e k. all_counts c e k e.at) 11 n
  eleven-line =
      found (λ e. e.map) (λ e k. all_counts c e k e.at) 11 n (λ q. (neither (has 9 w) _ q).1) (λ b x. (x.written.map_is, counts-are x.written))

  pub thirteen-line : (b : Part) → Senc t c w b → Line b (λ e. e.map) (λ e k. all_clear c e k e.at) 13 pairs
  thirteen-line =
      found (λ e. e.map) (λ e k. all_clear c e k e.at) 13 pairs (λ q. sym rules.clear ∙ (neither (has 9 w) _ q).1)
      (λ b x. (x.written.map_is ∙ rules.clear, λ q. let z = rules.clear ∙ q in clear-are x.written z (x.small z)))

  pub fifteen-line : (b : Part) → Senc t c w b → Line b (λ e. e.map) (λ e k. all_protected c e k e.at) 15 pairs
  fifteen-line =
      let same : has 11 w ≡ has 15 w = rules.clear ∙ rules.protected in
      found (λ e. e.map) (λ e k. all_protected c e k e.at) 15 pairs (λ q. sym same ∙ (neither (has 9 w) _ q).1)
      (λ b x. (x.written.map_is ∙ same, λ q. let z = same ∙ q in protected-are x.written z (x.small z)))

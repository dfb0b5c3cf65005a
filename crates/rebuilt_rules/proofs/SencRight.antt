-- The `senc` that is written is right: its entries use it up, and have as many subsamples as the set. Assumes nothing.
use Prim.Native.Nat.{ℕ, zero, suc, ◌+◌, ◌*◌, ◌^◌, ◌≤◌, ◌<◌}
use native.Mathlib.Omega.{arith}
use mathlib.Core.Path.{◌≡◌, refl, sym, ◌∙◌, ap, ap₂}
use mathlib.Core.Bool.{Bool, true, false, not, ◌||◌}
use mathlib.Core.List.{List, ◌++◌}
use borrow.Author.Tests.{ne_eqb, eqb-true, eqb-false, not-true, le-leb, le-ltb}
use lib.Dec.{eqb}
use lib.ListN.{length}
use lib.Seq.{slice, length-slice}
use Rattle.std.specs.Prelude.{Some}
use Rattle.laws.specs.Gate.{gate}
use Rattle.laws.specs.Tests.{sum}
use Rattle.laws.proofs.TestLaws.{and_left, either}
use Rattle.laws.proofs.SliceLaws.{drop-slice}
use Rattle.boxes.specs.Box as B
use Rattle.cmaf_read_tree.specs.Numbers.{u32}
use Rattle.track.specs.declared.Track.{Track}
use Rattle.track.specs.Track.{none, cenc, iv_ok}
use Rattle.field_set.specs.Lawful.{has, values_of, value_at, count_in}
use Rattle.field_set.proofs.MarkLaws.{marks}
use Rattle.boxes.specs.Box.{flag_when}
use Rattle.cmaf_write_senc.specs.Protected.{senc_entries, senc_box}
use Rattle.cmaf_write_saiz.specs.Saiz.{info_size}
use Rattle.cmaf_write_senc.proofs.SencLaws.{senc-parts}
use Rattle.cmaf_write_moof.proofs.MoofLaws.{flag-low}
use Rattle.byte_parts.specs.declared.Part.{Part}
use Rattle.cmaf_read_shape.specs.Parts.{part, end_of}
use Rattle.cmaf_read_shape.specs.Left.{Left}
use Rattle.cmaf_read_senc.specs.declared.entries.Entries.{Entries}
use Rattle.cmaf_read_senc.specs.Entries.{pairs_at, length_at, entries_of, more, entries_in, senc_filled, senc_ok, senc_count, subsamples}
use Rattle.cmaf_read_senc.proofs.EntryLaws.{map-least, pairs-here}
use Rattle.rebuilt.proofs.FullBoxes.{full-word}
use Rattle.rebuilt.proofs.SencBack.{pairs_is, left-next}
use Rattle.rebuilt.proofs.SencValues.{pairs_from}
use Rattle.field_set.proofs.RuleLaws.{ruled}
use Rattle.cmaf_read_facts.specs.Given.{Canonical}
use Rattle.rebuilt_set.proofs.SencLines.{Entered, entered}

-- k entries use up what was written of them
entries-use : (t : Track) (c w : List ℕ) (b : Part) → Entered t c w b → (k i j p : ℕ) → i + k ≡ count_in w → Left c p (end_of b) (senc_entries t w k i j)
    → entries_in (entries_of t c b) k (slice p (end_of b) c) ≡ Some (pairs_from w k i)
unfolding entries_in gate pairs_from senc_entries more
entries-use t c w b x zero i j p q h = rw h.is
entries-use t c w b x (suc k) i j p q h =
    let e : Entries = entries_of t c b in
    let pairs : ℕ = flag_when (has 11 w) (value_at 11 i w) in
    let lt : i < count_in w = omega arith in
    let next = left-next x.written k i j p h lt in
    rw (
      pairs-here c e p (end_of b) (omega (arith, next.room, map-least e (pairs_at c e p))) h.inside,
      le-leb (length_at c e p) (length (slice p (end_of b) c)) (omega (arith, next.room, length-slice p (end_of b) c h.inside)),
      drop-slice p (end_of b) (length_at c e p) c,
    )
    (ap₂ more (pairs_is x.written k i j p h lt)
    (entries-use t c w b x k (suc i) (j + pairs) (p + length_at c e p) (omega arith) next))

-- what the rules ask of the box
pub record SencSays (t : Track) (c w : List ℕ) (b : Part) : Type 0 where
  pub entered : Entered t c w b
  pub long : 16 ≤ b.len
  pub right : senc_ok t c b ≡ true
  pub count : senc_count c b ≡ count_in w
  pub pairs : subsamples t c b ≡ sum (values_of 11 (count_in w) w)
  pub has_either : (not (eqb (entries_of t c b).iv 0) || (entries_of t c b).map) ≡ true
  pub some_bytes : info_size t w 0 ≡ 0 → ⊥
  pub protected : eqb t.protection none ≡ false

module _ {payload : ℕ} (t : Track) (c w : List ℕ) (g : Canonical t w payload) (ok : iv_ok t.protection t.iv_size ≡ true)
    (at end : ℕ) (ys : List ℕ) (some : (has 9 w || has 11 w) ≡ true) (h : Left c at end (senc_box t w ++ ys)) where
  abbrev b : Part
  b = part at (length (senc_box t w))

  is-entered : Entered t c w b
  is-entered = entered t c w g ok at end ys some h

  -- no flag is set but that of subsamples
  known : (eqb (u32 c (at + 8)) 0 || eqb (u32 c (at + 8)) 2) ≡ true
  unfolding senc_box
  known = rw (full-word B.senc 0 (flag_when (has 11 w) 2) _ ys h (omega (arith, flag-low (has 11 w) 2))) (by (has 11 w))
    where
      by : (a : Bool) → (eqb (0 * 2 ^ 24 + flag_when a 2) 0 || eqb (0 * 2 ^ 24 + flag_when a 2) 2) ≡ true
      by true = refl
      by false = refl

  -- its entries use it up
  filled : senc_filled t c b ≡ Some (sum (values_of 11 (count_in w) w))
  unfolding senc_filled gate
  filled =
      rw known
      (ap (λ (m : ℕ). entries_in (entries_of t c b) m (slice (entries_of t c b).at (end_of b) c)) is-entered.count
      ∙ entries-use t c w b is-entered (count_in w) 0 0 _ (omega arith) is-entered.written.list
      ∙ ap Some is-entered.written.total)

  -- an entry has an IV or subsamples, and so it isn't empty
  one-stands : (not (eqb t.iv_size 0) || has 11 w) ≡ true
  one-stands = rw is-entered.ivs some

  positive : info_size t w 0 ≡ 0 → ⊥
  unfolding info_size
  positive z =
      either _ (not (eqb t.iv_size 0)) (has 11 w) (λ a. eqb-false t.iv_size 0 (not-true (eqb t.iv_size 0) a) (omega (arith, z)))
      (λ q. let y = rw q at z in omega (arith, y)) one-stands

  pub senc-says : SencSays t c w b
  unfolding senc_ok senc_count subsamples entries_of
  senc-says =
      let n : 16 ≤ length (senc_box t w) = omega (arith, senc-parts t w) in
      let stands = le-ltb (length (senc_box t w)) 16 n in
      record {
        entered = is-entered;
        long = n;
        right = rw (stands, filled);
        count = rw stands is-entered.count;
        pairs = rw (stands, filled);
        has_either = rw is-entered.written.map_is one-stands;
        some_bytes = positive;
        protected =
            either _ (has 9 w) (has 11 w)
            (λ q.
            let p : t.protection ≡ cenc = eqb-true _ _ (and_left _ _ (sym (ruled t w g.is_lawful).ivs ∙ q)) in
            ne_eqb t.protection none (λ z. omega (arith, p, z)))
            (marks t w g.is_lawful).mapped some;
      }

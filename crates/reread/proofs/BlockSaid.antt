-- What the block says of single ids leads back to what the chunk has: each field, BMDT, the brands, the sample count and the ids that are deleted. The set
-- is read from that. Assumes nothing.
use Prim.Native.Nat.{ℕ, ◌<◌, suc, ◌≤◌}
use native.Mathlib.Omega.{arith}
use mathlib.Core.Path.{◌≡◌, refl, sym, ap}
use mathlib.Core.Bool.{Bool, true, false, not, ◌&&◌, ◌||◌, cond}
use mathlib.Core.List.{List, [], ◌∷◌}
use borrow.Author.Tests.{eqb-true, ne_eqb, not-false}
use lib.Dec.{eqb}
use lib.ListN.{length, get_or, drop}
use Rattle.std.specs.Prelude.{Option, Some, None}
use Rattle.constants.specs.Maxima.{samples_most}
use Rattle.laws.proofs.TestLaws.{and_right, neither}
use Rattle.wire.specs.Zigzag.{wire_of}
use Rattle.wire.proofs.ZigzagLaws.{back}
use Rattle.track.specs.declared.Track.{Track}
use Rattle.field_table.specs.Lines.{lines, spare, bmdt_at, count_at, line_count}
use Rattle.field_table.proofs.LineLaws.{line-count, every-at}
use Rattle.field_set.proofs.LawfulLaws.{lawful-facts}
use Rattle.share_words.specs.Share.{set_at}
use Rattle.slots.specs.Share.{track_of}
use Rattle.field_rules.specs.Fields.{coding_for, numbers}
use Rattle.locmaf_read_said.specs.Said.{Says}
use Rattle.field_rules.specs.Words.{was_of}
use Rattle.field_rules.proofs.SetLaws.{line-of-id}
use Rattle.locmaf_read_said.proofs.DeletionLaws.{all-fields}
use Rattle.locmaf_read_said.specs.Deletions.{moof_field}
use Rattle.locmaf_read_set.specs.Read.{count_from, count_reached, brands_fit}
use Rattle.locmaf_read_times.specs.Bmdt.{bmdt_of}
use Rattle.cmaf_read_chunk.specs.Accepted.{brands, fields}
use Rattle.locmaf_write_block.specs.Fields.{bmdt_stands, count_stands, gone_of}
use Rattle.reread.specs.Sayings.{line_says, SetSaid}
use Rattle.encoder.specs.Object.{leaves_out}
use Rattle.cmaf_read_facts.specs.Given.{F}
use Rattle.reread.specs.Block.{said_if, block_says}
use Rattle.reread.proofs.Known.{Known}

-- what holds of numbers that are said, and of none, holds of those that stand under a condition
pub said-by : (P : Option (List ℕ) → Type 0) (b : Bool) (zs : List ℕ) → (b ≡ true → P (Some zs)) → (b ≡ false → P None) → P (said_if b zs)
said-by P true zs h g = h refl
said-by P false zs h g = g refl

-- numbers that are said where there are some
said-some : (zs : List ℕ) → numbers (said_if (not (eqb (length zs) 0)) zs) ≡ zs
said-some [] = refl
said-some (z ∷ zs) = rw (ne_eqb (suc (length zs)) 0 (λ q. omega arith))

-- every line of the table is one of the moof fields
pub moof-line : (i : ℕ) → i < line_count → moof_field (get_or lines i spare).id ≡ true
moof-line i lt = every-at (λ l. moof_field l.id) lines i spare all-fields (omega (arith, line-count))

module _ {s c : List ℕ} {delta : Bool} (k : Known s c delta) where
  abbrev t : Track
  t = track_of s

  abbrev r : List ℕ
  r = drop set_at s

  abbrev x : List ℕ
  x = fields t c

  abbrev follow : Bool
  follow = leaves_out F s c delta

  abbrev f : Says
  f = block_says s c delta

  abbrev n : ℕ
  n = get_or x count_at 0

  -- what is said of a field
  pub line-said : (i : ℕ) → i < line_count → f (get_or lines i spare).id ≡ line_says t delta follow r x (get_or lines i spare)
  unfolding block_says
  line-said i lt = rw (moof-line i lt, line-of-id i lt)

  -- the time that follows, or that is sent
  pub bmdt-back : bmdt_of t (f 10) r ≡ get_or x bmdt_at 0
  unfolding block_says moof_field bmdt_stands bmdt_of
  bmdt-back =
      said-by (λ (o : Option (List ℕ)). bmdt_of t o r ≡ get_or x bmdt_at 0) (bmdt_stands t delta r x) (get_or x bmdt_at 0 ∷ []) (λ e. refl)
      (λ e. sym (eqb-true _ _ (not-false _ (neither (not delta) _ e).1)))

  -- the brands, which a delta leaves out
  pub brands-back : numbers (f 23) ≡ cond delta [] (brands c)
  unfolding block_says moof_field
  brands-back = by delta
    where
      by : (d : Bool) → numbers (said_if (not d && not (eqb (length (brands c)) 0)) (brands c)) ≡ cond d [] (brands c)
      by true = refl
      by false = said-some (brands c)

  -- the count that was, or that is sent
  count-back : n ≤ samples_most → count_reached t delta r f ≡ Some n
  unfolding block_says moof_field count_stands count_reached count_from wire_of
  count-back few = by delta (eqb n (get_or r count_at 0)) refl
    where
      by : (d e : Bool) → eqb n (get_or r count_at 0) ≡ e
          → count_from (coding_for d) (cond (not d || not e) (Some (wire_of (coding_for d) (get_or r count_at 0) n ∷ [])) None) (was_of t d r).count ≡ Some n
      by false e q = back (coding_for false) 0 n samples_most few
      by true true q = ap Some (sym (eqb-true _ _ q))
      by true false q = back (coding_for true) (get_or r count_at 0) n samples_most few

  -- all that the set is read from; brands that stand have four bytes each
  pub set-said : SetSaid t delta follow r x f
  unfolding block_says moof_field brands_fit
  set-said =
      record {
        line = line-said;
        gone = said-some (gone_of t delta follow r x lines);
        count = count-back (lawful-facts t x k.sets.new).count;
        brands =
            said-by (λ (o : Option (List ℕ)). brands_fit o ≡ true) (not delta && not (eqb (length (brands c)) 0)) (brands c)
            (λ e. rw (and_right (not delta) (not (eqb (length (brands c)) 0)) e, k.given.fours)) (λ e. refl);
      }

-- BMDT, the sample count and the lengths that fields go by, as code has them. Assumes nothing.
use Prim.Native.Nat.{ℕ}
use mathlib.Core.Path.{◌≡◌}
use mathlib.Core.Bool.{Bool, true, false, not}
use mathlib.Core.List.{List}
use borrow.Author.Tests.{not-true, not-false}
use lib.Dec.{eqb}
use lib.ListN.{get_or}
use Rattle.laws.proofs.GateLaws.{failed, held}
use Rattle.wire.specs.declared.form.Row.{Row}
use Rattle.wire.specs.declared.zigzag.Coding.{Coding}
use Rattle.wire.specs.declared.zigzag.Coding.TheVariants.{Plain}
use Rattle.std.specs.Prelude.{Option}
use Rattle.wire.specs.Zigzag.{code_of}
use Rattle.track.specs.declared.Track.{Track}
use Rattle.field_table.specs.declared.lines.Measure.{Measure}
use Rattle.field_table.specs.Lines.{bmdt_at, count_at}
use Rattle.field_set.specs.Lawful.{measure_of}
use Rattle.field_rules.specs.Fields.{coding_for}
use Rattle.effective.specs.Expected.{next_time}
use Rattle.locmaf_write_block.specs.declared.cells.Basis.{Basis}
use Rattle.locmaf_write_tuples.specs.Items.{nothing, items_if, number_item}
use Rattle.locmaf_write_block.specs.Changes.{basis_of}
use Rattle.locmaf_write_block.specs.Fields.{bmdt_stands, count_stands, bmdt_if, bmdt_items, count_items}

module _ (t : Track) (delta follow : Bool) (r x : List ℕ) where
  -- the lengths, in a delta and in a full object
  pub basis-delta : delta ≡ true → (w n : Measure) → w ≡ measure_of t r → n ≡ measure_of t x
      → ◌≡◌ {A = Basis} (record { delta = true; follow = follow; was = w; now = n }) (basis_of t delta follow r x)
  basis-delta d w n e f = rw (d, e, f)

  pub basis-full : delta ≡ false → (n : Measure) → n ≡ measure_of t x
      → ◌≡◌ {A = Basis} (record { delta = false; follow = follow; was = record { count = 0; ivs = 0; sum = 0 }; now = n }) (basis_of t delta follow r x)
  basis-full d n f = rw (d, f)

module _ (t : Track) (delta : Bool) (r x : List ℕ) where
  -- BMDT, in a full object and in a delta
  pub bmdt-full : delta ≡ false → true ≡ bmdt_stands t delta r x
  unfolding bmdt_stands
  bmdt-full d = rw d

  pub bmdt-delta : delta ≡ true → (b : Bool) → b ≡ eqb (get_or x bmdt_at 0) (next_time t r) → not b ≡ bmdt_stands t delta r x
  unfolding bmdt_stands
  bmdt-delta h b e = rw (h, e)

  -- BMDT's tuple
  pub bmdt-is : (F : List Row) {b : Bool} → b ≡ bmdt_stands t delta r x → bmdt_if F b x ≡ bmdt_items F t delta r x
  unfolding bmdt_items
  bmdt-is F e = rw e

-- BMDT's, where code was told whether it stands
module _ (F : List Row) (x : List ℕ) (b : Bool) where
  pub no-bmdt : not b ≡ true → bmdt_if F b x ≡ nothing
  unfolding bmdt_if items_if
  no-bmdt h = rw (not-true b h)

  pub bmdt-sent : not b ≡ false → {c : Option ℕ} → c ≡ code_of F Plain 0 (get_or x bmdt_at 0) → items_if true (number_item 10 c) ≡ bmdt_if F b x
  unfolding bmdt_if
  bmdt-sent h e = rw (not-false b h, e)

-- the sample count's, where code found whether it stands
module _ (delta : Bool) (r x : List ℕ) (F : List Row) {b : Bool} (e : b ≡ count_stands delta r x) where
  pub no-count : not b ≡ true → count_items F delta r x ≡ nothing
  unfolding count_items items_if
  no-count h = rw (failed e h)

  pub count-is : not b ≡ false → {coding : Coding} {c : Option ℕ} → coding ≡ coding_for delta
      → c ≡ code_of F coding (get_or r count_at 0) (get_or x count_at 0) → items_if true (number_item 14 c) ≡ count_items F delta r x
  unfolding count_items
  count-is h g f = rw (held e h, f, g)

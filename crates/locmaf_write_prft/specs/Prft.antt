-- The producer reference time in an object. 01: "18 and 20 from `prft`, 22 unless 1, 24 unless 0"; in a delta "both 18 and 20, zigzag, against the group's current
-- full object, 22 and 24 if they differ from it; without the two, no box." The share s keeps that object's.
-- ==== The rules
use Rattle.std.specs.Prelude.{ℕ, Bool, not, ◌&&◌, List, eqb, get_or}
use Rattle.wire.specs.declared.form.Row.{Row}
use Rattle.wire.specs.Zigzag.{code_of}
use Rattle.share_words.specs.Share.{ntp_at, media_time_at, version_at, prft_flags_at}
use Rattle.prft_value.specs.declared.Prft.{Prft}
use Rattle.field_rules.specs.Fields.{coding_for}
use Rattle.prft_value.specs.Prft.{kept_for}
use Rattle.locmaf_write_tuples.specs.Items.{Items, ◌before◌, items_if, number_item}

-- an id that stands unless its value is what its absence means (D64)
module _ (F : List Row) (delta stands : Bool) where
  unfoldable pub unless_items : ℕ → ℕ → ℕ → Items
  unless_items id usual v = items_if (stands && not (eqb v usual)) (number_item id (code_of F (coding_for delta) usual v))

module _ (F : List Row) (delta : Bool) (s : List ℕ) (p : Prft) where
  -- the ids 18 and 20 stand together, with no distance too (D57, D65)
  unfoldable pub times_items : Items
  times_items =
      items_if p.stands (number_item 18 (code_of F (coding_for delta) (get_or s ntp_at 0) p.ntp.0))
      before items_if p.stands (number_item 20 (code_of F (coding_for delta) (get_or s media_time_at 0) p.media.0))

  unfoldable pub version_items : Items
  version_items = unless_items F delta p.stands 22 (kept_for delta (get_or s version_at 0) 1) p.version

  unfoldable pub flags_items : Items
  flags_items = unless_items F delta p.stands 24 (kept_for delta (get_or s prft_flags_at 0) 0) p.flags

-- The producer reference time as code has it: the numbers of its ids, and their tuples. Assumes nothing.
use Prim.Native.Nat.{ℕ, ◌+◌, ◌≤◌}
use borrow.Author.Tests.{not-true, not-false}
use mathlib.Core.Path.{◌≡◌, sym}
use mathlib.Core.Bool.{Bool, true, false, not}
use mathlib.Core.List.{List}
use lib.Dec.{eqb}
use lib.ListN.{length, get_or}
use Rattle.wire.specs.declared.form.Row.{Row}
use Rattle.wire.specs.declared.zigzag.Coding.{Coding}
use Rattle.std.specs.Prelude.{Option}
use Rattle.wire.specs.Zigzag.{code_of}
use Rattle.laws.specs.Options.{is_some}
use Rattle.share_words.specs.Share.{ntp_at, media_time_at}
use Rattle.prft_value.specs.declared.Prft.{Prft}
use Rattle.field_rules.specs.Fields.{coding_for}
use Rattle.prft_value.specs.Prft.{kept_for}
use Rattle.locmaf_write_tuples.specs.Items.{nothing, ◌before◌, items_if, number_item, bytes_of}
use Rattle.locmaf_write_prft.specs.Prft.{times_items, unless_items}
use Rattle.locmaf_write_tuples.proofs.PutLaws.{Left, left-start, left_as}

-- a time by the kind of object
pub time-as : (F : List Row) (old new : ℕ) {coding coding' : Coding} {c : Option ℕ} → coding ≡ coding' → c ≡ code_of F coding old new → c ≡ code_of F coding' old new
time-as F old new d e = rw (← d) e

-- what an absent id counts as
pub kept-delta : (delta : Bool) (share usual : ℕ) → delta ≡ true → share ≡ kept_for delta share usual
kept-delta delta share usual d = rw d

module _ (F : List Row) (delta : Bool) (s : List ℕ) (p : Prft) where
  -- without a `prft` no tuple stands
  module _ (no : not p.stands ≡ true) where
    pub no-times : times_items F delta s p ≡ nothing
    unfolding times_items items_if ◌before◌
    no-times = rw (not-true p.stands no)

  module _ (yes : not p.stands ≡ false) where
    -- the two times
    pub times-are : {n m : Option ℕ} → n ≡ code_of F (coding_for delta) (get_or s ntp_at 0) p.ntp.0
        → m ≡ code_of F (coding_for delta) (get_or s media_time_at 0) p.media.0
        → (items_if true (number_item 18 n) before items_if true (number_item 20 m)) ≡ times_items F delta s p
    unfolding times_items
    times-are e f = rw (not-false p.stands yes, e, f)

    -- both are left to be written
    pub times-left : {n m : Option ℕ} → n ≡ code_of F (coding_for delta) (get_or s ntp_at 0) p.ntp.0
        → m ≡ code_of F (coding_for delta) (get_or s media_time_at 0) p.media.0
        → (l : List ℕ) (at : ℕ) → is_some (times_items F delta s p) ≡ true → at + length (bytes_of F (times_items F delta s p)) ≤ length l
        → Left F (times_items F delta s p) l at (items_if true (number_item 18 n) before items_if true (number_item 20 m)) l at
    times-left e f l at h k =
        left_as F (times_items F delta s p) l at (sym (times-are e f)) (left-start F (times_items F delta s p) l at h k)

-- an id that stands unless its value is the usual one
module _ (F : List Row) (delta stands : Bool) (id usual v : ℕ) where
  pub no-unless : not stands ≡ true → unless_items F delta stands id usual v ≡ nothing
  unfolding unless_items items_if
  no-unless h = rw (not-true stands h)

  pub unless-is : not stands ≡ false → {coding : Coding} {c : Option ℕ} → coding ≡ coding_for delta
      → c ≡ code_of F coding usual v → items_if (not (eqb v usual)) (number_item id c) ≡ unless_items F delta stands id usual v
  unfolding unless_items
  unless-is h g f = rw (not-false stands h, f, g)

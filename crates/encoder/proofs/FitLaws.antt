-- What fits in the object that a chunk becomes: all its items, the events' times among them; and what a `prft` in a delta goes by. Assumes nothing.
use Prim.Native.Nat.{ℕ, ◌<◌}
use native.Mathlib.Omega.{arith}
use mathlib.Core.Path.{◌≡◌, refl, sym, ◌∙◌}
use mathlib.Core.Bool.{Bool, true, false, false≢true, not, cond}
use mathlib.Core.List.{List, [], ◌∷◌}
use lib.Dec.{eqb}
use lib.ListN.{get_or}
use Rattle.laws.proofs.TestLaws.{left, right, and_left, and_right}
use Rattle.wire.specs.declared.form.Row.{Row}
use Rattle.wire.specs.declared.zigzag.Coding.TheVariants.{Plain}
use Rattle.std.specs.Prelude.{Option, Some, None}
use Rattle.wire.specs.Form.{limit}
use Rattle.wire.specs.Zigzag.{wire_of, code_of}
use Rattle.wire.proofs.ZigzagLaws.{coded-inv}
use Rattle.laws.specs.Options.{is_some, on_option}
use Rattle.block_items.specs.Events.{Event, enc_events}
use Rattle.block_items.specs.Items.{num, run}
use Rattle.prft_value.specs.declared.Prft.{Prft}
use Rattle.share_words.specs.Share.{held_at, prft_at}
use Rattle.slots.specs.Share.{track_of}
use Rattle.locmaf_write_events.specs.Records.{times_fit}
use Rattle.cmaf_read_chunk.specs.Accepted.{prft, events}
use Rattle.locmaf_write_tuples.specs.Items.{Items, ◌before◌, items_if, number_item}
use Rattle.locmaf_write_prft.specs.Prft.{times_items}
use Rattle.locmaf_write_tuples.proofs.ItemLaws.{before-some}
use Rattle.encoder.specs.Object.{event_items, block_items, may_delta, gives_delta, fits_ok}

-- where the items of events stand, their times fit
events-fit : (F : List Row) (es : List Event) → is_some (event_items F es) ≡ true → times_fit F es ≡ true
unfolding event_items times_fit
events-fit F [] e = refl
events-fit F (y ∷ ys) e = by (times_fit F (y ∷ ys)) e
  where
    by : (b : Bool) → is_some (cond b (Some (run 25 (enc_events F (y ∷ ys)) ∷ [])) None) ≡ true → b ≡ true
    by true q = refl
    by false q = absurd (false≢true q)

-- where items one after another are some, the later ones are
past : (a b : Items) → is_some (a before b) ≡ true → is_some b ≡ true
past a b e = and_right (is_some a) (is_some b) (sym (before-some a b) ∙ e)

-- and so are the earlier ones
first : (a b : Items) → is_some (a before b) ≡ true → is_some a ≡ true
first a b e = and_left (is_some a) (is_some b) (sym (before-some a b) ∙ e)

module _ (F : List Row) (s c : List ℕ) where
  -- so those of the events, which stand before the last part of a block
  pub times-fit : (delta : Bool) → is_some (block_items F s c delta) ≡ true → times_fit F (events (track_of s) c) ≡ true
  unfolding block_items
  times-fit delta e =
      events-fit F (events (track_of s) c) (first _ _ (past _ _ (past _ _ (past _ _ (past _ _ (past _ _ e))))))

  module _ (wish : Bool) where
    -- all fits in the object that is given
    pub gives_fits : fits_ok F s c wish ≡ true → is_some (block_items F s c (gives_delta F s c wish)) ≡ true
    unfolding fits_ok gives_delta
    gives_fits h = by (gives_delta F s c wish) refl
      where
        by : (d : Bool) → gives_delta F s c wish ≡ d → is_some (block_items F s c d) ≡ true
        by true e = right _ _ e
        by false e = rw e at (right _ _ h)

    -- a delta has a `prft` only where the current full object has one
    pub delta-prft : gives_delta F s c wish ≡ true → (prft c).stands ≡ true → not (eqb (get_or s prft_at 0) 0) ≡ true
    unfolding gives_delta may_delta
    delta-prft e p = and_right (not (eqb (get_or s held_at 0) 0)) _ (and_right wish _ (rw p at (left _ _ e)))

-- ---- numbers that stand as they are

-- one that stands
plain_fits : (F : List Row) (id old v : ℕ) → is_some (number_item id (code_of F Plain old v)) ≡ true → v < limit F
unfolding number_item wire_of
plain_fits F id old v h = go (code_of F Plain old v) refl h
  where
    go : (c : Option ℕ) → code_of F Plain old v ≡ c → is_some (on_option c (λ z. Some (num id z ∷ [])) None) ≡ true → v < limit F
    go (Some z) q e = let k = coded-inv F Plain old v q in omega (arith, k.0, k.1)
    go None q e = absurd (false≢true e)

-- the times of the `prft` of a full object
times-small : (F : List Row) (s : List ℕ) (p : Prft) → is_some (times_items F false s p) ≡ true → p.stands ≡ true → (p.ntp.0 < limit F) × (p.media.0 < limit F)
unfolding times_items items_if
times-small F s p h e =
    let both = rw e at h in
    (plain_fits F 18 _ p.ntp.0 (first _ _ both), plain_fits F 20 _ p.media.0 (past _ _ both))

-- where no delta is given, they fit the form
pub full-small : (F : List Row) (s c : List ℕ) (wish : Bool) → fits_ok F s c wish ≡ true → gives_delta F s c wish ≡ false → (prft c).stands ≡ true
    → ((prft c).ntp.0 < limit F) × ((prft c).media.0 < limit F)
unfolding block_items
full-small F s c wish h d e = times-small F s (prft c) (first _ _ (past _ _ (rw d at (gives_fits F s c wish h)))) e

-- Items one after another tell what each of them does: none, one of an id, and those after an id of which nothing is said. So a block is shown to tell part
-- by part. Assumes nothing.
use Prim.Native.Nat.{ℕ, suc, ◌≤◌, ◌<◌}
use native.Mathlib.Nat.{eq-or-lt_of_le}
use native.Mathlib.Omega.{arith}
use mathlib.Core.Path.{◌≡◌, refl, sym, ◌∙◌, ap, subst}
use mathlib.Core.Bool.{true, false≢true, not}
use mathlib.Core.List.{List, [], ◌∷◌, ◌++◌, map, append_assoc, append-nil}
use mathlib.Core.Logic.{◌⊎◌, inl, inr}
use borrow.Author.Tests.{eq-eqb, ne_eqb}
use lib.ListN.{length, length-append}
use Rattle.std.specs.Prelude.{Some, None}
use Rattle.constants.specs.Ids.{id_count}
use Rattle.laws.proofs.TestLaws.{both}
use Rattle.wire.specs.Form.{limit}
use Rattle.locmaf_read_block.specs.Entries.{known, body, readable, member, lawful, entry, says}
use Rattle.laws.specs.Options.{is_some}
use Rattle.block_items.specs.Items.{Item, enc_item, enc_block}
use Rattle.locmaf_read_block.specs.Written.{Writable, entry_of}
use Rattle.locmaf_read_said.specs.Said.{Says}
use Rattle.locmaf_write_tuples.specs.Items.{Items, nothing, list_of, ◌before◌}
use Rattle.cmaf_read_facts.specs.Given.{F}
use Rattle.reread.specs.Telling.{Tell, Tells}

-- what holds at lo and past it, holds from lo on
at-or-past : (P : ℕ → Type 0) {lo id : ℕ} → lo ≤ id → P lo → (lo < id → P id) → P id
at-or-past P {lo} {id} le here past = by (eq-or-lt_of_le le)
  where
    by : (lo ≡ id) ⊎ (lo < id) → P id
    by (inl e) = subst P e here
    by (inr lt) = past lt

module _ {f : Says} where
  -- no items, and some that are too wide
  pub done : {lo : ℕ} → Tells f lo lo nothing
  done = record { on = λ q rest r. r }

  pub wide : {lo hi : ℕ} → Tells f lo hi None
  wide = record { on = λ e. absurd (false≢true e) }

  -- after an id of which nothing is said
  pub gap : {lo hi : ℕ} {is : Items} → f lo ≡ None → Tells f (suc lo) hi is → Tells f lo hi is
  unfolding says
  gap {lo} {hi} {is} e h =
      record {
        on = λ q rest r.
            let k = h.on q rest r in
            record {
              none_below = λ id lt. k.none_below id (omega arith);
              says-are = λ id le.
                  at-or-past (λ (n : ℕ). says F (map (entry_of F) (list_of is ++ rest)) n ≡ f n) le (rw (k.none_below lo (omega arith)).0 (sym e))
                  (k.says-are id);
              all-readable = k.all-readable;
              all-lawful = k.all-lawful;
              all-writable = k.all-writable;
            };
      }

  -- an item that reads as what is said of its id, and can be written where it is short
  pub one : {lo : ℕ} {i : Item} (zs : List ℕ) → (entry_of F i).id ≡ lo → known lo ≡ true → (length (enc_item F i) < limit F → Writable F i)
      → body F lo (entry_of F i).bytes ≡ Some zs → f lo ≡ Some zs → Tells f lo (suc lo) (Some (i ∷ []))
  unfolding says entry member readable lawful enc_block
  one {lo} {i} zs under known fits reads said =
      record {
        on = λ q rest r.
            record {
              none_below = λ id lt.
                  let k = r.none_below id (omega arith) in
                  let n = ne_eqb lo id (λ q. omega arith) in (rw (under, n) k.0, rw (under, n) k.1);
              says-are = λ id le.
                  at-or-past (λ (n : ℕ). says F (map (entry_of F) (i ∷ rest)) n ≡ f n) le (rw (under, eq-eqb lo lo refl) (reads ∙ sym said))
                  (λ lt. rw (under, ne_eqb lo id (λ q. omega arith)) (r.says-are id lt));
              all-readable = both _ _ (rw under (ap is_some reads)) r.all-readable;
              all-lawful = rw under (both _ _ known (both _ _ (ap not (r.none_below lo (omega arith)).1) r.all-lawful));
              all-writable = λ n. let m = length-append (enc_item F i) (enc_block F rest) in (fits (omega arith), r.all-writable (omega arith));
            };
      }

  -- some and then others
  infixr 40 ◌then◌
  pub ◌then◌ : {lo mid hi : ℕ} {a b : Items} → Tells f lo mid a → Tells f mid hi b → Tells f lo hi (a before b)
  unfolding ◌before◌
  ◌then◌ {a = None} h k = wide
  ◌then◌ {a = Some xs} {b = None} h k = wide
  ◌then◌ {a = Some xs} {b = Some ys} h k = record { on = λ e rest r. rw append_assoc (h.on refl (ys ++ rest) (k.on refl rest r)) }

  -- all of them, where nothing is said of an id past the last
  pub tell-all : {lo : ℕ} {is : Items} → Tells f lo id_count is → is_some is ≡ true → ((id : ℕ) → id_count ≤ id → f id ≡ None) → Tell f lo (list_of is)
  unfolding says entry member readable lawful
  tell-all h q e =
      rw append-nil at
      (h.on q []
      (record {
        none_below = λ id lt. (refl, refl);
        says-are = λ id le. sym (e id le);
        all-readable = refl;
        all-lawful = refl;
        all-writable = λ n. tt;
      }))

-- The property block of a chunk from its parts: weighed, and written one after another. Assumes nothing.
use Prim.Native.Nat.{ℕ, ◌+◌, ◌≤◌}
use native.Mathlib.Omega.{arith}
use mathlib.Core.Path.{◌≡◌, refl, sym, ◌∙◌, ap}
use mathlib.Core.Bool.{Bool, true}
use mathlib.Core.List.{List}
use lib.ListN.{length, get_or}
use Rattle.field_table.specs.Lines.{bmdt_at}
use Rattle.laws.specs.Writes.{Wrote}
use Rattle.wire.specs.declared.form.Row.{Row}
use Rattle.laws.specs.Options.{is_some}
use Rattle.constants.specs.Maxima.{brand_bytes_most, event_bytes_most}
use Rattle.track.specs.declared.Track.{Track}
use Rattle.slots.specs.Share.{track_of}
use Rattle.slots.proofs.ShareLaws.{lent}
use Rattle.cmaf_read_chunk.specs.declared.read.Chunk.{Chunk}
use Rattle.cmaf_read_chunk.specs.Accepted.{events}
use Rattle.std.specs.Prelude.{Option}
use Rattle.locmaf_write_block.specs.declared.cells.Basis.{Basis}
use Rattle.locmaf_write_tuples.specs.Items.{Items, ◌before◌, bytes_of, pair_most, weight_most, WeighedAs}
use Rattle.locmaf_write_block.specs.Changes.{basis_of}
use Rattle.locmaf_write_block.specs.Fields.{field_items, deletion_items, set_most, gone_most}
use Rattle.locmaf_write_prft.specs.Prft.{times_items, version_items, flags_items}
use Rattle.locmaf_write_tuples.proofs.ItemLaws.{before-assoc, weighed-both, weighed-within, weighed-as}
use Rattle.locmaf_write_tuples.proofs.PutLaws.{Left, left-start, left_as, left-next}
use Rattle.locmaf_write_events.specs.Records.{sent_of}
use Rattle.locmaf_write_block.proofs.SetLaws.{Sum}
use Rattle.encoder.specs.Object.{brand_items, event_items, block_items}
use Rattle.encoder.specs.Planned.{brands_at, outside_items, Encodable, Leaves}
use Rattle.encoder.proofs.GivenLaws.{prft-is, brands-are, events-are, same-sets, leaves-is}

-- what stands outside of the `moof` is left to be written; then all of it but the times, and so on
module _ (F : List Row) (t : Track) (delta : Bool) (s c : List ℕ) (k : Chunk) (bmdt : ℕ) (ws l : List ℕ) (at : ℕ)
    (r : (is_some (outside_items F t delta s c k bmdt ws) ≡ true) × (at + length (bytes_of F (outside_items F t delta s c k bmdt ws)) ≤ length l)) where
  abbrev OutsideLeft : Items → List ℕ → ℕ → Type 0
  OutsideLeft is m q = Left F (outside_items F t delta s c k bmdt ws) l at is m q

  abbrev after_flags : Items
  after_flags = event_items F (sent_of t bmdt c ws k.events)

  abbrev after_brands : Items
  after_brands = flags_items F delta s k.prft before after_flags

  abbrev after_version : Items
  after_version = brand_items delta (brands_at c k.brands) before after_brands

  abbrev after_times : Items
  after_times = version_items F delta s k.prft before after_version

  pub before-times : OutsideLeft (times_items F delta s k.prft before after_times) l at
  unfolding outside_items
  before-times = left-start F (outside_items F t delta s c k bmdt ws) l at r.0 r.1

  module _ {m : List ℕ} {q : ℕ} (w : Wrote l at (bytes_of F (times_items F delta s k.prft)) m q) where
    pub before-version : OutsideLeft after_times m q
    before-version = left-next _ _ _ _ _ _ _ _ before-times m q w

    module _ {m₂ : List ℕ} {q₂ : ℕ} (w₂ : Wrote m q (bytes_of F (version_items F delta s k.prft)) m₂ q₂) where
      pub before-brands : OutsideLeft after_version m₂ q₂
      before-brands = left-next _ _ _ _ _ _ _ _ before-version m₂ q₂ w₂

      module _ {m₃ : List ℕ} {q₃ : ℕ} (w₃ : Wrote m₂ q₂ (bytes_of F (brand_items delta (brands_at c k.brands))) m₃ q₃) where
        pub before-flags : OutsideLeft after_brands m₃ q₃
        before-flags = left-next _ _ _ _ _ _ _ _ before-brands m₃ q₃ w₃

        pub before-events : {m₄ : List ℕ} {q₄ : ℕ} → Wrote m₃ q₃ (bytes_of F (flags_items F delta s k.prft)) m₄ q₄ → OutsideLeft after_flags m₄ q₄
        before-events w₄ = left-next _ _ _ _ _ _ _ _ before-flags _ _ w₄

module _ {F : List Row} {t : Track} {s c : List ℕ} {k : Chunk} {ws x : List ℕ} (h : Encodable F t s c k ws x) (delta : Bool) {follow : Bool} (y : Leaves t delta s x follow)
    {b : Basis} (e : b ≡ basis_of t delta follow (lent s) x) where
  -- the parts, by what was read
  abbrev set_read : Items
  set_read = field_items F t b.delta b.follow (lent s) x

  abbrev gone_read : Items
  gone_read = deletion_items F t b.delta b.follow (lent s) x

  abbrev times_read : Items
  times_read = times_items F delta s k.prft

  abbrev version_read : Items
  version_read = version_items F delta s k.prft

  abbrev brands_read : Items
  brands_read = brand_items delta (brands_at c k.brands)

  abbrev flags_read : Items
  flags_read = flags_items F delta s k.prft

  abbrev events_read : Items
  events_read = event_items F (sent_of t (get_or x bmdt_at 0) c ws k.events)

  abbrev outside_read : Items
  outside_read = outside_items F t delta s c k (get_or x bmdt_at 0) ws

  events-is : events_read ≡ event_items F (events (track_of s) c)
  events-is = ap (event_items F) (events-are h) ∙ ap (λ (u : Track). event_items F (events u c)) h.on-share.track-is

  -- the block is one part after another
  block-is : block_items F s c delta ≡ set_read before times_read before version_read before brands_read before flags_read before events_read before gone_read
  unfolding block_items
  block-is = rw (same-sets h (field_items F) e, same-sets h (deletion_items F) e, leaves-is h delta y, prft-is h, brands-are h, events-is) refl

  -- all were weighed
  pub block-weighed : {p q r n f a g : Option ℕ} → WeighedAs F set_read set_most p → WeighedAs F times_read (pair_most + pair_most) q
      → WeighedAs F version_read pair_most r → WeighedAs F brands_read (pair_most + brand_bytes_most) n → WeighedAs F flags_read pair_most f
      → WeighedAs F events_read (pair_most + event_bytes_most) a → WeighedAs F gone_read gone_most g
      → (u v w y z o : Option ℕ) → Sum a g u → Sum f u v → Sum n v w → Sum r w y → Sum q y z → Sum p z o
      → WeighedAs F (block_items F s c delta) weight_most o
  block-weighed p q r n f a g u v w y z o i₁ i₂ i₃ i₄ i₅ i₆ =
      let late = weighed-both r (weighed-both n (weighed-both f (weighed-both a g i₁) i₂) i₃) i₄ in
      weighed-as (sym block-is) (weighed-within (omega arith) (weighed-both p (weighed-both q late i₅) i₆))

  -- those outside of the `moof` are written by one call
  block-calls : block_items F s c delta ≡ set_read before outside_read before gone_read
  unfolding outside_items
  block-calls = block-is ∙ sym (simp before-assoc refl)

  -- all are left to be written; then all but the set, and so on
  module _ (l : List ℕ) (at : ℕ)
      (r : (is_some (block_items F s c delta) ≡ true) × (at + length (bytes_of F (block_items F s c delta)) ≤ length l)) where
    abbrev BlockLeft : Items → List ℕ → ℕ → Type 0
    BlockLeft is m p = Left F (block_items F s c delta) l at is m p

    pub before-set : BlockLeft (set_read before outside_read before gone_read) l at
    before-set = left_as _ _ _ _ block-calls (left-start F (block_items F s c delta) l at r.0 r.1)

    module _ {m : List ℕ} {p : ℕ} (w : Wrote l at (bytes_of F set_read) m p) where
      pub before-outside : BlockLeft (outside_read before gone_read) m p
      before-outside = left-next _ _ _ _ _ _ _ _ before-set m p w

      pub before-gone : {m₂ : List ℕ} {p₂ : ℕ} → Wrote m p (bytes_of F outside_read) m₂ p₂ → BlockLeft gone_read m₂ p₂
      before-gone w₂ = left-next _ _ _ _ _ _ _ _ before-outside _ _ w₂

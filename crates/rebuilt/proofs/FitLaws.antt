-- What is given fits the boxes that it is written to: sizes and numbers. Assumes nothing.
use Prim.Native.Nat.{ℕ, ◌-◌, ◌^◌, ◌≤◌, ◌<◌}
use native.Mathlib.Omega.{arith}
use mathlib.Core.Path.{◌≡◌, refl}
use mathlib.Core.Bool.{Bool, true, false, cond}
use mathlib.Core.List.{List, [], ◌∷◌}
use borrow.Author.Tests.{ltb-true}
use lib.Dec.{leb, ltb}
use lib.ListN.{length, get_or}
use Rattle.constants.specs.Maxima.{payload_most, event_bytes_most}
use Rattle.laws.specs.Tests.{sum}
use Rattle.track.specs.declared.Track.{Track}
use Rattle.track.specs.declared.Asked.{Asked}
use Rattle.track.specs.Track.{narrow, lawful as lawful_track}
use Rattle.track.proofs.TrackLaws.{ranges}
use Rattle.field_table.specs.Lines.{bmdt_at}
use Rattle.field_set.specs.Lawful.{has, values_of, value_at, count_in}
use Rattle.field_set.proofs.LawfulLaws.{lawful-facts}
use Rattle.boxes.proofs.BoxLaws.{length-box}
use Rattle.cmaf_write_senc.specs.Protection.{Protectable}
use Rattle.cmaf_write_senc.proofs.ProtectableLaws.{lawful-protectable}
use Rattle.prft_value.specs.declared.Prft.{Prft}
use Rattle.event_value.specs.Events.{Event}
use Rattle.effective.specs.Sizes.{size_of}
use Rattle.cmaf_write_moof.specs.Moof.{moof_box}
use Rattle.locmaf_write_events.specs.Records.{sent, all_sent, text_bytes, record_bytes, list_bytes}
use Rattle.cmaf_read_facts.specs.Given.{F, Given}
use Rattle.rebuilt.specs.Chunk.{AllShort, Fits}
use Rattle.rebuilt.proofs.WholeFront.{body-low}
use Rattle.field_rules.proofs.Bounds.{Bounded, bounded}

-- the size of a sample has 32 bits
size_low : (t : Track) (w : List ℕ) → Bounded t w → (payload i : ℕ) → payload ≤ payload_most → t.size ≤ 0xffff_ffff → size_of t w payload i < 2 ^ 32
unfolding size_of
size_low t w bounds payload i few own = by (leb (count_in w) 1) (has 1 w) refl (ltb i (count_in w - 1)) refl (has 6 w) refl
  where
    by : (a b : Bool) → has 1 w ≡ b → (d : Bool) → ltb i (count_in w - 1) ≡ d → (e : Bool) → has 6 w ≡ e
        → cond a payload (cond b (cond d (value_at 1 i w) (payload - sum (values_of 1 (count_in w - 1) w))) (cond e (value_at 6 0 w) t.size)) < 2 ^ 32
    by true b p d q e r = omega arith
    by false true p true q e r = omega (arith, bounds.sizes p i (ltb-true _ _ q))
    by false true p false q e r = omega arith
    by false false p d q true r = omega (arith, bounds.size r 0 (omega arith))
    by false false p d q false r = omega arith

-- ---- events of a short list are short

-- each text is shorter than the list
all_short : (t : Track) (start : ℕ) (es : List Event) → list_bytes F (all_sent t start es) ≤ event_bytes_most → AllShort es
unfolding list_bytes record_bytes text_bytes sent
all_short t start [] n = tt
all_short t start (e ∷ es) n = (
  record { scheme = omega arith; value = omega arith; message = omega arith },
  all_short t start es (omega arith),
)

-- ---- all that is given

pub given-fits : (a : Asked) (sequence : ℕ) (w : List ℕ) (p : Prft) (es : List Event) (names bs : List ℕ) → lawful_track a ≡ true
    → Given (narrow a) w p es names bs → Fits (narrow a) sequence w p es names bs
unfolding moof_box
given-fits a sequence w p es names bs ok g =
    let t : Track = narrow a in
    let r = ranges a ok in
    let set : Protectable t w = lawful-protectable t w g.set.long r.iv-size g.set.is_lawful in
    let bounds : Bounded t w = bounded t w g.set.long r.iv-size g.set.is_lawful in
    record {
      sizable =
          record { set = set; events-short = all_short t (get_or w bmdt_at 0) es g.list-short; brands-few = g.names-few; payload-few = g.short };
      narrow =
          record {
            track = omega (arith, r.id);
            description = λ e. omega (arith, bounds.description e 0 (omega arith));
            duration = λ e. omega (arith, bounds.duration e 0 (omega arith));
          };
      columns =
          record {
            few = set.few;
            duration = λ e i lt. omega (arith, bounds.durations e i lt);
            size = λ i lt. size_low t w bounds (length bs) i g.short r.size;
          };
      time = omega (arith, (lawful-facts t w g.set.is_lawful).bmdt);
      offset = simp length-box (omega (arith, body-low t w set sequence (length bs) 0));
    }

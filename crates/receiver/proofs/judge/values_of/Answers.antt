-- `receiver::judge::values_of` meets its contract: each value is what the call for it says.
use mathlib.Core.Path.{◌∙◌, ap}
use mathlib.Core.Bool.{◌&&◌}
use lib.Dec.{leb}
use lib.ListN.{get_or, drop}
use Rattle.constants.specs.Maxima.{number_most, payload_most, brand_bytes_most, events_most, event_bytes_most}
use Rattle.media.specs.declared.clocks.TrackTicks.{TrackTicks}
use Rattle.share_words.specs.Share.{set_at}
use Rattle.locmaf_read_index.specs.Places.{number_at}
use Rattle.locmaf_read_times.specs.declared.prft.Told.{Told}
use Rattle.locmaf_read_times.proofs.BmdtLaws.{bmdt-small, bmdt-told}
use Rattle.receiver.proofs.judge.values_of.Goals as goal

pub returns : goal.returns
returns c =
    let r = c.prft_of-told in
    let a = c.args in
    λ t h.
    let e = c.bmdt_of-b.ensures t (drop set_at a.s.now) (c.expected_of.ensures ∙ h) in
    record {
      start = λ small. ap (λ (u : TrackTicks). u.0) c.unwrap_or-bmdt.ensures ∙ bmdt-told _ _ e small;
      time = ap (λ (u : Told). u.prft) r.ensures;
      named = c.part_of-brands.ensures;
      tested =
          ap
          (λ (u : TrackTicks).
          leb u.0 number_most
          && (r.result.ok
          && (leb a.payload payload_most
          && (leb c.part_of-brands.result.len brand_bytes_most && (leb a.events events_most && leb (get_or a.index.now (number_at 25) 0) event_bytes_most)))))
          c.unwrap_or-bmdt.ensures
          ∙ rw (bmdt-small _ _ e, r.ensures);
    }

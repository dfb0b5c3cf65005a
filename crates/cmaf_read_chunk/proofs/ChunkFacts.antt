-- What is known of a chunk that no rung refuses: where its boxes lie, what they say, how many they are, and what its set says. Assumes nothing.
use Prim.Native.Nat.{ℕ, zero, suc, ◌%◌, ◌≤◌}
use native.Mathlib.Omega.{arith}
use mathlib.Core.Path.{◌≡◌, refl, ◌∙◌, ap}
use mathlib.Core.Bool.{true}
use mathlib.Core.List.{List}
use borrow.Author.Tests.{leb-true}
use lib.ListN.{length, get_or}
use lib.Seq.{length-slice}
use Rattle.constants.specs.Maxima.{brand_bytes_most, events_most, event_bytes_most}
use Rattle.laws.specs.Tests.{all_le}
use Rattle.laws.specs.Ladder.{Hold}
use Rattle.laws.proofs.TestLaws.{right}
use Rattle.wire.specs.declared.form.Row.{Row}
use Rattle.track.specs.declared.Track.{Track}
use Rattle.track.specs.Track.{iv_ok}
use Rattle.track.proofs.TrackLaws.{iv-size-le}
use Rattle.cmaf_read_shape.specs.Parts.{body_of, end_of}
use Rattle.cmaf_read_shape.proofs.PartLaws.{body-in}
use Rattle.event_value.specs.Events.{events_from}
use Rattle.cmaf_read_prelude.specs.Emsg.{emsg_words}
use Rattle.locmaf_write_events.specs.Records.{list_bytes}
use Rattle.field_table.specs.Lines.{set_len, bmdt_at}
use Rattle.field_rules.specs.Words.{set_words}
use Rattle.field_rules.proofs.SetLaws.{AllFit, words-length}
use Rattle.cmaf_read_set.specs.Set.{field_of, chunk_set}
use Rattle.cmaf_read_set.proofs.FitLaws.{all-fit}
use Rattle.cmaf_read_set.proofs.SetSays.{Said, set_says}
use Rattle.cmaf_read_rules.proofs.RuleFacts.{RulesHold}
use Rattle.cmaf_read_chunk.specs.Accepted.{top, inner, bmdt, boxes, brands, payload, events, fields, maxima_ok, late_rungs, accept_rungs}
use Rattle.cmaf_read_boxes.proofs.BoxLaws.{BoxesIn, boxes-in, BoxesHold}
use Rattle.cmaf_read_chunk.proofs.MaximaLaws.{CountsHold, gatherable}
use Rattle.cmaf_read_chunk.proofs.BrandLaws.{brands-fit}
use Rattle.cmaf_read_chunk.proofs.LawfulSet.{boxes-right, counts-right, rules-right, boxes-held, counts-held}

-- all of it, of a chunk of bytes on a track whose parameters are lawful
pub record Facts (t : Track) (c : List ℕ) : Type 0 where
  pub bytes : all_le 255 c ≡ true
  pub iv : iv_ok t.protection t.iv_size ≡ true
  pub lie : BoxesIn c (top c) (inner c)
  pub hold : BoxesHold t c (top c) (inner c)
  pub few : CountsHold t c (top c) (inner c)
  pub rules : RulesHold t c (top c) (inner c) (boxes c)
  pub said : Said t c (inner c)

module _ (F : List Row) (t : Track) (c : List ℕ) (h : Hold (accept_rungs F t c)) where
  -- every field of its set has room
  pub set-fits : t.iv_size ≤ 16 → AllFit (field_of t c (inner c))
  set-fits iv = all-fit t c (inner c) (gatherable t c (top c) (inner c) refl refl (boxes-right F t c h) (counts-right F t c h) iv)

  pub chunk-facts : all_le 255 c ≡ true → iv_ok t.protection t.iv_size ≡ true → Facts t c
  chunk-facts low iv =
      record {
        bytes = low;
        iv = iv;
        lie = boxes-in c;
        hold = boxes-held F t c h;
        few = counts-held F t c h;
        rules = rules-right F t c h;
        said = set_says t c (inner c) (set-fits (iv-size-le t.protection t.iv_size iv));
      }

  -- the set has as many words as it should have
  pub fields-long : t.iv_size ≤ 16 → length (fields t c) ≡ set_len
  unfolding fields chunk_set
  fields-long iv = words-length _ _ (field_of t c (inner c)) (set-fits iv)

  -- whole brands, at most 16
  pub brands-few : (length (brands c) ≤ brand_bytes_most) × (length (brands c) % 4 ≡ 0)
  unfolding brands
  brands-few = brands-fit (top c).styp (boxes-held F t c h).styp-ok (counts-held F t c h).brands c (boxes-in c).styp-in

  -- at most 16 events, in a list of at most 4,096 bytes
  pub events-few : length (boxes c) ≤ events_most
  unfolding boxes events_from
  events-few = omega (arith, counted (emsg_words c (top c).events (top c).emsgs.at) (top c).events 0, (counts-held F t c h).events)
    where
      counted : (ws : List ℕ) (k i : ℕ) → length (events_from c ws k i) ≡ k
      counted ws zero i = refl
      counted ws (suc k) i = ap suc (counted ws k (suc i))

  pub list-few : list_bytes F (events t c) ≤ event_bytes_most
  unfolding accept_rungs late_rungs maxima_ok
  list-few = leb-true _ _ (right _ _ h.1.1.0)

-- the first word of its set is BMDT
pub fields-bmdt : (t : Track) (c : List ℕ) → get_or (fields t c) bmdt_at 0 ≡ bmdt c
unfolding fields chunk_set set_words bmdt
fields-bmdt t c = refl

-- its payload lies in it
pub payload-in : (c : List ℕ) → end_of (body_of (top c).mdat) ≤ length c
payload-in c = omega (arith, (body-in (top c).mdat).ends, (boxes-in c).mdat-in.within)

pub payload-length : (c : List ℕ) → length (payload c) ≡ (body_of (top c).mdat).len
unfolding payload
payload-length c = length-slice (body_of (top c).mdat).at (end_of (body_of (top c).mdat)) c (payload-in c) ∙ omega arith

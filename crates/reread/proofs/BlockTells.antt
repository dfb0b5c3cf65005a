-- The items of a chunk's block tell of each id what is said of it: the laws on reading go by what is said, and not by items. Assumes nothing.
use Prim.Native.Nat.{ℕ, suc, ◌≤◌, ◌<◌}
use native.Mathlib.Omega.{arith}
use mathlib.Core.Path.{◌≡◌, refl, sym, ◌∙◌, ap}
use mathlib.Core.Bool.{Bool, true, false, cond}
use mathlib.Core.List.{List, [], ◌∷◌}
use borrow.Author.Tests.{le-leb, lt-leb, ltb-true, not-false}
use lib.Dec.{eqb, ltb}
use lib.ListN.{get_or, drop}
use Rattle.std.specs.Prelude.{Some, None}
use Rattle.constants.specs.Ids.{id_count}
use Rattle.laws.specs.Tests.{◌and◌}
use Rattle.wire.specs.declared.form.Form.TheVariants.{Rfc9000}
use Rattle.wire.specs.declared.zigzag.Coding.TheVariants.{Plain}
use Rattle.wire.specs.Zigzag.{wire_of}
use Rattle.wire.proofs.FormLaws.{lawful}
use Rattle.locmaf_read_block.specs.Entries.{known}
use Rattle.block_items.specs.Events.{Event, enc_events, AllSayable}
use Rattle.block_items.specs.Items.{run}
use Rattle.locmaf_read_block.proofs.EventsWritten.{body-events}
use Rattle.locmaf_read_block.proofs.WiresLaws.{plain-wires}
use Rattle.track.specs.declared.Track.{Track}
use Rattle.field_table.specs.declared.lines.Line.{Line}
use Rattle.field_table.specs.Lines.{lines, spare, line_for, every, line_count, iv_size_line}
use Rattle.field_set.specs.Lawful.{has}
use Rattle.field_table.proofs.LineLaws.{line-count, every-at}
use Rattle.share_words.specs.Share.{set_at}
use Rattle.slots.specs.Share.{track_of}
use Rattle.locmaf_read_said.specs.Said.{Says}
use Rattle.field_rules.specs.Fields.{stood}
use Rattle.locmaf_read_said.specs.Deletions.{moof_field}
use Rattle.locmaf_write_events.specs.Records.{times_fit}
use Rattle.cmaf_read_chunk.specs.Accepted.{brands, fields}
use Rattle.locmaf_write_block.specs.declared.cells.Change.TheVariants.{Omitted, Deleted}
use Rattle.locmaf_write_tuples.specs.Items.{list_of}
use Rattle.locmaf_write_block.specs.Changes.{change_of, line_items}
use Rattle.locmaf_write_block.specs.Fields.{lines_items, bmdt_if, bmdt_items, count_items, field_items, deletion_items}
use Rattle.locmaf_write_prft.specs.Prft.{times_items, unless_items, version_items, flags_items}
use Rattle.encoder.specs.Object.{brand_items, event_items, leaves_out, block_items}
use Rattle.cmaf_read_facts.specs.Given.{F}
use Rattle.reread.specs.Telling.{Tell, Tells}
use Rattle.reread.specs.Sayings.{numbers_by, sent_numbers, line_says}
use Rattle.reread.specs.Block.{event_says, block_says}
use Rattle.reread.proofs.Known.{Known}
use Rattle.reread.proofs.BlockSaid.{line-said}
use Rattle.reread.proofs.TellingLaws.{done, wide, ◌then◌, gap, tell-all}
use Rattle.reread.proofs.PartsTell.{numeric, odd, bytes_as, line_reads, bytes-tell, bare-tells, list_tells, tells-if, number-if, line-tells}

-- the records of events
events-tell : {f : Says} (es : List Event) → AllSayable F es → f 25 ≡ event_says es → Tells f 25 26 (event_items F es)
unfolding event_items odd known ◌and◌
events-tell [] h e = gap e done
events-tell {f} (y ∷ ys) h e = go (times_fit F (y ∷ ys))
  where
    go : (b : Bool) → Tells f 25 26 (cond b (Some (run 25 (enc_events F (y ∷ ys)) ∷ [])) None)
    go true = bytes-tell 25 _ _ refl (body-events F (lawful Rfc9000) (y ∷ ys) h) e
    go false = wide

-- ---- the table of fields

all_read : every line_reads lines ≡ true
unfolding every lines line_reads numeric bytes_as odd known ◌and◌
all_read = refl

-- nothing is said of a field that doesn't stand, deleted or not
unsaid : (t : Track) (delta follow : Bool) (r x : List ℕ) (l : Line) → eqb (get_or x l.place 0) 0 ≡ true → line_says t delta follow r x l ≡ None
unfolding line_says change_of
unsaid t delta follow r x l e = rw e (by (stood delta r l))
  where
    by : (old : Bool) → numbers_by (cond old Deleted Omitted) (sent_numbers t delta r x l) ≡ None
    by true = refl
    by false = refl

module _ {s c : List ℕ} {delta : Bool} (k : Known s c delta) where
  abbrev f : Says
  f = block_says s c delta

  line : (i : ℕ) → ltb i line_count ≡ true → let l = get_or lines i spare in
      Tells f l.id (suc l.id) (line_items (track_of s) delta (leaves_out F s c delta) (drop set_at s) (fields (track_of s) c) l F)
  line i e =
      let lt : i < line_count = ltb-true _ _ e in
      line-tells _ _ _ _ _ (get_or lines i spare) (every-at line_reads lines i spare all_read (omega (arith, line-count))) (line-said k i lt)

  -- nothing is said of id 16, which no chunk has
  no-sixteen : f 16 ≡ None
  unfolding has lines line_for
  no-sixteen =
      line-said k 13 (omega arith)
      ∙ unsaid (track_of s) delta (leaves_out F s c delta) (drop set_at s) (fields (track_of s) c) (get_or lines iv_size_line spare) (not-false _ k.given.set.no-iv-size)

  -- nothing is said of an id past the last
  past : (id : ℕ) → id_count ≤ id → f id ≡ None
  unfolding block_says moof_field
  past id le = rw (le-leb 1 id (omega arith), lt-leb id 16 (omega arith), le-leb id_count id le)

  -- ---- the parts

  fields-tell : Tells f 1 17 (field_items F (track_of s) delta (leaves_out F s c delta) (drop set_at s) (fields (track_of s) c))
  unfolding field_items lines_items lines bmdt_if bmdt_items count_items block_says moof_field numeric known wire_of ◌and◌
  fields-tell =
      (line 0 refl then line 1 refl then line 2 refl then line 3 refl then line 4 refl
      then line 5 refl then line 6 refl then line 7 refl then line 8 refl then done)
      then number-if 10 _ _ _ _ refl refl
      then (line 9 refl then line 10 refl then line 11 refl then done)
      then number-if 14 _ _ _ _ refl refl
      then (line 12 refl then gap no-sixteen done)

  -- the whole block, and the ids between its parts
  pub tell-block : Tell f 0 (list_of (block_items F s c delta))
  unfolding block_items times_items version_items flags_items unless_items brand_items deletion_items block_says moof_field numeric bytes_as odd known ◌and◌
  tell-block =
      tell-all
      (gap refl
      (fields-tell
      then (gap refl (number-if 18 _ _ _ _ refl refl) then gap refl (number-if 20 _ _ _ _ refl refl))
      then gap refl (number-if 22 _ _ _ _ refl refl)
      then tells-if 23 _ _ _ refl (bare-tells 23 (brands c) refl)
      then number-if 24 _ _ _ _ refl refl
      then events-tell _ k.sayable refl
      then gap refl (tells-if 27 _ _ _ refl (λ e. list_tells 27 Plain 0 [] _ refl (e ∙ ap Some (sym (plain-wires 0 _)))))))
      k.fits past

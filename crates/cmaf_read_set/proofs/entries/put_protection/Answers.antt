-- `cmaf_read_set::entries::put_protection` meets its contract, by the laws of `proofs/ProtectionLaws.antt`.
use mathlib.Core.Path.{◌≡◌, ◌∙◌, ap}
use lib.ListN.{length}
use Rattle.field_rules.specs.Words.{store_all}
use Rattle.cmaf_read_set.specs.Set.{field_of}
use Rattle.cmaf_read_set.specs.Stored.{protection_lines}
use Rattle.cmaf_read_senc.proofs.SencLaws.{senc-stands, senc-few}
use Rattle.cmaf_read_set.proofs.MarkLaws.{marks-length}
use Rattle.cmaf_read_set.proofs.ProtectionLaws.{protection-none, protection-done, some_bytes, count-asked, iv-size-asked, store_length}
use Rattle.cmaf_read_set.proofs.entries.put_protection.Goals as goal

pub returns-then-senc-eq0 : goal.returns-then-senc-eq0
returns-then-senc-eq0 c = let a = c.args in protection-none a.t a.c.now a.f a.x.now c.if-senc-eq0.true

pub entries_of-e-requires : goal.entries_of-e-requires
entries_of-e-requires c = (c.requires.inside.0, senc-stands c.args.t c.args.c.now c.args.f.senc c.requires.inside.1 (some_bytes _ c.if-senc-eq0.false))

pub put_marks-requires : goal.put_marks-requires
put_marks-requires c = c.requires.x_len

pub put_entries-requires : goal.put_entries-requires
put_entries-requires c =
    let a = c.args in
    let h = c.requires in
    let n = c.if-senc-eq0.false in
    let q = c.entries_of-e.ensures.0 in
    let e = c.entries_of-e.result in record {
      count_le_samples_most = (
        count-asked a.t a.c.now a.f n e q h.few_entries.0,
        iv-size-asked a.t a.c.now a.f n e q h.few_entries.1,
        senc-few a.t a.c.now a.f.senc h.inside.0 h.inside.1 (some_bytes _ n) h.few_entries.2 q,
      );
      x_len = ap length c.put_marks.ensures ∙ marks-length e a.x.now ∙ h.x_len;
    }

-- what is stored, where the box stands
stored : (c : goal.After-slice_known-3-1)
    → c.put_entries.new.x
    ≡ (let a = c.args in
    store_all (field_of a.t a.c.now a.f) protection_lines a.x.now)
stored c =
    let a = c.args in
    let h = c.requires in
    let n = c.if-senc-eq0.false in
    let q = c.entries_of-e.ensures.0 in
    protection-done a.t a.c.now a.f n _ q h.inside a.x.now _ _ h.few_entries
    c.put_marks.ensures c.put_entries.ensures

pub shape_of-x : goal.shape_of-x
shape_of-x c =
    let a = c.args in
    ap length (stored c) ∙ store_length _ _ a.x.now

pub returns : goal.returns
returns c = stored c

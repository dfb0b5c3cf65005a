-- `cmaf_read_senc::entries::senc_filled` meets its contract, with subsamples and without.
use native.Mathlib.Omega.{arith}
use Rattle.cmaf_read_senc.proofs.SencLaws.{product-fits, entries-first, filled-map, filled-flags, filled-full, filled_off}
use borrow.Author.Rules.{rules}
use Rattle.cmaf_read_senc.proofs.entries.senc_filled.Goals as goal

pub walk_entries-requires : goal.walk_entries-requires
walk_entries-requires c =
    let a = c.args in
    let q = c.entries_of-e.ensures in
    let h = entries-first a.t a.c.now a.b _ q.0 c.requires.1 in
    record { map_value = (c.if-e.true, q.1.1); at_le_end = (omega (arith, h, c.end_of.ensures), omega (arith, c.requires.0.within, c.end_of.ensures)) }

pub returns-then-e : goal.returns-then-e
returns-then-e c =
    let a = c.args in
    filled-map a.t a.c.now a.b _ c.entries_of-e.ensures.0 _ c.end_of.ensures c.if-e.true
    c.walk_entries.ensures

pub returns-then-u32_at-ne0 : goal.returns-then-u32_at-ne0
returns-then-u32_at-ne0 c =
    let a = c.args in
    filled-flags a.t a.c.now a.b _ c.entries_of-e.ensures.0 c.if-e.false _
    c.u32_at.ensures.0 c.if-u32_at-ne0.true

pub overflow_mul-e : goal.overflow_mul-e
overflow_mul-e c =
    let q = c.entries_of-e.ensures in
    let z = product-fits q.1.1 q.1.0 in
    search rules

pub overflow_add-e : goal.overflow_add-e
overflow_add-e c =
    let q = c.entries_of-e.ensures in
    let z = product-fits q.1.1 q.1.0 in
    search rules

pub returns-then-b-e : goal.returns-then-b-e
returns-then-b-e c =
    let a = c.args in
    filled_off a.t a.c.now a.b _ c.entries_of-e.ensures.0 c.if-e.false _ c.u32_at.ensures.0
    c.if-u32_at-ne0.false c.requires.0 c.requires.1 c.if-b-e.true

pub returns : goal.returns
returns c =
    let a = c.args in
    filled-full a.t a.c.now a.b _ c.entries_of-e.ensures.0 c.if-e.false _ c.u32_at.ensures.0
    c.if-u32_at-ne0.false c.requires.0 c.requires.1 c.if-b-e.false

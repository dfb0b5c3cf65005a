-- `encoder::properties::block_size` meets its contract: its parts weighed together.
use native.Mathlib.Omega.{arith}
use mathlib.Core.Path.{sym, ◌∙◌}
use Rattle.locmaf_write_tuples.proofs.ItemLaws.{weighed-both}
use Rattle.locmaf_write_block.proofs.LinesLaws.{keep-gone}
use Rattle.encoder.proofs.GivenLaws.{basis-own, writable, expected-is, kept-share, brands-inside, recorded}
use Rattle.encoder.proofs.BrandLaws.{names-length}
use Rattle.encoder.proofs.BlockLaws.{block-weighed}
use Rattle.encoder.proofs.properties.block_size.Goals as goal

pub basis_of-b-requires : goal.basis_of-b-requires
basis_of-b-requires c = writable c.requires.read_of_one.1 _ c.requires.held.0

pub expected_of-requires : goal.expected_of-requires
expected_of-requires c = c.requires.read_of_one.1.on-share.share

pub set_size-fields-requires : goal.set_size-fields-requires
set_size-fields-requires c =
    let e = c.requires.read_of_one.1 in
    record {
      based = (basis-own (writable e _ c.requires.held.0) c.basis_of-b.ensures, expected-is e c.expected_of.ensures);
      kept_len = c.requires.held.2;
    }

pub times_size-times-requires : goal.times_size-times-requires
times_size-times-requires c = c.requires.read_of_one.1.on-share.share

pub version_size-version-requires : goal.version_size-version-requires
version_size-version-requires c = c.requires.read_of_one.1.on-share.share

pub brands_size-names-requires : goal.brands_size-names-requires
brands_size-names-requires c = c.requires.read_of_one.1.brand-bytes

pub flags_size-flags-requires : goal.flags_size-flags-requires
flags_size-flags-requires c = c.requires.read_of_one.1.on-share.share

pub events_size-happened-requires : goal.events_size-happened-requires
events_size-happened-requires c = let e = recorded c.requires.read_of_one.1 in (e.words, e.short)

pub deletions_size-gone-requires : goal.deletions_size-gone-requires
deletions_size-gone-requires c =
    let w = writable c.requires.read_of_one.1 _ c.requires.held.0 in
    (w.old-words, w.new-words)

pub bounds-kept-14 : goal.bounds-kept-14
bounds-kept-14 c = omega (arith, c.set_size-fields.ensures.1.lines.long)

-- the parts are short: the brands and the events as they are for the chunk that they were read from

pub both-requires : goal.both-requires
both-requires c =
    let events = c.events_size-happened.ensures _ (recorded c.requires.read_of_one.1) in
    let gone = c.deletions_size-gone.ensures c.args.t in
    (omega (arith, events.small), omega (arith, gone.small))

pub both-last-requires : goal.both-last-requires
both-last-requires c =
    let events = c.events_size-happened.ensures _ (recorded c.requires.read_of_one.1) in
    let gone = c.deletions_size-gone.ensures c.args.t in
    let both = weighed-both events gone c.both.ensures in
    (omega (arith, c.flags_size-flags.ensures.small), omega (arith, both.small))

pub both-requires-2 : goal.both-requires-2
both-requires-2 c =
    let o = c.requires.read_of_one.0 in
    let h = c.requires.read_of_one.1 in
    let brands = c.brands_size-names.ensures _ (names-length o _ h.brand-bytes (brands-inside h)) in
    let events = c.events_size-happened.ensures o (recorded h) in
    let gone = c.deletions_size-gone.ensures c.args.t in
    let last = weighed-both c.flags_size-flags.ensures (weighed-both events gone c.both.ensures) c.both-last.ensures in
    (omega (arith, brands.small), omega (arith, last.small))

pub both-requires-3 : goal.both-requires-3
both-requires-3 c =
    let o = c.requires.read_of_one.0 in
    let h = c.requires.read_of_one.1 in
    let brands = c.brands_size-names.ensures _ (names-length o _ h.brand-bytes (brands-inside h)) in
    let events = c.events_size-happened.ensures o (recorded h) in
    let gone = c.deletions_size-gone.ensures c.args.t in
    let last = weighed-both c.flags_size-flags.ensures (weighed-both events gone c.both.ensures) c.both-last.ensures in
    let both = weighed-both brands last c.both-2.ensures in
    (omega (arith, c.version_size-version.ensures.small), omega (arith, both.small))

pub both-requires-4 : goal.both-requires-4
both-requires-4 c =
    let o = c.requires.read_of_one.0 in
    let h = c.requires.read_of_one.1 in
    let brands = c.brands_size-names.ensures _ (names-length o _ h.brand-bytes (brands-inside h)) in
    let events = c.events_size-happened.ensures o (recorded h) in
    let gone = c.deletions_size-gone.ensures c.args.t in
    let last = weighed-both c.flags_size-flags.ensures (weighed-both events gone c.both.ensures) c.both-last.ensures in
    let both = weighed-both c.version_size-version.ensures (weighed-both brands last c.both-2.ensures) c.both-3.ensures in
    (omega (arith, c.times_size-times.ensures.small), omega (arith, both.small))

pub both-requires-5 : goal.both-requires-5
both-requires-5 c =
    let o = c.requires.read_of_one.0 in
    let h = c.requires.read_of_one.1 in
    let brands = c.brands_size-names.ensures _ (names-length o _ h.brand-bytes (brands-inside h)) in
    let events = c.events_size-happened.ensures o (recorded h) in
    let gone = c.deletions_size-gone.ensures c.args.t in
    let last = weighed-both c.flags_size-flags.ensures (weighed-both events gone c.both.ensures) c.both-last.ensures in
    let late = weighed-both c.version_size-version.ensures (weighed-both brands last c.both-2.ensures) c.both-3.ensures in
    let both = weighed-both c.times_size-times.ensures late c.both-4.ensures in
    (omega (arith, c.set_size-fields.ensures.0.small), omega (arith, both.small))

pub returns : goal.returns
returns c =
    let b = c.basis_of-b.ensures in
    let y = c.requires.held.1 in (
      λ o h.
          block-weighed h _ y b c.set_size-fields.ensures.0 c.times_size-times.ensures c.version_size-version.ensures
          (c.brands_size-names.ensures _ (names-length o _ h.brand-bytes (brands-inside h))) c.flags_size-flags.ensures
          (c.events_size-happened.ensures o (recorded h)) (c.deletions_size-gone.ensures _) _ _ _ _ _ _ c.both.ensures c.both-last.ensures
          c.both-2.ensures c.both-3.ensures c.both-4.ensures c.both-5.ensures,
      kept-share c.args.s.now b (keep-gone _ _ _ _ _ _ c.set_size-fields.ensures.1 (c.deletions_size-gone.ensures _) c.unwrap_or.ensures),
    )

pub shape_of-kept : goal.shape_of-kept
shape_of-kept c = (returns c).1.fields.lines.long ∙ sym c.requires.held.2

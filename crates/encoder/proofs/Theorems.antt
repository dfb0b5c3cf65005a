-- Encoding a chunk: its numbers, what a refusal leaves, what the output holds, and that the share keeps its length and stays lawful. Assumes
-- nothing.
use Prim.Native.Nat.{ℕ, ◌+◌, ◌-◌, ◌^◌, ◌≤◌, ◌<◌}
use native.Mathlib.Omega.{arith}
use mathlib.Core.Path.{◌≡◌, refl, sym, ◌∙◌, ap, subst}
use mathlib.Core.Bool.{Bool, true, false, not, ◌&&◌, ◌||◌}
use mathlib.Core.List.{List, [], ◌++◌}
use borrow.Author.Tests.{leb-true, not-true}
use lib.Dec.{eqb}
use lib.ListN.{length, get_or, take, drop}
use lib.Seq.{take-append_seam, drop-length}
use Rattle.constants.specs.Maxima.{brand_bytes_most, event_bytes_most, number_most}
use Rattle.laws.specs.Tests.{◌and◌, all_le}
use Rattle.laws.specs.Ladder.{Rung, ladder, Given, Hold}
use Rattle.laws.proofs.LadderLaws.{Numbered, number_of, given, given-one, ladder-append, ladder-seen, all_hold, climbed, climbs-all, hold-front, hold-back, nonzero, numbered}
use Rattle.laws.proofs.SliceLaws.{drop-last}
use Rattle.laws.proofs.TestLaws.{left, both, and_left, and_right}
use Rattle.laws.proofs.WriteLaws.{front-stays}
use Rattle.wire.specs.declared.form.Row.{Row}
use Rattle.wire.specs.Form.{rows, limit, longest}
use Rattle.wire.proofs.SizeLaws.{longest-eight, limit-most}
use Rattle.track.proofs.TrackLaws.{ranges}
use Rattle.field_table.specs.Lines.{set_len}
use Rattle.slots.specs.declared.lawful.Side.TheVariants.{Encoder}
use Rattle.share_words.specs.Share.{share_len, accepted_at, held_at, prft_at, set_at}
use Rattle.slots.specs.Share.{asked_of, track_of, is_open, set_ok, lawful}
use Rattle.slots.specs.Table.{Out, share_at, table_rungs, on_table}
use Rattle.slots.specs.Laws.{after, Keeps, Apart}
use Rattle.slots.proofs.Apart.{apart, others-stay}
use Rattle.answers.specs.Took.{Took, refused, PastStays}
use Rattle.answers.proofs.TookLaws.{refused-past}
use Rattle.reference.proofs.OpenLaws.{Opened, opened-facts, held-facts}
use Rattle.prft_value.specs.Prft.{InRange}
use Rattle.reference.proofs.AcceptedLaws.{accepted-long, accepted-lawful}
use Rattle.cmaf_read_chunk.specs.Accepted.{top, bmdt, prft, brands, events, payload, fields, late_rungs, accept_rungs}
use Rattle.cmaf_read_chunk.proofs.TakenLaws.{payload-behind}
use Rattle.cmaf_read_chunk.proofs.LawfulSet.{chunk-lawful}
use Rattle.cmaf_read_facts.proofs.Gives.{chunk-agrees, chunk-sizes}
use Rattle.counters.specs.Protected.{last_protected, last_fits}
use Rattle.counters.proofs.LastLaws.{last-kept}
use Rattle.encoder.specs.Object.{block_items, leaves_out, may_delta, gives_delta, fits_ok, front}
use Rattle.encoder.specs.Encode.{refusing, last_rungs, chunk_rungs, encode_rungs, kept, done, encoding}
use Rattle.encoder.specs.Laws.{EncodeExactly, EncodeStaysLawful, Refused, EncodeRefuses, EncodePast, BlockFits, EncodeOnly, EncodeMakes}
use Rattle.cmaf_read_chunk.proofs.ChunkFacts.{brands-few, list-few, fields-long}
use Rattle.encoder.proofs.ChunkLaws.{prft-ranged}
use Rattle.encoder.proofs.EncodeLaws.{iv-right}
use Rattle.encoder.proofs.FitLaws.{full-small}
use Rattle.locmaf_write_tuples.specs.Items.{pair_most}
use Rattle.locmaf_write_block.specs.Fields.{gone_most}
use Rattle.encoder.proofs.BlockSizes.{Most, fields_most, before-most, fields-most, deletions-most, times-most, version-most, flags-most, brands-most, events-most}

-- ---- numbers

-- each number is given exactly when its rule is broken and none before it
pub encode-exactly : EncodeExactly
unfolding on_table encoding
encode-exactly F wish c output t slot =
    let rungs : List Rung = encode_rungs F wish c output (share_at t slot) in
    let is : (on_table (refused output) (encoding F wish c output) t slot).answer.number ≡ number_of (table_rungs t slot ++ rungs) =
    ladder-seen (λ (a : Out Took). a.answer.number) (table_rungs t slot) _ _
    ∙ ap (ladder (table_rungs t slot) (λ k. k)) (ladder-seen (λ (a : Out Took). a.answer.number) rungs _ _)
    ∙ sym (ladder-append (table_rungs t slot) rungs (λ k. k) 0) in
    subst (λ (k : ℕ). Given k (table_rungs t slot ++ rungs)) (sym is) (given (table_rungs t slot ++ rungs))

-- and no other number
pub encode-only : EncodeOnly
encode-only F wish c output t slot k g =
    given-one (table_rungs t slot ++ encode_rungs F wish c output (share_at t slot)) k _ g (encode-exactly F wish c output t slot)

-- ---- what a refusal leaves

-- it writes nothing, hands back nothing and changes nothing
pub encode-refuses : EncodeRefuses
unfolding encoding
encode-refuses F wish c output s =
    climbs-all P (refusing output s) (encode_rungs F wish c output s) (done F wish c output s)
    (λ k n. record { front = refl; payload = refl; untouched = refl; kept = refl }) (λ h n. absurd (n refl))
  where
    P : Out Took → Type 0
    P a = (a.answer.number ≡ 0 → ⊥) → Refused output s a

-- ---- a chunk that breaks no rule

pub record Passed (F : List Row) (wish : Bool) (c output s : List ℕ) : Type 0 where
  pub lawful-share : lawful Encoder s ≡ true
  pub opened : is_open s ≡ true
  pub accepted : Hold (accept_rungs F (track_of s) c)
  pub fits : fits_ok F s c wish ≡ true
  pub room : length (front F s c wish) ≤ length output

pub passed : (F : List Row) (wish : Bool) (c output s : List ℕ) → Hold (encode_rungs F wish c output s) → Passed F wish c output s
unfolding encode_rungs chunk_rungs last_rungs
passed F wish c output s h =
    let late = hold-back (accept_rungs F (track_of s) c) (last_rungs F wish c output s) h.1.1 in
    record {
      lawful-share = h.0;
      opened = h.1.0;
      accepted = hold-front (accept_rungs F (track_of s) c) (last_rungs F wish c output s) h.1.1;
      fits = late.0;
      room = leb-true _ _ late.1.0;
    }

-- ---- the output

pub encode-past : EncodePast
unfolding encoding
encode-past F wish c output s =
    climbs-all P (refusing output s) (encode_rungs F wish c output s) (done F wish c output s) (refused-past output)
    (λ h.
    let room = (passed F wish c output s h).room in
    let f = front-stays (front F s c wish) output room in
    record { room = room; long = f.0; past = f.1 })
  where
    P : Out Took → Type 0
    P a = PastStays output a.answer

-- the payload is the last so many bytes of the chunk
pub encode-last : (F : List Row) (wish : Bool) (c output s : List ℕ)
    → (encoding F wish c output s).answer.payload ≡ drop (length c - length (encoding F wish c output s).answer.payload) c
unfolding encoding accept_rungs
encode-last F wish c output s =
    climbs-all (λ (a : Out Took). a.answer.payload ≡ drop (length c - length a.answer.payload) c) (refusing output s) (encode_rungs F wish c output s)
    (done F wish c output s) (λ k. drop-last (length c) c [] (sym (drop-length c)))
    (λ h. drop-last ((top c).mdat.at + 8) c (payload c) (payload-behind (track_of s) c (passed F wish c output s h).accepted.1.0))

-- ---- the share's length

-- what a delta goes by: a reference is held
pub delta-held : (F : List Row) (s c : List ℕ) (wish : Bool) → gives_delta F s c wish ≡ true → eqb (get_or s held_at 0) 0 ≡ false
unfolding gives_delta may_delta
delta-held F s c wish h =
    let e = left _ _ h in
    not-true _ (and_left (not (eqb (get_or s held_at 0) 0)) (not (prft c).stands || not (eqb (get_or s prft_at 0) 0))
    (and_right wish (not (eqb (get_or s held_at 0) 0) && (not (prft c).stands || not (eqb (get_or s prft_at 0) 0))) e))

pub bmdt-small : (F : List Row) (s c : List ℕ) (wish : Bool) → fits_ok F s c wish ≡ true → bmdt c ≤ number_most
unfolding fits_ok
bmdt-small F s c wish h = leb-true _ _ (left _ _ h)

module _ (F : List Row) (wish : Bool) (c output s : List ℕ) (l : length s ≡ share_len) (h : Passed F wish c output s) where
  opened : Opened Encoder s
  opened = opened-facts Encoder s h.lawful-share h.opened

  set_long : length (fields (track_of s) c) ≡ set_len
  set_long = fields-long F (track_of s) c h.accepted (ranges (asked_of s) opened.track).iv-size

  done-long : length (kept F wish c output s) ≡ share_len
  unfolding kept
  done-long = accepted-long s l (gives_delta F s c wish) (get_or s accepted_at 0) (prft c) (fields (track_of s) c) (length (payload c)) set_long

  -- the set that is kept, and the `prft` of a full object
  pub set-kept : all_le 255 c ≡ true → set_ok (track_of s) (fields (track_of s) c) ≡ true
  unfolding set_ok
  set-kept b =
      let iv = iv-right s opened.track in
      let small = bmdt-small F s c wish h.fits in
      both _ _ (chunk-lawful F (track_of s) c b iv h.accepted small) (chunk-agrees F (track_of s) c b iv h.accepted small)

  -- and its last sample's protected bytes can be kept
  pub last-fits : all_le 255 c ≡ true → last_fits (track_of s) (fields (track_of s) c) (last_protected (track_of s) (fields (track_of s) c) (length (payload c))) ≡ true
  last-fits b =
      let iv = iv-right s opened.track in
      let z = chunk-sizes F (track_of s) c b iv h.accepted in
      last-kept (track_of s) (fields (track_of s) c) set_long (chunk-lawful F (track_of s) c b iv h.accepted (bmdt-small F s c wish h.fits)) (length (payload c)) z.1 z.0

  pub prft-kept : limit F ≤ 2 ^ 62 → all_le 255 c ≡ true → gives_delta F s c wish ≡ false → InRange (prft c)
  prft-kept m b d =
      prft-ranged F (track_of s) c h.accepted b
      (λ e. let k = full-small F s c wish h.fits d e in (omega (arith, k.0), omega (arith, k.1)))

  done-lawful : limit F ≤ 2 ^ 62 → all_le 255 c ≡ true → lawful Encoder (kept F wish c output s) ≡ true
  unfolding kept
  done-lawful m b =
      accepted-lawful s l (gives_delta F s c wish) (get_or s accepted_at 0) (prft c) (fields (track_of s) c) (length (payload c)) Encoder h.opened opened opened.accepted
      (λ d. (held-facts (track_of s) s opened.reference (delta-held F s c wish d)).0) (prft-kept m b) (last-fits b) (set-kept b)

-- a share's length stays, whatever the chunk's bytes are
pub encode-keeps : (F : List Row) (wish : Bool) (c output : List ℕ) → Keeps (encoding F wish c output)
unfolding encoding
encode-keeps F wish c output =
    record {
      keeps =
          λ s l.
          let P : Out Took → Type 0 = λ a. length a.words ≡ share_len in
          climbs-all P (refusing output s) (encode_rungs F wish c output s) (done F wish c output s) (λ k. l)
          (λ h. done-long F wish c output s l (passed F wish c output s h));
    }

-- no share but the named one is changed
pub encode-others : (F : List Row) (wish : Bool) (c output : List ℕ) (i j : ℕ) → (i ≡ j → ⊥) → j < 8 → (t : List ℕ)
    → share_at (after (refused output) (encoding F wish c output) i t) j ≡ share_at t j
encode-others F wish c output i j d h t = others-stay Took (refused output) (encoding F wish c output) (encode-keeps F wish c output) i j d h t

-- chunks encoded on different slots: either order leaves the same table, and each is answered as it would be alone
pub encode-apart : (F : List Row) (wish : Bool) (c output : List ℕ) (F' : List Row) (wish' : Bool) (c' output' : List ℕ) (i j : ℕ) → (i ≡ j → ⊥)
    → (t : List ℕ) → Apart (refused output) (encoding F wish c output) (refused output') (encoding F' wish' c' output') i j t
encode-apart F wish c output F' wish' c' output' i j d t =
    apart Took Took (refused output) (encoding F wish c output) (refused output') (encoding F' wish' c' output') (encode-keeps F wish c output)
    (encode-keeps F' wish' c' output') i j d t

-- and beside any other call on another slot
pub encode-beside : (Y : Type 0) (refuse : ℕ → Y) (g : List ℕ → Out Y) → Keeps g → (F : List Row) (wish : Bool) (c output : List ℕ) (i j : ℕ)
    → (i ≡ j → ⊥) → (t : List ℕ) → Apart (refused output) (encoding F wish c output) refuse g i j t
encode-beside Y refuse g k F wish c output i j d t =
    apart Took Y (refused output) (encoding F wish c output) refuse g (encode-keeps F wish c output) k i j d t

-- ---- lawful shares

pub encode-stays-lawful : EncodeStaysLawful
unfolding encoding
encode-stays-lawful form wish c output s b l h =
    let F : List Row = rows form in
    let P : Out Took → Type 0 = λ a. lawful Encoder a.words ≡ true in
    climbs-all P (refusing output s) (encode_rungs F wish c output s) (done F wish c output s) (λ k. h)
    (λ p. done-lawful F wish c output s l (passed F wish c output s p) (limit-most form) b)

-- ---- the block

-- what is done, is done where no rule is broken
encode-numbered : (F : List Row) (wish : Bool) (c output s : List ℕ) → Numbered (encode_rungs F wish c output s)
unfolding encode_rungs chunk_rungs accept_rungs late_rungs last_rungs nonzero ◌and◌
encode-numbered F wish c output s = numbered (encode_rungs F wish c output s) refl

-- where the answer is 0, every rule holds
pub done-hold : (F : List Row) (wish : Bool) (c output s : List ℕ) → (encoding F wish c output s).answer.number ≡ 0 → Hold (encode_rungs F wish c output s)
unfolding encoding
done-hold F wish c output s e =
    all_hold (encode_rungs F wish c output s) (encode-numbered F wish c output s)
    (sym (ladder-seen (λ (a : Out Took). a.answer.number) (encode_rungs F wish c output s) (refusing output s) (done F wish c output s)) ∙ e)

pub done-passed : (F : List Row) (wish : Bool) (c output s : List ℕ) → (encoding F wish c output s).answer.number ≡ 0 → Passed F wish c output s
done-passed F wish c output s e = passed F wish c output s (done-hold F wish c output s e)

pub done-is : (F : List Row) (wish : Bool) (c output s : List ℕ) → (encoding F wish c output s).answer.number ≡ 0
    → encoding F wish c output s ≡ done F wish c output s
unfolding encoding
done-is F wish c output s e =
    climbed (refusing output s) (done F wish c output s) (encode_rungs F wish c output s) (done-hold F wish c output s e)

-- the object is the one that the rules define
pub encode-makes : EncodeMakes
encode-makes F wish c output s e =
    let q = done-is F wish c output s e in
    record {
      first =
          ap (λ (a : Out Took). take a.answer.front a.answer.output) q
          ∙ take-append_seam (front F s c wish) (drop (length (front F s c wish)) output);
      rest = ap (λ (a : Out Took). a.answer.payload) q;
    }

-- the most bytes of each part of a block, and of all that follow it
abbrev events_bytes : ℕ
events_bytes = pair_most + event_bytes_most

abbrev after_flags : ℕ
after_flags = events_bytes + gone_most

abbrev brands_bytes : ℕ
brands_bytes = pair_most + (brand_bytes_most + 4)

abbrev after_brands : ℕ
after_brands = pair_most + after_flags

abbrev after_version : ℕ
after_version = brands_bytes + after_brands

abbrev after_times : ℕ
after_times = pair_most + after_version

abbrev after_fields : ℕ
after_fields = (pair_most + pair_most) + after_times

-- a block has at most 12,340 bytes
block-most : (F : List Row) (wish : Bool) (c output s : List ℕ) → longest F ≤ 8 → all_le 255 c ≡ true → length s ≡ share_len → Passed F wish c output s
    → (delta : Bool) → Most F 12340 (block_items F s c delta)
unfolding block_items
block-most F wish c output s w b l h delta =
    let o = opened F wish c output s l h in
    let t = track_of s in
    let x = fields t c in
    before-most F w fields_most after_fields _ _
    (fields-most F w t delta (leaves_out F s c delta) (drop set_at s) x
    (chunk-lawful F t c b (iv-right s o.track) h.accepted (bmdt-small F s c wish h.fits)) (ranges (asked_of s) o.track).iv-size)
    (before-most F w (pair_most + pair_most) after_times _ _ (times-most F w delta s (prft c))
    (before-most F w pair_most after_version _ _ (version-most F w delta s (prft c))
    (before-most F w brands_bytes after_brands _ _ (brands-most F w (brand_bytes_most + 4) delta (brands c) (omega (arith, (brands-few F t c h.accepted).0)))
    (before-most F w pair_most after_flags _ _ (flags-most F w delta s (prft c))
    (before-most F w events_bytes gone_most _ _ (events-most F w event_bytes_most (events t c) (list-few F t c h.accepted))
    (deletions-most F w t delta (leaves_out F s c delta) (drop set_at s) x))))))

pub block-fits : BlockFits
block-fits form wish c output s b l e =
    let h = done-passed (rows form) wish c output s e in
    let k = block-most (rows form) wish c output s (longest-eight form) b l h (gives_delta (rows form) s c wish) in
    omega arith

-- The producer reference time of the object is the chunk's, and its ids stand together. Assumes nothing.
use Prim.Native.Nat.{ℕ, ◌+◌, ◌-◌, ◌^◌, ◌≤◌}
use mathlib.Core.Path.{◌≡◌, refl, sym, ap}
use mathlib.Core.Bool.{Bool, true, false, not, ◌&&◌, ◌||◌, cond, beq}
use mathlib.Core.List.{List, [], ◌∷◌}
use borrow.Author.Tests.{eqb-true, not-false}
use borrow.Table.Steps.{cases}
use lib.Dec.{eqb}
use lib.ListN.{length, get_or, drop}
use Rattle.std.specs.Prelude.{Option, Some, None}
use Rattle.wire.specs.declared.zigzag.Coding.{Coding}
use Rattle.wire.specs.Zigzag.{wire_of}
use Rattle.wire.proofs.ZigzagLaws.{back}
use Rattle.laws.specs.Options.{is_some}
use Rattle.field_table.specs.Lines.{lines}
use Rattle.share_words.specs.Share.{held_at, prft_at, ntp_at, media_time_at, version_at, prft_flags_at, set_at}
use Rattle.slots.specs.Share.{track_of}
use Rattle.prft_value.specs.declared.Prft.{Prft}
use Rattle.locmaf_read_said.specs.Said.{Says}
use Rattle.field_rules.specs.Fields.{coding_for}
use Rattle.locmaf_read_said.specs.Deletions.{moof_field}
use Rattle.locmaf_read_head.specs.Ids.{ids_ok}
use Rattle.locmaf_read_times.specs.Prft.{number_of, number_for, times_of, prft_of}
use Rattle.prft_value.specs.Prft.{media_most, kept_for}
use Rattle.cmaf_read_chunk.specs.Accepted.{prft, fields}
use Rattle.locmaf_write_block.specs.Fields.{gone_of, bmdt_stands, count_stands}
use Rattle.locmaf_write_block.proofs.GoneLaws.{gone-full}
use Rattle.encoder.specs.Object.{leaves_out}
use Rattle.cmaf_read_facts.specs.Given.{F, BoxedPrft}
use Rattle.reread.specs.Block.{said_if, block_says}
use Rattle.reread.proofs.Known.{Known}
use Rattle.reread.proofs.BlockSaid.{said-by}

-- a number that is omitted where it is the usual one
unless-back : (coding : Coding) (usual v bound : ℕ) → v ≤ bound → number_of coding (said_if (not (eqb v usual)) (wire_of coding usual v ∷ [])) usual bound ≡ Some v
unfolding number_of
unless-back coding usual v bound h =
    said-by (λ (o : Option (List ℕ)). number_of coding o usual bound ≡ Some v) (not (eqb v usual)) (wire_of coding usual v ∷ []) (λ e. back coding usual v bound h)
    (λ e. ap Some (sym (eqb-true _ _ (not-false _ e))))

-- one that is sent: plain, or against the share's
time-back : (delta : Bool) (old v bound : ℕ) → v ≤ bound
    → number_of (coding_for delta) (Some (wire_of (coding_for delta) old v ∷ [])) (kept_for delta old 0) bound ≡ Some v
unfolding number_of wire_of
time-back true old v bound h = back (coding_for true) old v bound h
time-back false old v bound h = back (coding_for false) 0 v bound h

some-if : (b : Bool) (zs : List ℕ) → is_some (said_if b zs) ≡ b
some-if true zs = refl
some-if false zs = refl

-- the rule by what stands: the two times, version, flags, brands, deletions, and BMDT and the count
ids-by : (d o a b e g k m n : Bool) → (d ≡ true → o ≡ true → k ≡ true) → (d ≡ false → g ≡ true)
    → (beq o o && ((o || not ((o && a) || (o && b))) && cond d (not (not d && e) && (not o || k)) (not (not g) && ((not d || m) && (not d || n))))) ≡ true
ids-by true true a b e g k m n h q = h refl refl
ids-by true false a b e g k m n h q = refl
ids-by false true a b e g k m n h q = rw (q refl)
ids-by false false a b e g k m n h q = rw (q refl)

module _ {s c : List ℕ} {delta : Bool} (k : Known s c delta) where
  abbrev p : Prft
  p = prft c

  abbrev f : Says
  f = block_says s c delta

  -- the `prft`, on a share u that keeps the same of the current full object
  pub prft-back : (u : List ℕ) → ((i : ℕ) → get_or u (held_at + i) 0 ≡ get_or s (held_at + i) 0) → prft_of delta f u ≡ record { ok = true; prft = p }
  unfolding prft_of times_of number_for block_says moof_field
  prft-back u same =
      let boxed : BoxedPrft p = k.given.prft in
      cases p.stands
      (λ e.
      rw (
        e,
        same (version_at - held_at),
        e,
        unless-back (coding_for delta) (kept_for delta (get_or s version_at 0) 1) p.version 1 boxed.version,
        same (prft_flags_at - held_at),
        unless-back (coding_for delta) (kept_for delta (get_or s prft_flags_at 0) 0) p.flags (2 ^ 24 - 1) boxed.flags,
        same (ntp_at - held_at),
        e,
        time-back delta (get_or s ntp_at 0) p.ntp.0 (2 ^ 64 - 1) boxed.ntp,
        same (media_time_at - held_at),
        time-back delta (get_or s media_time_at 0) p.media.0 (media_most p.version) boxed.media,
      ))
      (λ e.
      let z : f 18 ≡ None = ap (λ (a : Bool). said_if a (wire_of (coding_for delta) (get_or s ntp_at 0) p.ntp.0 ∷ [])) e in
      rw z (ap (λ (q : Prft). record { ok = true; prft = q }) (sym (boxed.none e))))

  -- the ids stand as they must
  pub ids-back : ids_ok delta (not (eqb (get_or s prft_at 0) 0)) (λ id. is_some (f id)) ≡ true
  unfolding ids_ok block_says moof_field bmdt_stands count_stands
  ids-back =
      let gone : List ℕ = gone_of (track_of s) delta (leaves_out F s c delta) (drop set_at s) (fields (track_of s) c) lines in
      let full : delta ≡ false → eqb (length gone) 0 ≡ true = λ e. rw (gone-full (track_of s) delta (leaves_out F s c delta) (drop set_at s) (fields (track_of s) c) e lines) in
      simp some-if (ids-by delta p.stands _ _ _ (eqb (length gone) 0) _ _ _ k.prft-held full)

-- The `prft` by its length and version. Assumes nothing.
use Prim.Native.Nat.{ℕ, ◌+◌, ◌-◌, ◌/◌, ◌%◌, ◌^◌, ◌≤◌, ◌<◌}
use native.Mathlib.Omega.{arith}
use mathlib.Core.Path.{◌≡◌, refl, sym, ◌∙◌, ap, subst}
use mathlib.Core.Bool.{Bool, true, false, false≢true, cond, ◌&&◌, ◌||◌}
use mathlib.Core.List.{List}
use borrow.Author.Tests.{eqb-true, eqb-false, eq-eqb, ne_eqb}
use lib.Dec.{eqb}
use Rattle.laws.specs.Bytes.{Bytes}
use Rattle.laws.proofs.TestLaws.{and_left, and_right, either}
use Rattle.byte_parts.specs.declared.Part.{Part}
use Rattle.cmaf_read_shape.specs.Parts.{Inside}
use Rattle.prft_value.specs.Prft.{absent_prft, Headed}
use Rattle.cmaf_read_prelude.specs.Fields.{version_at}
use Rattle.cmaf_read_tree.specs.Numbers.{u32, u64}
use Rattle.cmaf_read_prelude.specs.Prft.{prft_ok, media_time, prft_of, prft_track}
use Rattle.cmaf_read_prelude.proofs.NumberLaws.{number_lt}

neither : (a b : Bool) → b ≡ false → (a && b) ≡ false
neither true b e = e
neither false b e = refl

module _ (c : List ℕ) (b : Part) where
  -- ---- what code finds

  pub prft-short : b.len < 28 → eqb b.len 0 ≡ prft_ok c b
  unfolding prft_ok
  prft-short h =
      let p : eqb b.len 28 ≡ false = ne_eqb b.len 28 (λ e. omega arith) in
      let q : eqb b.len 32 ≡ false = ne_eqb b.len 32 (λ e. omega arith) in
      rw (neither (eqb (version_at c b) 0) _ p, neither (eqb (version_at c b) 1) _ q) (sym (or-end (eqb b.len 0)))
    where
      or-end : (a : Bool) → (a || false) ≡ a
      or-end true = refl
      or-end false = refl

  pub prft-long : (w : ℕ) → w ≡ u32 c (b.at + 8) → 28 ≤ b.len
      → ((eqb (w / 0x100_0000) 0 && eqb b.len 28) || (eqb (w / 0x100_0000) 1 && eqb b.len 32)) ≡ prft_ok c b
  unfolding prft_ok
  prft-long w e h = rw (e, ne_eqb b.len 0 (λ z. omega arith))

  -- ---- what a test that holds says of a box that stands

  pub record PrftFits : Type 0 where
    pub long : 28 ≤ b.len
    pub wide : (version_at c b ≡ 0 → ⊥) → 32 ≤ b.len
    pub version : version_at c b ≤ 1

  pub prft-fits : prft_ok c b ≡ true → 0 < b.len → PrftFits
  unfolding prft_ok
  prft-fits e h =
      either PrftFits (eqb b.len 0) _ (λ z. absurd (let q : b.len ≡ 0 = eqb-true b.len 0 z in omega arith))
      (either PrftFits (eqb (version_at c b) 0 && eqb b.len 28) (eqb (version_at c b) 1 && eqb b.len 32)
      (λ y.
      let v : version_at c b ≡ 0 = eqb-true (version_at c b) 0 (and_left _ (eqb b.len 28) y) in
      let l : b.len ≡ 28 = eqb-true b.len 28 (and_right (eqb (version_at c b) 0) _ y) in
      record { long = omega arith; wide = λ n. absurd (n v); version = omega arith })
      (λ y.
      let v : version_at c b ≡ 1 = eqb-true (version_at c b) 1 (and_left _ (eqb b.len 32) y) in
      let l : b.len ≡ 32 = eqb-true b.len 32 (and_right (eqb (version_at c b) 1) _ y) in
      record { long = omega arith; wide = λ n. omega arith; version = omega arith }))
      e

  -- a word of a version that isn't 0
  pub media-long : (w : ℕ) → prft_ok c b ≡ true → 0 < b.len → w ≡ u32 c (b.at + 8) → (w / 0x100_0000 ≡ 0 → ⊥) → 32 ≤ b.len
  media-long w e h ew n = (prft-fits e h).wide (λ z. n (ap (λ (v : ℕ). v / 0x100_0000) ew ∙ z))

  -- ---- its fields

  pub media-short : (w m : ℕ) → w ≡ u32 c (b.at + 8) → w / 0x100_0000 ≡ 0 → m ≡ u32 c (b.at + 24) → m ≡ media_time c b
  unfolding media_time
  media-short w m e z em = rw (← e, eq-eqb (w / 0x100_0000) 0 z) em

  pub media-wide : (w m : ℕ) → w ≡ u32 c (b.at + 8) → (w / 0x100_0000 ≡ 0 → ⊥) → m ≡ u64 c (b.at + 24) → m ≡ media_time c b
  unfolding media_time
  media-wide w m e z em = rw (← e, ne_eqb (w / 0x100_0000) 0 z) em

  pub prft-none : b.len ≡ 0 → absent_prft ≡ prft_of c b
  unfolding prft_of
  prft-none h = rw (eq-eqb b.len 0 h)

  pub prft-some : (b.len ≡ 0 → ⊥) → (w n m : ℕ) → w ≡ u32 c (b.at + 8) → n ≡ u64 c (b.at + 16) → m ≡ media_time c b
      → record { stands = true; ntp = record { 0 = n }; media = record { 0 = m }; version = w / 0x100_0000; flags = w % 0x100_0000 } ≡ prft_of c b
  unfolding prft_of
  prft-some h w n m ew en em = rw (ne_eqb b.len 0 h, ew, en, em)

  pub track-none : (ours : ℕ) → b.len ≡ 0 → ours ≡ prft_track c b ours
  unfolding prft_track
  track-none ours h = rw (eq-eqb b.len 0 h)

  pub track-some : (ours : ℕ) → (b.len ≡ 0 → ⊥) → u32 c (b.at + 12) ≡ prft_track c b ours
  unfolding prft_track
  track-some ours h = rw (ne_eqb b.len 0 h)

  -- ---- it can be written again: its version and flags fit their fields
  pub prft-headed : prft_ok c b ≡ true → Headed (prft_of c b)
  prft-headed e = by (eqb b.len 0) refl
    where
      by : (t : Bool) → eqb b.len 0 ≡ t → Headed (prft_of c b)
      by true q = subst Headed (prft-none (eqb-true b.len 0 q)) (record { version = omega arith; flags = omega arith })
      by false q =
          let n = eqb-false b.len 0 q in
          let f = prft-fits e (omega (arith, n)) in
          subst Headed (prft-some n (u32 c (b.at + 8)) (u64 c (b.at + 16)) (media_time c b) refl refl refl)
          (record { version = omega (arith, f.version); flags = omega arith })

  -- where no box stands, nothing is said
  pub prft-lacks : (prft_of c b).stands ≡ false → absent_prft ≡ prft_of c b
  unfolding prft_of
  prft-lacks = by (eqb b.len 0) refl
    where
      by : (t : Bool) → eqb b.len 0 ≡ t → (prft_of c b).stands ≡ false → absent_prft ≡ prft_of c b
      by true q z = prft-none (eqb-true b.len 0 q)
      by false q z = absurd (false≢true (sym (rw q at z)))

  -- its version is 0 or 1, and its times have as many bits as their fields: the media time 32 in version 0
  pub prft-ranges : Bytes c → Inside c b → prft_ok c b ≡ true → ((prft_of c b).version ≤ 1) × ((prft_of c b).ntp.0 ≤ 2 ^ 64 - 1)
      × ((prft_of c b).media.0 ≤ cond (eqb (prft_of c b).version 0) (2 ^ 32 - 1) (2 ^ 64 - 1))
  unfolding prft_of media_time
  prft-ranges h n e = by (eqb b.len 0) refl
    where
      media : PrftFits → (x : Bool) → eqb (version_at c b) 0 ≡ x → cond x (u32 c (b.at + 24)) (u64 c (b.at + 24)) ≤ cond x (2 ^ 32 - 1) (2 ^ 64 - 1)
      media f true q = omega (arith, number_lt c 4 (b.at + 24) h (omega (arith, f.long, n.within)))
      media f false q = omega (arith, number_lt c 8 (b.at + 24) h (omega (arith, f.wide (eqb-false _ _ q), n.within)))

      by : (t : Bool) → eqb b.len 0 ≡ t → ((prft_of c b).version ≤ 1) × ((prft_of c b).ntp.0 ≤ 2 ^ 64 - 1)
          × ((prft_of c b).media.0 ≤ cond (eqb (prft_of c b).version 0) (2 ^ 32 - 1) (2 ^ 64 - 1))
      by true q = rw q (omega arith, omega arith, omega arith)
      by false q =
          let f = prft-fits e (omega (arith, eqb-false b.len 0 q)) in
          rw q (f.version, omega (arith, number_lt c 8 (b.at + 16) h (omega (arith, f.long, n.within))), media f (eqb (version_at c b) 0) refl)

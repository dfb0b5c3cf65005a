-- On what a `prft` rests, and what is known of one that was told. Assumes nothing.
use Prim.Native.Nat.{ℕ, ◌-◌, ◌%◌, ◌^◌, ◌≤◌, zero-le}
use native.Mathlib.Omega.{arith}
use mathlib.Core.Path.{◌≡◌, refl, sym, ◌∙◌}
use mathlib.Core.Logic.{◌⊎◌, inl, inr, ⊎_elim}
use mathlib.Core.Bool.{Bool, true, false, cond, false≢true}
use mathlib.Core.List.{List, [], ◌∷◌}
use borrow.Author.Tests.{eqb-false}
use lib.Dec.{eqb}
use lib.ListN.{get_or}
use Rattle.constants.specs.Maxima.{number_most}
use Rattle.wire.specs.declared.zigzag.Coding.{Coding}
use Rattle.wire.specs.declared.zigzag.Coding.TheVariants.{Plain, Delta}
use Rattle.std.specs.Prelude.{Option, Some, None}
use Rattle.wire.proofs.ZigzagLaws.{reached-most, plain-inv}
use Rattle.media.specs.Clocks.{as_track, as_ntp}
use Rattle.share_words.specs.Share.{ntp_at, media_time_at, version_at, prft_flags_at}
use Rattle.prft_value.specs.declared.Prft.{Prft}
use Rattle.prft_value.specs.Prft.{Headed, media_most, InRange}
use Rattle.locmaf_read_said.specs.Said.{Says}
use Rattle.locmaf_read_times.specs.declared.prft.Told.{Told}
use Rattle.locmaf_read_times.specs.Prft.{number_of, number_for, told, no_prft, times_of, prft_of}
use Rattle.locmaf_read_times.proofs.PrftLaws.{prft-none, prft-some}
use Rattle.laws.specs.Options.{on_option}

-- ---- the base media decode time

-- ---- which ids may stand

-- ---- the producer reference time

-- what is said of equal answers, by equal continuations
on_same : {A : Type 0} (r r' : Option ℕ) (f g : ℕ → A) (z : A) → r ≡ r' → ((v : ℕ) → f v ≡ g v) → on_option r f z ≡ on_option r' g z
on_same r r' f g z e h = rw e (go r')
  where
    go : (x : Option ℕ) → on_option x f z ≡ on_option x g z
    go (Some v) = h v
    go None = refl

number-says : (delta : Bool) (says says' : Says) (id share plain bound : ℕ) → says id ≡ says' id
    → number_for delta says id share plain bound ≡ number_for delta says' id share plain bound
unfolding number_for
number-says delta says says' id share plain bound e = rw e

-- a `prft` rests on four ids
module _ (delta : Bool) (s : List ℕ) (says says' : Says) (a : says 18 ≡ says' 18) (b : says 20 ≡ says' 20) where
  times-says : (version flags : ℕ) → times_of delta says s version flags ≡ times_of delta says' s version flags
  unfolding times_of
  times-says version flags =
      rw (
        number-says delta says says' 18 (get_or s ntp_at 0) 0 (2 ^ 64 - 1) a,
        number-says delta says says' 20 (get_or s media_time_at 0) 0 (media_most version) b,
      )

  pub prft-says : says 22 ≡ says' 22 → says 24 ≡ says' 24 → prft_of delta says s ≡ prft_of delta says' s
  prft-says c d = go (says' 18) refl
    where
      go : (o : Option (List ℕ)) → says' 18 ≡ o → prft_of delta says s ≡ prft_of delta says' s
      go None e = sym (prft-none delta says s (a ∙ e)) ∙ prft-none delta says' s e
      go (Some zs) e =
          prft-some delta says s zs (a ∙ e)
          ∙ on_same _ _ _ _ _ (number-says delta says says' 22 (get_or s version_at 0) 1 1 c)
          (λ version. on_same _ _ _ _ _ (number-says delta says says' 24 (get_or s prft_flags_at 0) 0 (2 ^ 24 - 1) d) (λ flags. times-says version flags))
          ∙ sym (prft-some delta says' s zs e)

-- a full object's needs nothing of the share
pub full-alone : (says : Says) (s s' : List ℕ) → prft_of false says s ≡ prft_of false says s'
unfolding times_of number_for
full-alone says s s' = go (says 18) refl
  where
    go : (o : Option (List ℕ)) → says 18 ≡ o → prft_of false says s ≡ prft_of false says s'
    go None e = sym (prft-none false says s e) ∙ prft-none false says s' e
    go (Some zs) e = prft-some false says s zs e ∙ sym (prft-some false says s' zs e)

-- what a `prft` that stands is made of
pub record Made (delta : Bool) (says : Says) (s : List ℕ) (p : Prft) : Type 0 where
  pub stands : p.stands ≡ true
  pub version : number_for delta says 22 (get_or s version_at 0) 1 1 ≡ Some p.version
  pub flags : number_for delta says 24 (get_or s prft_flags_at 0) 0 (2 ^ 24 - 1) ≡ Some p.flags
  pub ntp : number_for delta says 18 (get_or s ntp_at 0) 0 (2 ^ 64 - 1) ≡ Some p.ntp.0
  pub media : number_for delta says 20 (get_or s media_time_at 0) 0 (media_most p.version) ≡ Some p.media.0

module _ (delta : Bool) (says : Says) (s : List ℕ) where
  -- that there is none, or one that is made of its numbers, where it is no refusal
  abbrev pub Fine : Told → Type 0
  Fine r = r.ok ≡ true → (r.prft ≡ (no_prft true).prft) ⊎ Made delta says s r.prft

  times-fine : (version flags : ℕ) → number_for delta says 22 (get_or s version_at 0) 1 1 ≡ Some version
      → number_for delta says 24 (get_or s prft_flags_at 0) 0 (2 ^ 24 - 1) ≡ Some flags → Fine (times_of delta says s version flags)
  unfolding times_of
  times-fine version flags v f = one (number_for delta says 18 (get_or s ntp_at 0) 0 (2 ^ 64 - 1)) refl
    where
      two : (ntp : ℕ) → number_for delta says 18 (get_or s ntp_at 0) 0 (2 ^ 64 - 1) ≡ Some ntp
          → (m : Option ℕ) → number_for delta says 20 (get_or s media_time_at 0) 0 (media_most version) ≡ m
          → Fine (on_option (as_track m) (λ media. told (record { 0 = ntp }) media version flags) (no_prft false))
      two ntp n (Some media) m e = inr (record { stands = refl; version = v; flags = f; ntp = n; media = m })
      two ntp n None m e = absurd (false≢true e)

      one : (n : Option ℕ) → number_for delta says 18 (get_or s ntp_at 0) 0 (2 ^ 64 - 1) ≡ n
          → Fine
          (on_option (as_ntp n)
          (λ ntp.
          on_option (as_track (number_for delta says 20 (get_or s media_time_at 0) 0 (media_most version))) (λ media. told ntp media version flags) (no_prft false))
          (no_prft false))
      one (Some ntp) n e = two ntp n (number_for delta says 20 (get_or s media_time_at 0) 0 (media_most version)) refl e
      one None n e = absurd (false≢true e)

  pub prft-made : Fine (prft_of delta says s)
  prft-made = go (says 18) refl
    where
      two : (version : ℕ) → number_for delta says 22 (get_or s version_at 0) 1 1 ≡ Some version
          → (f : Option ℕ) → number_for delta says 24 (get_or s prft_flags_at 0) 0 (2 ^ 24 - 1) ≡ f
          → Fine (on_option f (times_of delta says s version) (no_prft false))
      two version v (Some flags) f e = times-fine version flags v f e
      two version v None f e = absurd (false≢true e)

      one : (v : Option ℕ) → number_for delta says 22 (get_or s version_at 0) 1 1 ≡ v
          → Fine
          (on_option v
          (λ version. on_option (number_for delta says 24 (get_or s prft_flags_at 0) 0 (2 ^ 24 - 1)) (times_of delta says s version) (no_prft false))
          (no_prft false))
      one (Some version) v e = two version v (number_for delta says 24 (get_or s prft_flags_at 0) 0 (2 ^ 24 - 1)) refl e
      one None v e = absurd (false≢true e)

      go : (o : Option (List ℕ)) → says 18 ≡ o → Fine (prft_of delta says s)
      go None q = rw (← prft-none delta says s q) (λ e. inl refl)
      go (Some zs) q = rw (prft-some delta says s zs q) (one (number_for delta says 22 (get_or s version_at 0) 1 1) refl)

-- a number doesn't pass its bound, where the kept one doesn't
number-most : (coding : Coding) (o : Option (List ℕ)) (kept bound v : ℕ) → kept ≤ bound → number_of coding o kept bound ≡ Some v → v ≤ bound
unfolding number_of
number-most coding None kept bound v h e = let same : kept ≡ v = cc in omega arith
number-most coding (Some []) kept bound v h e = let same : kept ≡ v = cc in omega arith
number-most coding (Some (z ∷ zs)) kept bound v h e = reached-most coding kept bound z v e

pub number-for-most : (delta : Bool) (says : Says) (id share plain bound v : ℕ) → (delta ≡ true → share ≤ bound) → plain ≤ bound
    → number_for delta says id share plain bound ≡ Some v → v ≤ bound
unfolding number_for
number-for-most true says id share plain bound v h k e = number-most Delta (says id) share bound v (h refl) e
number-for-most false says id share plain bound v h k e = number-most Plain (says id) plain bound v k e

-- version and flags fit their box
pub prft-headed : (delta : Bool) (says : Says) (s : List ℕ) → get_or s version_at 0 ≤ 1 → get_or s prft_flags_at 0 ≤ 0xffffff
    → (prft_of delta says s).ok ≡ true → Headed (prft_of delta says s).prft
prft-headed delta says s a b e =
    ⊎_elim (λ q. rw q (record { version = zero-le; flags = zero-le }))
    (λ m. record {
      version = omega (arith, number-for-most delta says 22 (get_or s version_at 0) 1 1 _ (λ d. a) (omega arith) m.version);
      flags = omega (arith, number-for-most delta says 24 (get_or s prft_flags_at 0) 0 (2 ^ 24 - 1) _ (λ d. b) zero-le m.flags);
    })
    (prft-made delta says s e)

-- a number of a full object is the one that is sent, or 0
number-sent : (says : Says) (id share bound most v : ℕ) → ((z : ℕ) (zs : List ℕ) → says id ≡ Some (z ∷ zs) → z ≤ most)
    → number_for false says id share 0 bound ≡ Some v → v ≤ most
unfolding number_for number_of
number-sent says id share bound most v h e = go (says id) refl e
  where
    go : (o : Option (List ℕ)) → says id ≡ o → number_of Plain o 0 bound ≡ Some v → v ≤ most
    go None q d = let same : 0 ≡ v = cc in omega arith
    go (Some []) q d = let same : 0 ≡ v = cc in omega arith
    go (Some (z ∷ zs)) q d = omega (arith, h z zs q, plain-inv 0 bound z v d)

-- the share that keeps a full object's `prft` stays lawful, if no number in it passes 62 bits
pub prft-lawful : (says : Says) (s : List ℕ) → ((id z : ℕ) (zs : List ℕ) → id % 2 ≡ 0 → says id ≡ Some (z ∷ zs) → z ≤ number_most)
    → (prft_of false says s).ok ≡ true
    → InRange (prft_of false says s).prft
prft-lawful says s small e = go (prft_of false says s).prft (prft-made false says s e)
  where
    media-most : (version media : ℕ) → version ≤ 1 → (b : Bool) → eqb version 0 ≡ b → media ≤ cond b (2 ^ 32 - 1) (2 ^ 64 - 1)
        → (version ≡ 1) ⊎ (media ≤ 0xffff_ffff)
    media-most version media h true q le = inr (omega arith)
    media-most version media h false q le = let n : version ≡ 0 → ⊥ = eqb-false _ _ q in inl (omega arith)

    go : (p : Prft) → (p ≡ (no_prft true).prft) ⊎ Made false says s p
        → InRange p
    go p (inl q) = rw q ((λ d. (refl, refl, refl, refl)), (λ d. (zero-le, inr zero-le, zero-le, zero-le, zero-le)))
    go p (inr m) =
        let v : p.version ≤ 1 = number-for-most false says 22 (get_or s version_at 0) 1 1 p.version (λ d. absurd (false≢true d)) (omega arith) m.version in
        let f : p.flags ≤ 2 ^ 24 - 1 =
        number-for-most false says 24 (get_or s prft_flags_at 0) 0 (2 ^ 24 - 1) p.flags (λ d. absurd (false≢true d)) zero-le m.flags in
        let t : p.media.0 ≤ media_most p.version =
        number-for-most false says 20 (get_or s media_time_at 0) 0 (media_most p.version) p.media.0 (λ d. absurd (false≢true d)) zero-le m.media in
        let n : p.ntp.0 ≤ number_most =
        number-sent says 18 (get_or s ntp_at 0) (2 ^ 64 - 1) number_most p.ntp.0 (λ z zs. small 18 z zs refl) m.ntp in
        let u : p.media.0 ≤ number_most =
        number-sent says 20 (get_or s media_time_at 0) (media_most p.version) number_most p.media.0 (λ z zs. small 20 z zs refl) m.media in
        ((λ d. absurd (false≢true (sym d ∙ m.stands))), (λ d. (v, media-most p.version p.media.0 v (eqb p.version 0) refl t, omega arith, n, u)))

-- The flags that are written, read bit by bit. Assumes nothing.
use Prim.Native.Nat.{ℕ, ◌+◌, ◌-◌, ◌*◌, ◌/◌, ◌%◌, ◌^◌, ◌<◌}
use mathlib.Core.Path.{◌≡◌, refl}
use mathlib.Core.Bool.{Bool, true, false, ◌&&◌, ◌||◌}
use borrow.Author.Tests.{eqb-true, ltb-true}
use lib.Dec.{eqb, ltb}
use Rattle.laws.proofs.TestLaws.{left, right}
use Rattle.laws.specs.Tests.{◌and◌}
use Rattle.boxes.specs.Box.{flag_when}
use Rattle.cmaf_read_shape.specs.Words.{bit_of}
use Rattle.cmaf_read_moof.specs.Defaults.{fields_in, tfhd_flags_ok}
use Rattle.cmaf_read_trun.specs.Rows.{columns_in, run_flags_ok}
use Rattle.rebuilt.specs.Read.{trun_word}

-- a flag as a bit
pub flag_is : (b : Bool) → eqb (flag_when b 1) 1 ≡ b
flag_is true = refl
flag_is false = refl

pub flag-four : (b : Bool) → 4 * flag_when b 1 ≡ flag_when b 4
flag-four true = refl
flag-four false = refl

-- ---- tfhd: by cases, each computed

abbrev pub tfhd_word : Bool → Bool → Bool → ℕ
tfhd_word a b d = 0x020000 + (flag_when a 0x2 + (flag_when b 0x8 + flag_when d 0x20))

pub record TfhdBits (a b d : Bool) : Type 0 where
  pub right : tfhd_flags_ok (tfhd_word a b d) ≡ true
  pub fields : 4 * fields_in (tfhd_word a b d) ≡ flag_when a 4 + (flag_when b 4 + flag_when d 4)
  pub description : bit_of (tfhd_word a b d) 0x2 ≡ flag_when a 1
  pub duration : bit_of (tfhd_word a b d) 0x8 ≡ flag_when b 1
  pub size : bit_of (tfhd_word a b d) 0x10 ≡ 0
  pub flags : bit_of (tfhd_word a b d) 0x20 ≡ flag_when d 1
  pub before-description : 4 * fields_in (tfhd_word a b d % 0x2) ≡ 0
  pub before-duration : 4 * fields_in (tfhd_word a b d % 0x8) ≡ flag_when a 4
  pub before-flags : 4 * fields_in (tfhd_word a b d % 0x20) ≡ flag_when a 4 + flag_when b 4

-- whichever fields stand
pub tfhd-bits : (a b d : Bool) → TfhdBits a b d
unfolding tfhd_flags_ok fields_in
tfhd-bits true true true = search
tfhd-bits true true false = search
tfhd-bits true false true = search
tfhd-bits true false false = search
tfhd-bits false true true = search
tfhd-bits false true false = search
tfhd-bits false false true = search
tfhd-bits false false false = search

-- ---- trun: one test over every choice of flags, computed

-- a test that both truth values pass
abbrev pub either : (Bool → Bool) → Bool
either p = p true and p false

-- each of them does
pub either-at : (p : Bool → Bool) → either p ≡ true → (b : Bool) → p b ≡ true
either-at p e true = left _ _ e
either-at p e false = right _ _ e

unfoldable trun_test : Bool → Bool → Bool → Bool → Bool → Bool
trun_test u a n f o =
    let word = trun_word u a n f o in
    eqb (bit_of word 0x4) (flag_when u 1)
    and eqb (bit_of word 0x100) (flag_when a 1)
    and eqb (bit_of word 0x200) (flag_when n 1)
    and eqb (bit_of word 0x400) (flag_when f 1)
    and eqb (bit_of word 0x800) (flag_when o 1)
    and eqb (4 * columns_in word) (flag_when a 4 + (flag_when n 4 + (flag_when f 4 + flag_when o 4)))
    and eqb (4 * columns_in (word % 0x100)) 0
    and eqb (4 * columns_in (word % 0x200)) (flag_when a 4)
    and eqb (4 * columns_in (word % 0x400)) (flag_when a 4 + flag_when n 4)
    and eqb (4 * columns_in (word % 0x800)) (flag_when a 4 + (flag_when n 4 + flag_when f 4))
    and eqb (word / 0x100_0000) 1
    and eqb (word % 0x100_0000) (word - 1 * 2 ^ 24)
    and ltb word (2 ^ 32)
    and (run_flags_ok word || (u && f))

trun-passes : either (λ u. either (λ a. either (λ n. either (λ f. either (λ o. trun_test u a n f o))))) ≡ true
unfolding trun_test columns_in run_flags_ok ◌and◌
trun-passes = refl

pub record TrunBits (u a n f o : Bool) : Type 0 where
  pub first : bit_of (trun_word u a n f o) 0x4 ≡ flag_when u 1
  pub durations : bit_of (trun_word u a n f o) 0x100 ≡ flag_when a 1
  pub sizes : bit_of (trun_word u a n f o) 0x200 ≡ flag_when n 1
  pub flags : bit_of (trun_word u a n f o) 0x400 ≡ flag_when f 1
  pub offsets : bit_of (trun_word u a n f o) 0x800 ≡ flag_when o 1
  pub columns : 4 * columns_in (trun_word u a n f o) ≡ flag_when a 4 + (flag_when n 4 + (flag_when f 4 + flag_when o 4))
  pub before-durations : 4 * columns_in (trun_word u a n f o % 0x100) ≡ 0
  pub before-sizes : 4 * columns_in (trun_word u a n f o % 0x200) ≡ flag_when a 4
  pub before-flags : 4 * columns_in (trun_word u a n f o % 0x400) ≡ flag_when a 4 + flag_when n 4
  pub before-offsets : 4 * columns_in (trun_word u a n f o % 0x800) ≡ flag_when a 4 + (flag_when n 4 + flag_when f 4)
  pub version : trun_word u a n f o / 0x100_0000 ≡ 1
  pub low : trun_word u a n f o % 0x100_0000 ≡ trun_word u a n f o - 1 * 2 ^ 24
  pub small : trun_word u a n f o < 2 ^ 32
  pub right : (run_flags_ok (trun_word u a n f o) || (u && f)) ≡ true

-- whichever columns stand
pub trun-bits : (u a n f o : Bool) → TrunBits u a n f o
unfolding trun_test
trun-bits u a n f o =
    let e₀ : trun_test u a n f o ≡ true =
    either-at (λ o. trun_test u a n f o)
    (either-at (λ f. either (λ o. trun_test u a n f o))
    (either-at (λ n. either (λ f. either (λ o. trun_test u a n f o)))
    (either-at (λ a. either (λ n. either (λ f. either (λ o. trun_test u a n f o))))
    (either-at (λ u. either (λ a. either (λ n. either (λ f. either (λ o. trun_test u a n f o))))) trun-passes u) a) n) f) o in
    search (left, right, eqb-true, ltb-true) depth 18 fits 4000

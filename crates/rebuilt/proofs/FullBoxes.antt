-- A full box that was written: its version and flags, and its body. Assumes nothing.
use Prim.Native.Nat.{ℕ, ◌+◌, ◌*◌, ◌^◌, ◌<◌}
use native.Mathlib.Omega.{arith}
use mathlib.Core.Path.{◌≡◌}
use mathlib.Core.Bool.{Bool, true}
use mathlib.Core.List.{List, [], ◌++◌, append-nil}
use lib.ListN.{length}
use Rattle.laws.specs.Bytes.{be}
use Rattle.boxes.specs.Box.{full_box, when, flag_when}
use Rattle.cmaf_read_tree.specs.Numbers.{u32}
use Rattle.cmaf_write_moof.proofs.MoofLaws.{when-length}
use Rattle.cmaf_read_shape.specs.Left.{Left}
use Rattle.cmaf_read_shape.proofs.LeftLaws.{left-past, left-number, left-inside}

module _ {c : List ℕ} {at end : ℕ} (type version flags : ℕ) (body ys : List ℕ) (h : Left c at end (full_box type version flags body ++ ys)) where
  inside : Left c (at + 8) (at + 8 + length (be 4 (version * 2 ^ 24 + flags) ++ body)) (be 4 (version * 2 ^ 24 + flags) ++ body)
  unfolding full_box
  inside = left-inside type (be 4 (version * 2 ^ 24 + flags) ++ body) ys h

  -- version and flags, as one word
  pub full-word : version * 2 ^ 24 + flags < 2 ^ 32 → u32 c (at + 8) ≡ version * 2 ^ 24 + flags
  full-word lt = left-number 4 (version * 2 ^ 24 + flags) body lt inside

  -- and what stands behind them
  pub full_body : Left c (at + 12) (at + 12 + length body) body
  unfolding be
  full_body =
      let e : at + 8 + 4 ≡ at + 12 = omega arith in
      let f : at + 8 + length (be 4 (version * 2 ^ 24 + flags) ++ body) ≡ at + 12 + length body = omega arith in
      rw f at (rw e at (left-past (be 4 (version * 2 ^ 24 + flags)) body inside))

-- a number that stands under a condition, and what is left behind it
module _ {c : List ℕ} {at end : ℕ} (a : Bool) (v : ℕ) (ys : List ℕ) (h : Left c at end (when a (be 4 v) ++ ys)) where
  pub when-past : Left c (at + flag_when a 4) end ys
  when-past = rw (when-length a v) at (left-past (when a (be 4 v)) ys h)

  pub when-number : a ≡ true → v < 2 ^ 32 → u32 c at ≡ v
  when-number e lt = left-number 4 v ys lt (rw e at h)

-- the last one
pub when-last : {c : List ℕ} {at end : ℕ} (a : Bool) (v : ℕ) → Left c at end (when a (be 4 v)) → a ≡ true → v < 2 ^ 32 → u32 c at ≡ v
when-last {c} {at} {end} a v h e lt = when-number {c = c} {at = at} {end = end} a v [] (rw append-nil h) e lt

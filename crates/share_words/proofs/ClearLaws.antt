-- What clearing a share to its end leaves. Assumes nothing.
use Prim.Native.Nat.{ℕ, ◌-◌, ◌≤◌}
use native.Mathlib.Omega.{arith}
use mathlib.Core.Path.{◌≡◌, ◌∙◌, ap}
use mathlib.Core.List.{List, [], ◌++◌, append-nil}
use borrow.Rule.Slice.PartMut.{put_mid}
use lib.ListN.{length, take, drop, replicate, drop_of_length-le, length-drop}
use lib.Seq.{length-take-le}
use Rattle.share_words.specs.Share.{held_at, track_at, share_len, dropped, fresh}

-- the part from a place on was lent, up to the share's end, and is 0 now
module _ (from : ℕ) (s rest : List ℕ) (l : length s ≡ share_len) (few : from ≤ share_len) (e : rest ≡ replicate (length (take (share_len - from) (drop from s))) 0) where
  zeroed : put_mid from (share_len - from) s rest ≡ take from s ++ replicate (share_len - from) 0
  zeroed =
      let long : length (take (share_len - from) (drop from s)) ≡ share_len - from =
      length-take-le (share_len - from) (drop from s) (omega (arith, length-drop from s, l)) in
      let none : drop (share_len - from) (drop from s) ≡ [] = drop_of_length-le (drop from s) (omega (arith, length-drop from s, l)) in
      rw (e, long)
      (ap (λ (r : List ℕ). take from s ++ (replicate (share_len - from) 0 ++ r)) none ∙ ap (λ (r : List ℕ). take from s ++ r) (append-nil _))

-- from the mark of the reference on
pub reference-cleared : (s rest : List ℕ) → length s ≡ share_len → rest ≡ replicate (length (take (share_len - held_at) (drop held_at s))) 0
    → put_mid held_at (share_len - held_at) s rest ≡ dropped s
unfolding dropped
reference-cleared s rest l e = zeroed held_at s rest l (omega arith) e

-- all of it
pub all-cleared : (s rest : List ℕ) → length s ≡ share_len → rest ≡ replicate (length (take (share_len - track_at) (drop track_at s))) 0
    → put_mid track_at (share_len - track_at) s rest ≡ fresh
all-cleared s rest l e = zeroed track_at s rest l (omega arith) e

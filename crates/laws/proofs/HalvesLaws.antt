-- One list that is lent in two halves, its first n words and the m behind them: what a half is, and what both are once a half is back. Assumes nothing.
use Prim.Native.Nat.{ℕ, ◌+◌, ◌-◌, ◌≤◌}
use native.Mathlib.Nat.{add-sub_cancel_left}
use native.Mathlib.Omega.{arith}
use mathlib.Core.Path.{◌≡◌, ◌∙◌, ap}
use mathlib.Core.List.{List, ◌++◌, append-nil}
use borrow.Rule.Slice.PartMut.{put_mid, take_put}
use lib.ListN.{length, take, drop, replicate, set, length-replicate, length-drop, drop_of_length-le}
use lib.Seq.{length-take-le, take_at, drop_at, take-set-le, drop-set-add}
use Rattle.laws.proofs.ListLaws.{drop-replicate, take-replicate}

-- a list of zeros
module _ (n m : ℕ) {w : List ℕ} (e : w ≡ replicate (n + m) 0) where
  pub zeros-long : length w ≡ n + m
  zeros-long = ap length e ∙ length-replicate (n + m) 0

  pub zeros-front : take n w ≡ replicate n 0
  zeros-front = ap (take n) e ∙ take-replicate n (n + m) 0 (omega arith)

  pub zeros-rest : drop n w ≡ replicate m 0
  zeros-rest = ap (drop n) e ∙ drop-replicate n (n + m) 0 ∙ ap (λ (k : ℕ). replicate k 0) (add-sub_cancel_left n m)

module _ (n m : ℕ) (w : List ℕ) (e : length w ≡ n + m) where
  pub front-in : n ≤ length w
  front-in = omega (arith, e)

  pub front_long : length (take n w) ≡ n
  front_long = length-take-le n w front-in

  -- the front was lent, and is back as ys
  module _ (ys : List ℕ) (l : length ys ≡ length (take n w)) where
    pub front-new : take n (ys ++ drop n w) ≡ ys
    front-new = take_at ys (drop n w) n (l ∙ front_long)

    pub rest-stays : drop n (ys ++ drop n w) ≡ drop n w
    rest-stays = drop_at ys (drop n w) n (l ∙ front_long)

    -- and then a word of the rest is stored
    pub front_kept : (i a : ℕ) → take n (set (ys ++ drop n w) (n + i) a) ≡ ys
    front_kept i a = take-set-le n (ys ++ drop n w) (n + i) a (omega arith) ∙ front-new

    pub rest-stored : (i a : ℕ) → drop n (set (ys ++ drop n w) (n + i) a) ≡ set (drop n w) i a
    rest-stored i a = drop-set-add n (ys ++ drop n w) i a ∙ ap (λ (r : List ℕ). set r i a) rest-stays

  -- the rest was lent, and is back as zs
  module _ (zs : List ℕ) where
    pub front-stays : take n (put_mid n (length w - n) w zs) ≡ take n w
    front-stays = take_put n (length w - n) w zs front-in

    pub rest-new : drop n (put_mid n (length w - n) w zs) ≡ zs
    rest-new =
        let k : length (drop n w) ≤ length w - n = omega (arith, length-drop n w) in
        drop_at (take n w) _ n front_long ∙ ap (λ (r : List ℕ). zs ++ r) (drop_of_length-le (drop n w) k) ∙ append-nil zs

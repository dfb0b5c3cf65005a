-- A block that the reader splits is whole tuples one behind the other, and in one way only. Assumes nothing.
use Prim.Native.Nat.{ℕ, zero, suc, ◌+◌, ◌-◌, ◌≤◌, ◌<◌}
use native.Mathlib.Omega.{arith}
use mathlib.Core.Path.{◌≡◌, refl, sym, ◌∙◌, ap}
use mathlib.Core.Bool.{true, false≢true}
use mathlib.Core.List.{List, [], ◌∷◌, ◌++◌, flatten}
use lib.ListN.{length, take, drop, length-append, length-drop, take-append-drop}
use lib.Seq.{length-take-le}
use Rattle.laws.proofs.ListLaws.{fronts-same}
use Rattle.wire.specs.declared.form.Row.{Row}
use Rattle.locmaf_read_block.specs.declared.tuples.Tuple.{Tuple}
use Rattle.std.specs.Prelude.{Option, Some, None}
use Rattle.locmaf_read_block.specs.Tuples.{tuple_f, tuple_front, tuples_run, tuples_f}
use Rattle.locmaf_read_block.specs.Whole.{WholeTuple}
use Rattle.laws.specs.Each.{AllOf}
use Rattle.locmaf_read_block.proofs.FrontLaws.{taken-cut}
use Rattle.locmaf_read_block.proofs.NumberLaws.{wholly-inv}
use Rattle.locmaf_read_block.proofs.TupleLaws.{spans}
use Rattle.locmaf_read_block.proofs.TupleRuns.{tuples-off}
use Rattle.locmaf_read_block.proofs.OwnBytes.{tuple-own}
use Rattle.locmaf_read_block.proofs.WholeTuples.{whole-own, own-whole}
use Rattle.locmaf_read_block.specs.Front.{on_read}

module _ (F : List Row) where
  -- ---- a block that splits

  abbrev pub WholeTuples : List ℕ → Type 0
  WholeTuples s = (ts : List (List ℕ)) × (flatten ts ≡ s) × AllOf (WholeTuple F) ts

  -- the bytes of a tuple that was read are one whole tuple
  whole-front : (at : ℕ) (s : List ℕ) (t : Tuple) (next : ℕ) → tuple_f F at s ≡ Some (t, next) → WholeTuple F (take (next - at) s)
  whole-front at s t next e =
      let z = spans F at s t next e in
      let m : ℕ = next - at in
      let l : length (take m s) ≡ m = length-take-le m s (omega (arith, z.within)) in
      let n : at + length (take m s) ≡ next = omega (arith, z.two) in
      own-whole F (tuple-own F at (take m s) (drop m s) t (rw (take-append-drop m s, n) e))

  -- where the first is cut, the bytes are no whole tuples
  cut-front : (at : ℕ) (b : ℕ) (s : List ℕ) → tuple_f F at (b ∷ s) ≡ None → (tuples_run F at (b ∷ s)).whole ≡ true → ⊥
  unfolding tuples_run tuple_front
  cut-front at b s e w = false≢true (rw (taken-cut (tuple_front F) at (b ∷ s) (omega arith) (rw e)) at w)

  split_step : (at : ℕ) (s : List ℕ) → (tuples_run F at s).whole ≡ true
      → ((p : ℕ) (r : List ℕ) → length r < length s → (tuples_run F p r).whole ≡ true → WholeTuples r) → WholeTuples s
  unfolding flatten
  split_step at [] w ih = ([], refl, tt)
  split_step at (b ∷ s) w ih = go (tuple_f F at (b ∷ s)) refl
    where
      go : (g : Option (Tuple × ℕ)) → tuple_f F at (b ∷ s) ≡ g → WholeTuples (b ∷ s)
      go (Some (t, next)) q =
          let z = spans F at (b ∷ s) t next q in
          let m : ℕ = next - at in
          let r = ih next (drop m (b ∷ s)) (omega (arith, z.two, length-drop m (b ∷ s))) (rw (tuples-off F at (b ∷ s) t next q) at w) in
          (take m (b ∷ s) ∷ r.0, ap (λ (l : List ℕ). take m (b ∷ s) ++ l) r.1 ∙ take-append-drop m (b ∷ s), (whole-front at (b ∷ s) t next q, r.2))
      go None q = absurd (cut-front at b s q w)

  split-within : (n at : ℕ) (s : List ℕ) → length s ≤ n → (tuples_run F at s).whole ≡ true → WholeTuples s
  split-within zero at s h w = split_step at s w (λ p r l. absurd (omega arith))
  split-within (suc n) at s h w = split_step at s w (λ p r l. split-within n p r (omega arith))

  pub split-whole : (at : ℕ) (s : List ℕ) (us : List Tuple) → tuples_f F at s ≡ Some us → WholeTuples s
  unfolding tuples_f
  split-whole at s us e = split-within (length s) at s (omega arith) (wholly-inv (tuples_run F at s) us e).0

  -- ---- in one way

  -- two tuples at the front of one list
  fronts-long : (bs us x y : List ℕ) → WholeTuple F bs → WholeTuple F us → bs ++ x ≡ us ++ y → length bs ≡ length us
  fronts-long bs us x y h k e =
      let n : 0 + length bs ≡ 0 + length us =
      ap (λ (t : Option (Tuple × ℕ)). on_read t (λ u next. next) 0) (sym ((whole-own F bs h).again 0 x) ∙ ap (tuple_f F 0) e ∙ (whole-own F us k).again 0 y) in
      omega arith

  -- a tuple has bytes
  not_none : (us y : List ℕ) → WholeTuple F us → [] ≡ us ++ y → ⊥
  not_none us y k e = omega (arith, (spans F 0 us k.0 (length us) k.1).two, ap length e, length-append us y)

  pub split-once : (ts us : List (List ℕ)) → AllOf (WholeTuple F) ts → AllOf (WholeTuple F) us → flatten ts ≡ flatten us → ts ≡ us
  unfolding flatten
  split-once [] [] h k e = refl
  split-once [] (u ∷ us) h k e = absurd (not_none u (flatten us) k.0 e)
  split-once (b ∷ ts) [] h k e = absurd (not_none b (flatten ts) h.0 (sym e))
  split-once (b ∷ ts) (u ∷ us) h k e =
      let both = fronts-same b u (flatten ts) (flatten us) e (fronts-long b u (flatten ts) (flatten us) h.0 k.0 e) in
      let rest = split-once ts us h.1 k.1 both.1 in
      λ j. both.0 j ∷ rest j

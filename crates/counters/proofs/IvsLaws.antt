-- The IVs of a lawful set: their room, and how many words each has. Assumes nothing.
use Prim.Native.Nat.{ℕ, ◌+◌, ◌*◌, ◌/◌, ◌≤◌}
use native.Mathlib.Omega.{arith}
use mathlib.Core.Path.{◌≡◌}
use mathlib.Core.Logic.{◌⊎◌, inl, inr}
use mathlib.Core.Bool.{true, ◌&&◌, ◌||◌}
use mathlib.Core.List.{List}
use borrow.Author.Tests.{eqb-true, eqb-false, not-true}
use lib.Dec.{eqb}
use lib.ListN.{get_or}
use lib.Seq.{slice}
use Rattle.constants.specs.Maxima.{samples_most}
use Rattle.laws.specs.Tests.{all_le, all_zero}
use Rattle.laws.proofs.TestLaws.{and_left, and_right, either}
use Rattle.track.specs.declared.Track.{Track}
use Rattle.track.specs.Track.{none, cenc, cbcs, iv_ok}
use Rattle.field_table.specs.Lines.{lines, line_for, spare, ivs_at, subsamples_at, ivs_line, wanted, u64}
use Rattle.field_set.specs.Lawful.{has, in_use, count_in, measure_of, lawful}
use Rattle.field_set.proofs.LawfulLaws.{Region, lawful-region}
use Rattle.field_set.proofs.RegionLaws.{used}
use Rattle.counters.specs.Follow.{iv_words}

-- the room of the IVs, where they stand
pub record Ivs (t : Track) (w : List ℕ) : Type 0 where
  pub used : count_in w * iv_words t ≡ in_use (get_or w ivs_at 0) (count_in w * iv_words t)
  pub room : count_in w * iv_words t ≤ 2 * samples_most
  pub values : all_le u64 (slice (ivs_at + 1) (ivs_at + 1 + count_in w * iv_words t) w) ≡ true
  pub rest : all_zero (slice (ivs_at + 1 + count_in w * iv_words t) subsamples_at w) ≡ true

-- of a lawful set
pub ivs-in : (t : Track) (w : List ℕ) → lawful t w ≡ true → has 9 w ≡ true → Ivs t w
unfolding has wanted lines line_for
ivs-in t w good on =
    let r : Region (measure_of t w) (get_or lines ivs_line spare) w = lawful-region t w ivs_line good (omega arith) in
    let u : count_in w * iv_words t ≡ in_use (get_or w ivs_at 0) (count_in w * iv_words t) =
    used (get_or w ivs_at 0) (count_in w * iv_words t) (eqb-false _ _ (not-true (eqb (get_or w ivs_at 0) 0) on)) in
    record { used = u; room = rw (← u) at r.room; values = rw (← u) at r.values; rest = rw (← u) at r.rest }

-- an IV of a track that has them is one word or two
pub iv-words : (p i : ℕ) → iv_ok p i ≡ true → eqb p cenc ≡ true → (i / 8 ≡ 1) ⊎ (i / 8 ≡ 2)
iv-words p i e c =
    let P : Type 0 = (i / 8 ≡ 1) ⊎ (i / 8 ≡ 2) in
    either P (eqb p cenc && (eqb i 8 || eqb i 16)) ((eqb p none || eqb p cbcs) && eqb i 0)
    (λ q.
    either P (eqb i 8) (eqb i 16) (λ z. inl (omega (arith, eqb-true i 8 z))) (λ z. inr (omega (arith, eqb-true i 16 z)))
    (and_right (eqb p cenc) (eqb i 8 || eqb i 16) q))
    (λ q.
    let one : p ≡ cenc = eqb-true p cenc c in
    absurd
    (either ⊥ (eqb p none) (eqb p cbcs) (λ z. omega (arith, eqb-true p none z)) (λ z. omega (arith, eqb-true p cbcs z))
    (and_left (eqb p none || eqb p cbcs) (eqb i 0) q)))
    e

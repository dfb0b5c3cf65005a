-- How many bytes a varint and a run of them take at most, so that an array of that many has room. Assumes nothing.
use Rattle.std.proofs.Common.{◌≡◌, ℕ, suc, ◌*◌, ◌≤◌, max, Bool, true, false, cond, ltb, List, [], ◌∷◌, length, refl, zero-le, le_trans, arith, length-append}
use native.Mathlib.Nat.{le-max_left, le-max_right}
use Rattle.laws.proofs.BytesLaws.{length-be}
use Rattle.wire.specs.declared.form.Row.{Row}
use Rattle.wire.specs.declared.form.Form.TheVariants.{Rfc9000}
use Rattle.std.specs.Prelude.{Option, Some, None}
use Rattle.wire.specs.declared.zigzag.Coding.{Coding}
use Rattle.wire.specs.Form.{rows, cap, by_value, longest}
use Rattle.wire.specs.Varint.{encode_in, encode}
use Rattle.wire.specs.Zigzag.{code_of}
use Rattle.runs.specs.Run.{first, rest, run_of}
use Rattle.runs.proofs.RunLaws.{run-wide, run-number}
use Rattle.laws.specs.Options.{on_option}

-- no varint is longer than the table's longest
encode-longest : (F : List Row) (v : ℕ) → length (encode F v) ≤ longest F
unfolding encode by_value longest
encode-longest [] v = zero-le
encode-longest (q ∷ rs) v = go (ltb v (cap q)) (encode-longest rs v)
  where
    go : (t : Bool) → length (encode rs v) ≤ longest rs
        → length (on_option (cond t (Some q) (by_value rs v)) (λ r. encode_in r v) []) ≤ max (suc q.tail) (longest rs)
    go true ih = rw length-be (le-max_left (suc q.tail) (longest rs))
    go false ih = le_trans ih (le-max_right (suc q.tail) (longest rs))

pub varint-room : (v : ℕ) → length (encode (rows Rfc9000) v) ≤ 8
unfolding longest
varint-room v = encode-longest (rows Rfc9000) v

pub run_room : (coding : Coding) (base : ℕ) (old new : List ℕ) → length (run_of (rows Rfc9000) coding base old new) ≤ 8 * length new
unfolding run_of
run_room coding base old [] = zero-le
run_room coding base old (v ∷ vs) = go (code_of (rows Rfc9000) coding (first base old) v) refl (run_room coding base (rest old) vs)
  where
    go : (k : Option ℕ) → code_of (rows Rfc9000) coding (first base old) v ≡ k
        → length (run_of (rows Rfc9000) coding base (rest old) vs) ≤ 8 * length vs
        → length (run_of (rows Rfc9000) coding base old (v ∷ vs)) ≤ 8 * suc (length vs)
    go (Some z) e ih = rw (run-number (rows Rfc9000) coding base old vs v z e, length-append) (omega (arith, varint-room z))
    go None e ih = rw (run-wide (rows Rfc9000) coding base old vs v e) zero-le

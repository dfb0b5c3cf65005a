-- Words of eight bytes each. Assumes nothing.
use Prim.Native.Nat.{ℕ, ◌+◌, ◌*◌, ◌≤◌, ◌<◌}
use native.Mathlib.Numerals.{add-one}
use native.Mathlib.Omega.{arith}
use mathlib.Core.Path.{◌≡◌, refl, sym, ◌∙◌}
use mathlib.Core.Bool.{true}
use mathlib.Core.List.{List, [], ◌∷◌, ◌++◌, append_assoc, append-nil}
use borrow.Author.Tests.{leb-true}
use lib.ListN.{length, get_or, take, length-append}
use lib.Seq.{take-suc, take_at, drop_at}
use Rattle.laws.specs.Bytes.{be}
use Rattle.laws.specs.Tests.{all_le}
use Rattle.laws.specs.Writes.{Wrote}
use Rattle.laws.proofs.BytesLaws.{length-be, de-be-small}
use Rattle.laws.proofs.TestLaws.{left, right}
use Rattle.laws.proofs.WriteLaws.{then}
use Rattle.laws.proofs.PartLaws.{Parts, parts-room}
use Rattle.field_rules.specs.Fields.{packed}
use Rattle.locmaf_write_tuples.specs.Items.{wide_bytes}

-- how many bytes they are
pub wide-length : (ws : List ℕ) → length (wide_bytes ws) ≡ 8 * length ws
unfolding wide_bytes
wide-length [] = refl
wide-length (w ∷ ws) = length-append (be 8 w) (wide_bytes ws) ∙ omega (arith, length-be 8 w, wide-length ws)

-- the words are led back to
pub packed-back : (ws : List ℕ) → all_le 0xffff_ffff_ffff_ffff ws ≡ true → packed (length ws) (wide_bytes ws) ≡ ws
unfolding packed wide_bytes all_le
packed-back [] e = refl
packed-back (w ∷ ws) e =
    let n : w ≤ 0xffff_ffff_ffff_ffff = leb-true _ _ (left _ _ e) in
    let at = length-be 8 w in
    rw (take_at (be 8 w) (wide_bytes ws) 8 at, drop_at (be 8 w) (wide_bytes ws) 8 at, de-be-small 8 w (omega arith), packed-back ws (right _ _ e))

-- words after others, and one word
wide-append : (us ws : List ℕ) → wide_bytes (us ++ ws) ≡ wide_bytes us ++ wide_bytes ws
unfolding wide_bytes
wide-append [] ws = refl
wide-append (u ∷ us) ws = rw (wide-append us ws) (sym (append_assoc (be 8 u) (wide_bytes us) (wide_bytes ws)))

wide-one : (w : ℕ) → wide_bytes (w ∷ []) ≡ be 8 w
unfolding wide_bytes
wide-one w = append-nil (be 8 w)

-- there is room for them, where they are what is left to be written
pub wide_room : {l all m : List ℕ} {at p : ℕ} {rest : List (List ℕ)} (ws : List ℕ) → Parts l at all m p (wide_bytes ws ∷ rest)
    → p + 8 * length ws ≤ length m
wide_room ws h = omega (arith, parts-room h, wide-length ws)

-- one word more is written
pub then-wide : {l m n : List ℕ} {at p q : ℕ} (ws : List ℕ) (i : ℕ) → i < length ws
    → Wrote l at (wide_bytes (take i ws)) m p → Wrote m p (be 8 (get_or ws i 0)) n q → Wrote l at (wide_bytes (take (i + 1) ws)) n q
then-wide ws i h p q = rw (add-one, take-suc ws i 0, wide-append (take i ws) (get_or ws i 0 ∷ []), wide-one (get_or ws i 0)) (then p q)

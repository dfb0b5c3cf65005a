-- Laws of boxes and of runs of 32-bit words. Assumes nothing.
use Prim.Native.Nat.{ℕ, ◌+◌, ◌*◌, ◌/◌, ◌^◌, ◌<◌}
use native.Mathlib.Numerals.{add-one}
use native.Mathlib.Omega.{arith}
use mathlib.Core.Path.{◌≡◌, refl, sym, ◌∙◌, ap}
use mathlib.Core.List.{List, [], ◌∷◌, ◌++◌, append_assoc, append-nil}
use lib.ListN.{length, get_or, take, length-append}
use lib.Seq.{take-suc}
use Rattle.laws.specs.Bytes.{be}
use Rattle.laws.specs.Writes.{Wrote}
use Rattle.laws.proofs.BytesLaws.{length-be, be-split}
use Rattle.laws.proofs.WriteLaws.{then, wrote_as}
use Rattle.boxes.specs.Box.{words, box, full_box}

-- the high half of a number, and then the low one
pub halves : {l m n : List ℕ} {at p q : ℕ} (k v : ℕ) → Wrote l at (be k (v / 256 ^ k)) m p → Wrote m p (be k v) n q → Wrote l at (be (k + k) v) n q
halves k v p q = wrote_as (sym (be-split k k v)) (then p q)

-- ---- words

pub length-words : (ws : List ℕ) → length (words ws) ≡ 4 * length ws
unfolding words
length-words [] = refl
length-words (w ∷ ws) = simp (length-append, length-be) (omega (arith, length-words ws))

pub words_append : (a b : List ℕ) → words (a ++ b) ≡ words a ++ words b
unfolding words
words_append [] b = refl
words_append (w ∷ a) b = ap (λ (l : List ℕ). be 4 w ++ l) (words_append a b) ∙ sym (append_assoc (be 4 w) (words a) (words b))

-- one word, and the two of a number of 64 bits
pub words-one : (w : ℕ) → words (w ∷ []) ≡ be 4 w
unfolding words
words-one w = append-nil (be 4 w)

pub words_long : (v : ℕ) → words ((v / 2 ^ 32) ∷ v ∷ []) ≡ be 8 v
unfolding words
words_long v = ap (λ (l : List ℕ). be 4 (v / 2 ^ 32) ++ l) (append-nil (be 4 v)) ∙ sym (be-split 4 4 v)

-- one word more of a run, where a loop stands at i
pub then-word : {l m n : List ℕ} {at p q : ℕ} (ws : List ℕ) (i : ℕ) → i < length ws
    → Wrote l at (words (take i ws)) m p → Wrote m p (be 4 (get_or ws i 0)) n q → Wrote l at (words (take (i + 1) ws)) n q
then-word ws i h p q = rw (add-one, take-suc ws i 0, words_append (take i ws) (get_or ws i 0 ∷ []), words-one (get_or ws i 0)) (then p q)

-- ---- boxes

pub length-box : (type : ℕ) (body : List ℕ) → length (box type body) ≡ 8 + length body
unfolding box
length-box type body = simp (length-append, length-be) (omega arith)

pub length-full_box : (type version flags : ℕ) (body : List ℕ) → length (full_box type version flags body) ≡ 12 + length body
unfolding full_box
length-full_box type version flags body = length-box type (be 4 (version * 2 ^ 24 + flags) ++ body) ∙ simp (length-append, length-be) (omega arith)

-- a box whose body is a run of words
pub box-words : (type size : ℕ) {body : List ℕ} (ws : List ℕ) → body ≡ words ws → size ≡ 8 + 4 * length ws → words (size ∷ type ∷ ws) ≡ box type body
unfolding box words
box-words type size {body} ws e h =
    let s : size ≡ 8 + length body = omega (arith, ap length e, length-words ws) in
    ap (λ (n : ℕ). be 4 n ++ (be 4 type ++ words ws)) s ∙ ap (λ (b : List ℕ). be 4 (8 + length body) ++ (be 4 type ++ b)) (sym e)

-- a head with the right size, and then the body
pub box_of : {l m n : List ℕ} {at p q s : ℕ} (type : ℕ) {body : List ℕ}
    → Wrote l at (be 4 s ++ be 4 type) m p → Wrote m p body n q → s ≡ 8 + length body → Wrote l at (box type body) n q
unfolding box
box_of {s = s} type {body = body} h b e =
    wrote_as (append_assoc (be 4 s) (be 4 type) body ∙ ap (λ (k : ℕ). be 4 k ++ (be 4 type ++ body)) e) (then h b)

-- a head with the right size, some words and the rest are the box whose body these make
pub box-head : (type size : ℕ) (ws rest : List ℕ) {body : List ℕ} → words ws ++ rest ≡ body → size ≡ 8 + length body
    → words (size ∷ type ∷ ws) ++ rest ≡ box type body
unfolding box words be
box-head type size ws rest {body} e h = ap (λ (b : List ℕ). be 4 size ++ (be 4 type ++ b)) e ∙ ap (λ (n : ℕ). be 4 n ++ (be 4 type ++ body)) h

pub full_box-head : (type version flags size word : ℕ) (ws rest : List ℕ) {body : List ℕ} → words ws ++ rest ≡ body
    → word ≡ version * 2 ^ 24 + flags → size ≡ 12 + length body → words (size ∷ type ∷ word ∷ ws) ++ rest ≡ full_box type version flags body
unfolding full_box words be
full_box-head type version flags size word ws rest {body} e f h =
    let first : be 4 word ++ (words ws ++ rest) ≡ be 4 (version * 2 ^ 24 + flags) ++ body =
    ap (λ (b : List ℕ). be 4 word ++ b) e ∙ ap (λ (n : ℕ). be 4 n ++ body) f in
    box-head type size (word ∷ ws) rest first (omega arith)

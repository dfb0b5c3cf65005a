-- Items that are to stand in a block: some and then others, their bytes and their weight, and how long one item is. Assumes nothing.
use Prim.Native.Nat.{ℕ, ◌+◌, ◌≤◌, ◌<◌, zero-le}
use native.Mathlib.Nat.{le_trans}
use native.Mathlib.Omega.{arith}
use mathlib.Core.Path.{◌≡◌, refl, sym, ◌∙◌, ap}
use mathlib.Core.Bool.{true, false, false≢true, ◌&&◌}
use mathlib.Core.List.{List, [], ◌∷◌, ◌++◌, append_assoc, append-nil}
use lib.ListN.{length, length-append}
use Rattle.wire.specs.declared.form.Row.{Row}
use Rattle.wire.specs.declared.zigzag.Coding.{Coding}
use Rattle.std.specs.Prelude.{Option, Some, None}
use Rattle.std.specs.Option.{unwrap_or}
use Rattle.wire.specs.Form.{limit}
use Rattle.wire.specs.Varint.{encode, size_of}
use Rattle.wire.specs.Zigzag.{code_of}
use Rattle.wire.proofs.VarintLaws.{length-encode}
use Rattle.wire.proofs.ZigzagLaws.{coded-inv}
use Rattle.laws.specs.Options.{is_some}
use Rattle.block_items.specs.Items.{Item, num, run, enc_item, enc_block}
use Rattle.locmaf_write_tuples.specs.Items.{Items, nothing, ◌before◌, bytes_of, weight, sum_of, Made, WeighedAs}

-- ---- some items and then others

-- they are some where both are
pub before-some : (a b : Items) → is_some (a before b) ≡ (is_some a && is_some b)
unfolding ◌before◌
before-some None b = refl
before-some (Some xs) None = refl
before-some (Some xs) (Some ys) = refl

-- they can be grouped in any way
pub before-assoc : (a b c : Items) → (a before b) before c ≡ a before (b before c)
unfolding ◌before◌
before-assoc None b c = refl
before-assoc (Some xs) None c = refl
before-assoc (Some xs) (Some ys) None = refl
before-assoc (Some xs) (Some ys) (Some zs) = ap Some (append_assoc xs ys zs)

-- nothing before or after them changes nothing
pub nothing-before : (a : Items) → nothing before a ≡ a
unfolding ◌before◌
nothing-before None = refl
nothing-before (Some xs) = refl

pub before-nothing : (a : Items) → a before nothing ≡ a
unfolding ◌before◌
before-nothing None = refl
before-nothing (Some xs) = ap Some (append-nil xs)

-- ---- bytes

module _ (F : List Row) where
  -- the bytes of items after others
  pub block-append : (xs ys : List Item) → enc_block F (xs ++ ys) ≡ enc_block F xs ++ enc_block F ys
  unfolding enc_block
  block-append [] ys = refl
  block-append (x ∷ xs) ys = rw (block-append xs ys) (sym (append_assoc (enc_item F x) (enc_block F xs) (enc_block F ys)))

  -- of one item
  pub block_one : (i : Item) → enc_block F (i ∷ []) ≡ enc_item F i
  unfolding enc_block
  block_one i = append-nil (enc_item F i)

  -- of none
  pub bytes-nothing : bytes_of F nothing ≡ []
  unfolding enc_block
  bytes-nothing = refl

  -- so items that have some aren't nothing
  pub not-nothing : (is : Items) (bytes : ℕ) → bytes ≡ length (bytes_of F is) → (bytes ≡ 0 → ⊥) → nothing ≡ is → ⊥
  not-nothing is bytes k n e = n (k ∙ ap (λ (a : Items). length (bytes_of F a)) (sym e) ∙ ap length bytes-nothing)

  -- of items and then others
  pub bytes-before : (a b : Items) → is_some a ≡ true → is_some b ≡ true → bytes_of F (a before b) ≡ bytes_of F a ++ bytes_of F b
  unfolding ◌before◌
  bytes-before None b p q = absurd (false≢true p)
  bytes-before (Some xs) None p q = absurd (false≢true q)
  bytes-before (Some xs) (Some ys) p q = block-append xs ys

  -- how long an item is whose numbers the form holds
  pub number-length : (id v : ℕ) → id < limit F → v < limit F → length (enc_item F (num id v)) ≡ size_of F id + size_of F v
  unfolding enc_item
  number-length id v h k = rw (length-append, length-encode F id h, length-encode F v k)

  pub run_length : (id : ℕ) (bs : List ℕ) → id < limit F → length bs < limit F
      → length (enc_item F (run id bs)) ≡ size_of F id + (size_of F (length bs) + length bs)
  unfolding enc_item
  run_length id bs h k = simp length-append (rw (length-encode F id h, length-encode F (length bs) k))

  -- a tuple with a body as it is written: a head and then the body
  pub run-parts : (id : ℕ) (bs : List ℕ) → (encode F id ++ encode F (length bs)) ++ bs ≡ bytes_of F (Some (run id bs ∷ []))
  unfolding enc_item
  run-parts id bs = append_assoc (encode F id) (encode F (length bs)) bs ∙ sym (block_one (run id bs))

  -- what was made for the wire is a number that the form holds
  pub code-made : (coding : Coding) (old new : ℕ) → Made F (code_of F coding old new)
  code-made coding old new = go (code_of F coding old new) refl
    where
      go : (c : Option ℕ) → code_of F coding old new ≡ c → Made F c
      go (Some z) e = (coded-inv F coding old new e).1
      go None e = tt

  -- so is what code found to be it
  pub made-is : (coding : Coding) (old new : ℕ) (z : Option ℕ) → z ≡ code_of F coding old new → Made F z
  made-is coding old new z e = rw e (code-made coding old new)

-- ---- weights

-- the weight of items and then others
pub weight-before : (F : List Row) (a b : Items) → weight F (a before b) ≡ sum_of (weight F a) (weight F b)
unfolding ◌before◌ weight sum_of
weight-before F None b = refl
weight-before F (Some xs) None = refl
weight-before F (Some xs) (Some ys) = ap Some (ap length (block-append F xs ys) ∙ length-append (enc_block F xs) (enc_block F ys))

-- two weights in the other order
pub sum_comm : (v w : Option ℕ) → sum_of v w ≡ sum_of w v
unfolding sum_of
sum_comm None None = refl
sum_comm None (Some n) = refl
sum_comm (Some m) None = refl
sum_comm (Some m) (Some n) = ap Some (omega arith)

-- a weight and none
pub sum-none : (w : Option ℕ) → sum_of w None ≡ None
unfolding sum_of
sum-none None = refl
sum-none (Some n) = refl

pub sum-small : (v w : Option ℕ) → unwrap_or (sum_of v w) 0 ≤ unwrap_or v 0 + unwrap_or w 0
unfolding sum_of
sum-small None w = zero-le
sum-small (Some m) None = zero-le
sum-small (Some m) (Some n) = omega arith

-- items have a weight where all fit, which is their bytes
pub weight-fits : (F : List Row) (is : Items) → is_some (weight F is) ≡ is_some is
unfolding weight
weight-fits F None = refl
weight-fits F (Some xs) = refl

weight-bytes : (F : List Row) (is : Items) → is_some is ≡ true → weight F is ≡ Some (length (bytes_of F is))
unfolding weight
weight-bytes F None e = absurd (false≢true e)
weight-bytes F (Some xs) e = refl

weight-none : (F : List Row) (is : Items) → is_some is ≡ false → weight F is ≡ None
unfolding weight
weight-none F None e = refl
weight-none F (Some xs) e = absurd (false≢true (sym e))

module _ {F : List Row} {is : Items} {m : ℕ} {w : Option ℕ} (h : WeighedAs F is m w) where
  pub weighed-fits : is_some w ≡ is_some is
  weighed-fits = rw h.found (weight-fits F is)

  pub weighed-bytes : is_some is ≡ true → unwrap_or w 0 ≡ length (bytes_of F is)
  weighed-bytes s = rw (h.found, weight-bytes F is s)

-- a weight that is at most so much is at most more
pub weighed-within : {F : List Row} {a : Items} {m n : ℕ} {w : Option ℕ} → m ≤ n → WeighedAs F a m w → WeighedAs F a n w
weighed-within le h = record { found = h.found; small = le_trans h.small le }

-- what was weighed is known under another name
pub weighed-as : {F : List Row} {a b : Items} {m : ℕ} {w : Option ℕ} → a ≡ b → WeighedAs F a m w → WeighedAs F b m w
weighed-as e h = rw e at h

-- items that were weighed, and others
pub weighed-both : {F : List Row} {a b : Items} {m n : ℕ} {v w r : Option ℕ} → WeighedAs F a m v → WeighedAs F b n w
    → r ≡ sum_of v w → WeighedAs F (a before b) (m + n) r
weighed-both {F} {a} {b} {m} {n} {v} {w} {r} h k e =
    record {
      found = e ∙ rw (h.found, k.found) (sym (weight-before F a b));
      small = rw e (omega (arith, sum-small v w, h.small, k.small));
    }

-- no items weigh nothing
pub weighed-nothing : {F : List Row} {m : ℕ} → WeighedAs F nothing m (Some 0)
unfolding enc_block weight
weighed-nothing = record { found = refl; small = zero-le }

-- items that fit, by their bytes
pub weighed-fit : {F : List Row} {is : Items} {m n : ℕ} → is_some is ≡ true → n ≡ length (bytes_of F is) → n ≤ m → WeighedAs F is m (Some n)
weighed-fit {F} {is} s e le = record { found = ap Some e ∙ sym (weight-bytes F is s); small = le }

-- items that don't
pub weighed-unfit : {F : List Row} {is : Items} {m : ℕ} → is_some is ≡ false → WeighedAs F is m None
weighed-unfit {F} {is} s = record { found = sym (weight-none F is s); small = zero-le }

-- items of which a number is too wide
pub weighed-wide : {F : List Row} {m : ℕ} → WeighedAs F None m None
unfolding weight
weighed-wide = record { found = refl; small = zero-le }

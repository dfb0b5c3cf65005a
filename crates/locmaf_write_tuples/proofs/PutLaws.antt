-- Items that are left to be written, and those written one after another. Assumes nothing.
use Prim.Native.Nat.{ℕ, ◌+◌, ◌≤◌}
use native.Mathlib.Omega.{arith}
use mathlib.Core.Path.{◌≡◌, refl, sym, ◌∙◌, ap}
use mathlib.Core.Bool.{true, ◌&&◌}
use mathlib.Core.List.{List, [], ◌∷◌, ◌++◌}
use lib.ListN.{length, length-append}
use Rattle.laws.specs.Writes.{Wrote}
use Rattle.laws.proofs.TestLaws.{and_left, and_right}
use Rattle.laws.proofs.WriteLaws.{then, more, wrote_as, wrote_none, wrote-length}
use Rattle.wire.specs.declared.form.Row.{Row}
use Rattle.laws.specs.Options.{is_some}
use Rattle.block_items.specs.Items.{enc_block}
use Rattle.locmaf_write_tuples.specs.Items.{Items, nothing, ◌before◌, bytes_of}
use Rattle.locmaf_write_tuples.proofs.ItemLaws.{before-some, bytes-before}

-- items that fit and have room, under another name
pub put-needs : (F : List Row) {a b : Items} → a ≡ b → (at n : ℕ) → is_some b ≡ true → at + length (bytes_of F b) ≤ n
    → (is_some a ≡ true) × (at + length (bytes_of F a) ≤ n)
put-needs F e at n s h = (rw e s, rw e h)

-- and of which it is known how many bytes they are
pub put-known : (F : List Row) {a b : Items} → a ≡ b → (bytes at n : ℕ) → is_some b ≡ true → bytes ≡ length (bytes_of F b) → at + length (bytes_of F b) ≤ n
    → (is_some a ≡ true) × ((bytes ≡ length (bytes_of F a)) × (at + length (bytes_of F a) ≤ n))
put-known F e bytes at n s k h = (rw e s, (rw e k, rw e h))

pub put_as : (F : List Row) {a b : Items} {l m : List ℕ} {at p : ℕ} → a ≡ b → Wrote l at (bytes_of F a) m p → Wrote l at (bytes_of F b) m p
put_as F e w = wrote_as (ap (bytes_of F) e) w

-- nothing is written
pub put-nothing : (F : List Row) (l : List ℕ) (at : ℕ) → at ≤ length l → Wrote l at (bytes_of F nothing) l at
unfolding enc_block
put-nothing F l at h = wrote_none l at h

pub put-none : (F : List Row) {is : Items} (l : List ℕ) (at : ℕ) → is ≡ nothing → at + length (bytes_of F is) ≤ length l → Wrote l at (bytes_of F is) l at
put-none F l at e h = put_as F (sym e) (put-nothing F l at (omega arith))

-- so it is where bytes are known to be none
pub put-empty : {bs : List ℕ} (l : List ℕ) (at n : ℕ) → n ≡ 0 → n ≡ length bs → at + length bs ≤ length l → Wrote l at bs l at
put-empty {bs} l at n z k h = go bs (sym k ∙ z)
  where
    go : (cs : List ℕ) → length cs ≡ 0 → Wrote l at cs l at
    go [] e = wrote_none l at (omega arith)
    go (c ∷ cs) e = absurd (omega arith)

-- of the whole, to be written in l from the place at on, these items are left, to be written in m from the place p on
pub record Left (F : List Row) (whole : Items) (l : List ℕ) (at : ℕ) (is : Items) (m : List ℕ) (p : ℕ) : Type 0 where
  pub long : length m ≡ length l
  pub fits : is_some is ≡ true
  pub room : p + length (bytes_of F is) ≤ length m
  pub rest : (n : List ℕ) (q : ℕ) → Wrote m p (bytes_of F is) n q → Wrote l at (bytes_of F whole) n q

module _ (F : List Row) (whole : Items) (l : List ℕ) (at : ℕ) where
  -- all of it
  pub left-start : is_some whole ≡ true → at + length (bytes_of F whole) ≤ length l → Left F whole l at whole l at
  left-start s h = record { long = refl; fits = s; room = h; rest = λ n q w. w }

  -- nothing
  pub left-none : {m : List ℕ} {p : ℕ} → Left F whole l at nothing m p → Wrote l at (bytes_of F whole) m p
  left-none {m} {p} h = h.rest m p (put-nothing F m p (omega (arith, h.room)))

  -- the same under another name
  pub left_as : {a b : Items} {m : List ℕ} {p : ℕ} → a ≡ b → Left F whole l at a m p → Left F whole l at b m p
  left_as e h = rw e at h

  -- two parts
  module _ (a b : Items) (m : List ℕ) (p : ℕ) (h : Left F whole l at (a before b) m p) where
    both-fit : (is_some a && is_some b) ≡ true
    both-fit = sym (before-some a b) ∙ h.fits

    first_fits : is_some a ≡ true
    first_fits = and_left (is_some a) (is_some b) both-fit

    last_fits : is_some b ≡ true
    last_fits = and_right (is_some a) (is_some b) both-fit

    bytes-are : bytes_of F (a before b) ≡ bytes_of F a ++ bytes_of F b
    bytes-are = bytes-before F a b first_fits last_fits

    many : length (bytes_of F (a before b)) ≡ length (bytes_of F a) + length (bytes_of F b)
    many = ap length bytes-are ∙ length-append (bytes_of F a) (bytes_of F b)

    -- the first fits, and has room
    pub left-first : (is_some a ≡ true) × (p + length (bytes_of F a) ≤ length m)
    left-first = (first_fits, omega (arith, many, h.room))

    -- when it is written, the other is left
    pub left-next : (n : List ℕ) (q : ℕ) → Wrote m p (bytes_of F a) n q → Left F whole l at b n q
    left-next n q w =
        record {
          long = wrote-length w ∙ h.long;
          fits = last_fits;
          room = more (length (bytes_of F b)) w (omega (arith, many, h.room));
          rest = λ k u x. h.rest k u (wrote_as (sym bytes-are) (then w x));
        }

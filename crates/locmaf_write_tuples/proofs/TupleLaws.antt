-- One tuple: its weight and its bytes, by how the numbers in it came out. Assumes nothing.
use Prim.Native.Nat.{ℕ, ◌+◌, ◌-◌, ◌*◌, ◌≤◌, ◌<◌, zero-le, suc}
use native.Mathlib.Omega.{arith}
use mathlib.Core.Path.{◌≡◌, refl, sym, ◌∙◌, ap}
use mathlib.Core.Bool.{Bool, true, false, false≢true, not}
use mathlib.Core.List.{List, [], ◌∷◌, ◌++◌, append_assoc}
use borrow.Author.Tests.{ltb-true, ltb-false}
use lib.Dec.{ltb}
use lib.ListN.{length, length-append}
use Rattle.laws.specs.Writes.{Wrote}
use Rattle.laws.proofs.WriteLaws.{wrote_none}
use Rattle.wire.specs.declared.form.Row.{Row}
use Rattle.wire.specs.declared.form.Form.{Form}
use Rattle.wire.specs.declared.zigzag.Coding.{Coding}
use Rattle.std.specs.Prelude.{Option, Some, None}
use Rattle.std.specs.Option.{IsSome}
use Rattle.wire.specs.Form.{rows, limit, longest}
use Rattle.wire.specs.Varint.{encode, size_of}
use Rattle.wire.specs.Zigzag.{code_of}
use Rattle.wire.proofs.FormLaws.{lawful}
use Rattle.wire.proofs.SizeLaws.{size-eight, size-grows, size-some, limit-62, encode-size, size-longest, longest-eight}
use Rattle.runs.specs.Run.{first, rest, run_of, measured}
use Rattle.runs.proofs.RunLaws.{measured-length}
use Rattle.laws.specs.Options.{is_some, on_option}
use Rattle.constants.specs.Ids.{id_count}
use Rattle.constants.specs.Maxima.{subsamples_most, block_most}
use Rattle.block_items.specs.Items.{num, run, enc_item}
use Rattle.locmaf_write_tuples.specs.Items.{Items, items_if, number_item, run_item, bytes_of, pair_most, Made, WeighedAs}
use Rattle.locmaf_write_tuples.proofs.ItemLaws.{block_one, bytes-nothing, number-length, run_length, weighed-nothing, weighed-fit, weighed-wide}

-- ---- a tuple that is left out

module _ (F : List Row) (is : Items) where
  pub weighed-out : (s : Bool) (most : ℕ) → not s ≡ true → WeighedAs F (items_if s is) most (Some 0)
  unfolding items_if
  weighed-out true most h = absurd (false≢true h)
  weighed-out false most h = weighed-nothing

  pub wrote-out : (s : Bool) (l : List ℕ) (at : ℕ) → not s ≡ true → at + length (bytes_of F (items_if s is)) ≤ length l
      → Wrote l at (bytes_of F (items_if s is)) l at
  unfolding items_if
  wrote-out true l at h room = absurd (false≢true h)
  wrote-out false l at h room = rw (bytes-nothing F) (wrote_none l at (omega arith))

-- ---- one number

-- one too wide
module _ (F : List Row) (id : ℕ) (c : Option ℕ) (wide : c ≡ None) where
  pub weighed-no-number : (s : Bool) (most : ℕ) → not s ≡ false → WeighedAs F (items_if s (number_item id c)) most None
  unfolding items_if number_item
  weighed-no-number true most h = rw wide weighed-wide
  weighed-no-number false most h = absurd (false≢true (sym h))

-- one that stands and fits is given
pub number-some : (id : ℕ) (c : Option ℕ) (s : Bool) → not s ≡ false → is_some (items_if s (number_item id c)) ≡ true → IsSome c
unfolding items_if number_item
number-some id (Some z) true h e = refl
number-some id None true h e = absurd (false≢true e)
number-some id c false h e = absurd (false≢true (sym h))

-- its bytes and its weight
module _ (id : ℕ) (c : Option ℕ) (z : ℕ) (is : c ≡ Some z) where
  pub number-bytes : (F : List Row) (s : Bool) → not s ≡ false → encode F id ++ encode F z ≡ bytes_of F (items_if s (number_item id c))
  unfolding items_if number_item enc_item
  number-bytes F true h = rw is (sym (block_one F (num id z)))
  number-bytes F false h = absurd (false≢true (sym h))

  pub weighed-number : (form : Form) (s : Bool) {n : ℕ} → not s ≡ false → id < id_count → Made (rows form) c
      → n ≡ size_of (rows form) id + size_of (rows form) z → WeighedAs (rows form) (items_if s (number_item id c)) pair_most (Some n)
  unfolding items_if number_item
  weighed-number form true h few made e =
      let F : List Row = rows form in
      let low : z < limit F = rw is at made in
      let n : length (enc_item F (num id z)) ≡ size_of F id + size_of F z = number-length F id z (omega (arith, limit-62 form)) low in
      rw is
      (weighed-fit refl (e ∙ sym (ap length (block_one F (num id z)) ∙ n)) (omega (arith, e, size-eight form id, size-eight form z)))
  weighed-number form false h few made e = absurd (false≢true (sym h))

-- ---- a list of numbers

-- a number takes at most eight bytes
module _ (F : List Row) (eight : longest F ≤ 8) (coding : Coding) (base : ℕ) where
  pub run-most : (old new : List ℕ) → length (run_of F coding base old new) ≤ 8 * length new
  unfolding run_of
  run-most old [] = zero-le
  run-most old (v ∷ vs) = go (code_of F coding (first base old) v) (run-most (rest old) vs)
    where
      go : (k : Option ℕ) → length (run_of F coding base (rest old) vs) ≤ 8 * length vs
          → length (on_option k (λ z. encode F z ++ run_of F coding base (rest old) vs) []) ≤ 8 * suc (length vs)
      go (Some z) h = omega (arith, length-append (encode F z) (run_of F coding base (rest old) vs), encode-size F z, size-longest F z)
      go None h = zero-le

module _ (form : Form) (coding : Coding) (base : ℕ) where
  -- and so does what was measured
  pub measured-most : (old new : List ℕ) (n : ℕ) → measured (rows form) coding base old new ≡ Some n → n ≤ 8 * length new
  measured-most old new n e = rw (measured-length (rows form) coding base old new n e) at (run-most (rows form) (longest-eight form) coding base old new)

module _ (F : List Row) (coding : Coding) (id base : ℕ) (old new : List ℕ) where
  -- a number too wide
  module _ (wide : measured F coding base old new ≡ None) where
    pub weighed-no-run : (most : ℕ) → WeighedAs F (run_item F coding id base old new) most None
    unfolding run_item
    weighed-no-run most = rw wide weighed-wide

    no_run : is_some (run_item F coding id base old new) ≡ true → ⊥
    unfolding run_item
    no_run e = false≢true (rw wide at e)

  -- all fit
  run-bytes : (n : ℕ) → measured F coding base old new ≡ Some n
      → encode F id ++ encode F n ++ run_of F coding base old new ≡ bytes_of F (run_item F coding id base old new)
  unfolding run_item enc_item
  run-bytes n e =
      let bs : List ℕ = run_of F coding base old new in
      let l : length bs ≡ n = measured-length F coding base old new n e in
      rw e (append_assoc (encode F id) (encode F n) bs ∙ ap (λ (k : ℕ). encode F id ++ (encode F k ++ bs)) (sym l) ∙ sym (block_one F (run id bs)))

-- how long their tuple is, and its weight
module _ (form : Form) (coding : Coding) (id base : ℕ) (old new : List ℕ) (low : id < id_count) (short : length new ≤ subsamples_most) where
  abbrev run_bytes : ℕ
  run_bytes = length (bytes_of (rows form) (run_item (rows form) coding id base old new))

  run-size : (n : ℕ) → measured (rows form) coding base old new ≡ Some n → run_bytes ≡ size_of (rows form) id + (size_of (rows form) n + n)
  unfolding run_item
  run-size n m =
      let F : List Row = rows form in
      let bs : List ℕ = run_of F coding base old new in
      let l : length bs ≡ n = measured-length F coding base old new n m in
      let most : n ≤ 8 * length new = measured-most form coding base old new n m in
      let all : length (enc_item F (run id bs)) ≡ size_of F id + (size_of F (length bs) + length bs) =
      run_length F id bs (omega (arith, limit-62 form)) (omega (arith, limit-62 form)) in
      rw m (rw (← l) (ap length (block_one F (run id bs)) ∙ all))

  pub weighed-run : (n k : ℕ) → measured (rows form) coding base old new ≡ Some n
      → (k ≡ size_of (rows form) id + (size_of (rows form) n + n)) × (k ≤ pair_most + n)
      → WeighedAs (rows form) (run_item (rows form) coding id base old new) (pair_most + 8 * length new) (Some k)
  unfolding run_item
  weighed-run n k m size =
      weighed-fit (rw m) (size.0 ∙ sym (run-size n m)) (omega (arith, size.1, measured-most form coding base old new n m))

  -- the length of its body, which follows from that of the whole and that of the id
  module _ (some : is_some (run_item (rows form) coding id base old new) ≡ true) (bytes s : ℕ) (all : bytes ≡ run_bytes) (head : s ≡ size_of (rows form) id) where
    body_of : (n : ℕ) × (measured (rows form) coding base old new ≡ Some n) × (n ≤ block_most) × (bytes ≡ s + (size_of (rows form) n + n))
    body_of = go (measured (rows form) coding base old new) refl
      where
        go : (k : Option ℕ) → measured (rows form) coding base old new ≡ k
            → (n : ℕ) × (measured (rows form) coding base old new ≡ Some n) × (n ≤ block_most) × (bytes ≡ s + (size_of (rows form) n + n))
        go (Some n) e = (n, e, omega (arith, measured-most form coding base old new n e), omega (arith, run-size n e))
        go None e = absurd (no_run (rows form) coding id base old new e some)

    pub run-head : s ≤ bytes
    run-head = omega (arith, body_of.3)

    pub run-body : (n : ℕ) × (n ≤ block_most) × (bytes - s ≡ size_of (rows form) n + n)
    run-body = (body_of.0, body_of.2, omega (arith, body_of.3))

    -- so the tuple's bytes are known, where code found it
    pub body-found : (r : ℕ) → ((n : ℕ) → n ≤ block_most → bytes - s ≡ size_of (rows form) n + n → r ≡ n)
        → encode (rows form) id ++ encode (rows form) r ++ run_of (rows form) coding base old new ≡ bytes_of (rows form) (run_item (rows form) coding id base old new)
    body-found r is =
        run-bytes (rows form) coding id base old new r
        (body_of.1 ∙ ap Some (sym (is body_of.0 body_of.2 (omega (arith, body_of.3)))))

-- ---- how long a body is, by the bytes that it takes with its length before it

module _ (form : Form) (m : ℕ) where
  -- a body of k bytes takes m
  abbrev Takes : ℕ → Type 0
  Takes k = (k ≤ block_most) × (m ≡ size_of (rows form) k + k)

  -- so it has fewer
  pub takes-more : (k : ℕ) → Takes k → k < m
  takes-more k h = omega (arith, h.1, size-some (rows form) k (omega (arith, h.0, limit-62 form)))

  -- where a body of n bytes takes more, it has fewer
  pub takes-less : (n : ℕ) → m < n + size_of (rows form) n → (k : ℕ) → Takes k → k < n
  takes-less n more k h = go (ltb k n) refl
    where
      go : (t : Bool) → ltb k n ≡ t → k < n
      go true e = ltb-true _ _ e
      go false e = let le : n ≤ k = ltb-false _ _ e in absurd (omega (arith, h.1, size-grows (rows form) (lawful form) n k le))

  -- no such body has more bytes than n
  pub record Above (n : ℕ) : Type 0 where
    pub few : n ≤ pair_most + block_most
    pub all : (k : ℕ) → Takes k → k ≤ n

  pub above-start : (k : ℕ) → Takes k → Above (m - 1)
  above-start k h = record { few = omega (arith, h.0, h.1, size-eight form k); all = λ j g. omega (arith, takes-more j g) }

  pub above-next : (n : ℕ) → Above n → m < n + size_of (rows form) n → Above (n - 1)
  above-next n h more = record { few = omega (arith, h.few); all = λ k g. omega (arith, takes-less n more k g) }

  -- and n is its length
  pub above-end : (n : ℕ) → Above n → n + size_of (rows form) n ≤ m → (k : ℕ) → Takes k → n ≡ k
  above-end n h le k g = omega (arith, g.1, h.all k g, size-grows (rows form) (lawful form) k n (h.all k g))

-- What stands in an object of a field that is sent, by its line: IVs, one number, or a list. Assumes nothing.
use Prim.Native.Nat.{ℕ, suc, ◌+◌, ◌-◌, ◌*◌, ◌≤◌}
use native.Mathlib.Omega.{arith}
use mathlib.Core.Path.{◌≡◌, refl, sym, ◌∙◌, ap}
use mathlib.Core.Bool.{Bool, true, false}
use mathlib.Core.List.{List, [], ◌∷◌, ◌++◌, append_assoc}
use borrow.Author.Tests.{eqb-true, eqb-false, eq-eqb, ne_eqb}
use lib.Dec.{eqb}
use lib.ListN.{length, get_or, take, drop}
use lib.Seq.{slice, slice-cons, length-slice}
use Rattle.laws.proofs.SliceLaws.{slice-lent}
use Rattle.wire.specs.declared.form.Row.{Row}
use Rattle.wire.specs.declared.form.Form.{Form}
use Rattle.wire.specs.declared.zigzag.Coding.{Coding}
use Rattle.std.specs.Prelude.{Option, Some}
use Rattle.wire.specs.Form.{rows}
use Rattle.wire.specs.Varint.{encode, size_of}
use Rattle.wire.specs.Zigzag.{code_of}
use Rattle.wire.proofs.SizeLaws.{limit-62}
use Rattle.runs.specs.Run.{first}
use Rattle.block_items.specs.Items.{run, enc_item}
use Rattle.constants.specs.Maxima.{subsamples_most}
use Rattle.track.specs.declared.Track.{Track}
use Rattle.field_table.specs.declared.lines.Line.{Line}
use Rattle.field_table.specs.declared.lines.Measure.{Measure}
use Rattle.field_table.specs.Lines.{wanted, absent_value}
use Rattle.field_set.specs.Lawful.{measure_of}
use Rattle.field_rules.specs.Fields.{coding_for, coding_of, is_ivs, old_values}
use Rattle.locmaf_write_block.specs.declared.cells.Basis.{Basis}
use Rattle.locmaf_write_tuples.specs.Items.{items_if, number_item, run_item, wide_bytes, bytes_of, pair_most, WeighedAs}
use Rattle.locmaf_write_block.specs.Changes.{news, olds, sent_items, list_item, coded_item, line_most}
use Rattle.locmaf_write_tuples.proofs.ItemLaws.{block_one, run_length, weighed-fit}
use Rattle.locmaf_write_block.proofs.WideLaws.{wide-length}
use Rattle.locmaf_write_block.proofs.FieldLaws.{Field}

-- ---- a line by its kind

module _ (F : List Row) (t : Track) (delta : Bool) (r x : List ℕ) (l : Line) where
  -- IVs are bytes as they are
  ivs-are : is_ivs l.want ≡ true → sent_items t delta r x l F ≡ Some (run l.id (wide_bytes (news t delta r x l)) ∷ [])
  unfolding sent_items
  ivs-are e = rw e

  module _ (no : is_ivs l.want ≡ false) where
    -- one value is a number
    one-is : l.room ≡ 1
        → number_item l.id
        (code_of F (coding_of (coding_for delta) l.absent) (first (absent_value t l.absent) (olds t delta r x l)) (first 0 (news t delta r x l)))
        ≡ sent_items t delta r x l F
    unfolding sent_items
    one-is e = rw (no, eq-eqb l.room 1 e)

    -- and any others a list
    list-is : (l.room ≡ 1 → ⊥)
        → run_item F (coding_of (coding_for delta) l.absent) l.id (absent_value t l.absent) (olds t delta r x l) (news t delta r x l)
        ≡ sent_items t delta r x l F
    unfolding sent_items
    list-is e = rw (no, ne_eqb l.room 1 e)

-- how many values are lent
pub lent_length : (l : Line) (x : List ℕ) (k : ℕ) → l.place + 1 + k ≤ length x
    → length (take (l.place + 1 + k - (l.place + 1)) (drop (l.place + 1) x)) ≡ k
lent_length l x k room =
    ap length (slice-lent (l.place + 1) (l.place + 1 + k) x (omega arith) room)
    ∙ length-slice (l.place + 1) (l.place + 1 + k) x room
    ∙ omega arith

module _ {t : Track} {b : Basis} {r x : List ℕ} {l : Line} (f : Field t b r x l) where
  -- k new values: they have room, and are few
  module _ (k : ℕ) (ek : k ≡ wanted l.want b.now) where
    pub new-room : l.place + 1 + k ≤ length x
    new-room = omega (arith, f.here, f.new-room)

    pub new-few : k ≤ subsamples_most
    new-few = omega (arith, f.few, f.new-room)

    -- as they are lent
    pub news-lent : take (l.place + 1 + k - (l.place + 1)) (drop (l.place + 1) x) ≡ news t b.delta r x l
    news-lent =
        slice-lent (l.place + 1) (l.place + 1 + k) x (omega arith) new-room
        ∙ ap (λ (n : ℕ). slice (l.place + 1) (l.place + 1 + n) x) (ek ∙ ap (wanted l.want) f.now-is)

    -- their bytes, eight a word
    wide-many : 8 * k ≡ length (wide_bytes (news t b.delta r x l))
    wide-many = sym (wide-length (news t b.delta r x l) ∙ ap (λ (m : ℕ). 8 * m) (ap length (sym news-lent) ∙ lent_length l x k new-room))

    -- IVs
    module _ (ivs : is_ivs l.want ≡ true) where
      -- their head and they themselves are what is sent
      ivs-bytes : (F : List Row)
          → encode F l.id ++ encode F (8 * k) ++ wide_bytes (take (l.place + 1 + k - (l.place + 1)) (drop (l.place + 1) x))
          ≡ bytes_of F (sent_items t b.delta r x l F)
      unfolding enc_item
      ivs-bytes F =
          let bs : List ℕ = wide_bytes (news t b.delta r x l) in
          rw (news-lent, ivs-are F t b.delta r x l ivs)
          (append_assoc (encode F l.id) (encode F (8 * k)) bs
          ∙ ap (λ (m : ℕ). encode F l.id ++ (encode F m ++ bs)) wide-many
          ∙ sym (block_one F (run l.id bs)))

      -- by the words that are lent: they are few, and have room
      pub ivs-wrote : (F : List Row)
          → let ws : List ℕ = take (l.place + 1 + k - (l.place + 1)) (drop (l.place + 1) x) in
          encode F l.id ++ encode F (8 * length ws) ++ wide_bytes ws ≡ bytes_of F (sent_items t b.delta r x l F)
      ivs-wrote F =
          let ws : List ℕ = take (l.place + 1 + k - (l.place + 1)) (drop (l.place + 1) x) in
          ap (λ (n : ℕ). encode F l.id ++ encode F (8 * n) ++ wide_bytes ws) (lent_length l x k new-room) ∙ ivs-bytes F

      pub ivs-room : (F : List Row) (out : List ℕ) (at : ℕ) → at + length (bytes_of F (sent_items t b.delta r x l F)) ≤ length out
          → let ws : List ℕ = take (l.place + 1 + k - (l.place + 1)) (drop (l.place + 1) x) in
          (length ws ≤ subsamples_most) × (at + length (encode F l.id ++ encode F (8 * length ws) ++ wide_bytes ws) ≤ length out)
      ivs-room F out at h = (omega (arith, lent_length l x k new-room, new-few), omega (arith, h, ap length (ivs-wrote F)))

      -- and weighed
      pub weighed-ivs : (form : Form) (n : ℕ)
          → (n ≡ size_of (rows form) l.id + (size_of (rows form) (8 * k) + 8 * k)) × (n ≤ pair_most + 8 * k)
          → WeighedAs (rows form) (sent_items t b.delta r x l (rows form)) line_most (Some n)
      weighed-ivs form n s =
          let F : List Row = rows form in
          let bs : List ℕ = wide_bytes (news t b.delta r x l) in
          let all : length (enc_item F (run l.id bs)) ≡ size_of F l.id + (size_of F (length bs) + length bs) =
          run_length F l.id bs (omega (arith, limit-62 form, f.low)) (omega (arith, limit-62 form, new-few, wide-many)) in
          rw (ivs-are F t b.delta r x l ivs)
          (weighed-fit refl (s.0 ∙ rw wide-many (sym (ap length (block_one F (run l.id bs)) ∙ all))) (omega (arith, s.1, new-few)))

  -- the old values as they are lent
  pub olds-lent : (u : ℕ) → (l.place + 1 + u ≤ length r) × (old_values b.delta r b.was l ≡ slice (l.place + 1) (l.place + 1 + u) r)
      → take (l.place + 1 + u - (l.place + 1)) (drop (l.place + 1) r) ≡ olds t b.delta r x l
  olds-lent u h =
      slice-lent (l.place + 1) (l.place + 1 + u) r (omega arith) h.0
      ∙ sym h.1
      ∙ ap (λ (m : Measure). old_values b.delta r m l) f.was-is

  -- numbers, with what code found for its parameters
  module _ (F : List Row) (ivs : Bool) (ei : ivs ≡ is_ivs l.want) (no : ivs ≡ false)
      (co : Coding) (ec : co ≡ coding_of (coding_for b.delta) l.absent) (base : ℕ) (eb : base ≡ absent_value t l.absent)
      (k : ℕ) (ek : k ≡ wanted l.want b.now) where
    -- one
    number_is : l.room ≡ 1
        → number_item l.id (code_of F co (first base (old_values b.delta r b.was l)) (get_or x (l.place + 1) 0)) ≡ sent_items t b.delta r x l F
    unfolding wanted
    number_is e =
        let s : slice (l.place + 1) (l.place + 1 + 1) x ≡ get_or x (l.place + 1) 0 ∷ slice (suc (l.place + 1)) (l.place + 1 + 1) x =
        slice-cons (l.place + 1) (l.place + 1 + 1) x 0 (omega arith) (omega (arith, f.here)) in
        let now : get_or x (l.place + 1) 0 ≡ first 0 (news t b.delta r x l) = rw (f.single e, s) in
        rw (ec, eb, f.was-is, now) (one-is F t b.delta r x l (sym ei ∙ no) e)

    -- a list
    list-found : (l.room ≡ 1 → ⊥) → list_item F co b r x l k base ≡ sent_items t b.delta r x l F
    list-found e =
        let n : k ≡ wanted l.want (measure_of t x) = ek ∙ ap (wanted l.want) f.now-is in
        rw (f.was-is, n, ec, eb) (list-is F t b.delta r x l (sym ei ∙ no) e)

    -- either
    pub coded-is : coded_item F co b r x l k base ≡ sent_items t b.delta r x l F
    unfolding coded_item
    coded-is = go (eqb l.room 1) refl
      where
        go : (z : Bool) → eqb l.room 1 ≡ z → coded_item F co b r x l k base ≡ sent_items t b.delta r x l F
        go true e = rw e (number_is (eqb-true _ _ e))
        go false e = rw e (list-found (eqb-false _ _ e))

-- numbers, one or a list
module _ (F : List Row) (co : Coding) (b : Basis) (r x : List ℕ) (l : Line) (k base : ℕ) where
  pub one-coded : l.room ≡ 1 → (z : Option ℕ) → z ≡ code_of F co (first base (old_values b.delta r b.was l)) (get_or x (l.place + 1) 0)
      → items_if true (number_item l.id z) ≡ coded_item F co b r x l k base
  unfolding items_if coded_item
  one-coded e z ez = rw (ez, eq-eqb l.room 1 e)

  pub list-coded : (l.room ≡ 1 → ⊥) → list_item F co b r x l k base ≡ coded_item F co b r x l k base
  unfolding coded_item
  list-coded e = rw (ne_eqb l.room 1 e)

-- a list as it is lent
pub lent-list : (F : List Row) (co : Coding) (b : Basis) (r x : List ℕ) (l : Line) (k base u : ℕ) → l.place + 1 + k ≤ length x
    → (l.place + 1 + u ≤ length r) × (old_values b.delta r b.was l ≡ slice (l.place + 1) (l.place + 1 + u) r)
    → run_item F co l.id base (take (l.place + 1 + u - (l.place + 1)) (drop (l.place + 1) r))
    (take (l.place + 1 + k - (l.place + 1)) (drop (l.place + 1) x))
    ≡ list_item F co b r x l k base
lent-list F co b r x l k base u h g =
    rw (
      slice-lent (l.place + 1) (l.place + 1 + u) r (omega arith) g.0,
      slice-lent (l.place + 1) (l.place + 1 + k) x (omega arith) h,
      g.1,
    )

-- The `emsg` boxes that are written, read: the strings of each end where they were ended, and they say the events. Assumes nothing.
use Prim.Native.Nat.{ℕ, suc, ◌+◌, ◌-◌, zero, ◌*◌}
use native.Mathlib.Omega.{arith}
use mathlib.Core.Path.{◌≡◌, refl, ◌∙◌, ap, ap₂}
use mathlib.Core.Bool.{true}
use mathlib.Core.List.{List, [], ◌∷◌, ◌++◌, append_assoc, append-nil}
use borrow.Author.Tests.{not-true}
use lib.Dec.{eqb}
use lib.ListN.{length, take, drop, length-append, get_or}
use Rattle.laws.specs.Bytes.{be}
use Rattle.laws.specs.Tests.{no_zero}
use Rattle.laws.proofs.TestLaws.{left, right}
use Rattle.boxes.specs.Box as B
use Rattle.boxes.proofs.BoxLaws.{length-full_box}
use Rattle.cmaf_read_tree.specs.Numbers.{u32, u64}
use Rattle.byte_parts.specs.declared.Part.{Part}
use Rattle.cmaf_read_shape.specs.Parts.{part, end_of}
use Rattle.event_value.specs.Events.{Event, event_at, events_from, events_of, event_words}
use Rattle.cmaf_write_emsg.specs.Emsg.{emsg_box, emsg_boxes}
use Rattle.cmaf_read_prelude.specs.Emsg.{before_zero, zero_from, scheme_at, scheme_end, value_end, box_words, emsg_words}
use Rattle.cmaf_read_shape.specs.Left.{Left}
use Rattle.cmaf_read_shape.proofs.LeftLaws.{left-to, left-on, left-number, left-part, left-past}
use Rattle.cmaf_read_facts.specs.Given.{BoxedEvent, AllBoxed}
use Rattle.rebuilt.proofs.FullBoxes.{full_body}
use lib.Seq.{get_or-append-add}
use Rattle.cmaf_read_prelude.proofs.EventLaws.{event-length}
use Rattle.cmaf_read_shape.proofs.OneBoxLaws.{one_found}
use Rattle.rebuilt.specs.Chunk.{AllShort}
use Rattle.rebuilt.proofs.OuterRead.{emsg-box}

-- ---- a string and its end zero

before-zero : (xs ys : List ℕ) → no_zero xs ≡ true → before_zero (xs ++ (0 ∷ ys)) ≡ length xs
unfolding before_zero no_zero
before-zero [] ys h = refl
before-zero (x ∷ xs) ys h = rw (not-true (eqb x 0) (left _ _ h)) (ap suc (before-zero xs ys (right _ _ h)))

module _ {c : List ℕ} {at end : ℕ} (xs ys : List ℕ) where
  -- where it ends
  zero-found : no_zero xs ≡ true → Left c at end (xs ++ (0 ∷ ys)) → zero_from c at end ≡ at + length xs
  unfolding zero_from
  zero-found h l = ap (λ (n : ℕ). at + n) (ap before_zero l.is ∙ before-zero xs ys h)

  -- what is left behind it
  past-zero : {to : ℕ} → to ≡ at + length xs → Left c at end (xs ++ (0 ∷ ys)) → Left c (to + 1) end ys
  past-zero e l = left-to {at = at} (xs ++ (0 ∷ [])) ys (omega (arith, length-append xs (0 ∷ []))) (rw append_assoc l)

-- ---- one event

module _ {c : List ℕ} {at end : ℕ} (e : Event) (ys : List ℕ) (h : Left c at end (emsg_box e ++ ys)) where
  abbrev b : Part
  b = part at (length (emsg_box e))

  abbrev texts : List ℕ
  texts = e.scheme ++ (0 ∷ (e.value ++ (0 ∷ e.message)))

  abbrev numbers : List ℕ
  numbers = be 4 e.timescale ++ (be 8 e.time ++ (be 4 e.duration ++ be 4 e.id))

  left-numbers : Left c (at + 12) (end_of b) (numbers ++ texts)
  unfolding emsg_box be
  left-numbers =
      let q : at + 12 + length (numbers ++ texts) ≡ end_of b = omega (arith, length-full_box B.emsg 1 0 (numbers ++ texts)) in
      rw q at (full_body B.emsg 1 0 (numbers ++ texts) ys h)

  pub left-scheme : Left c (scheme_at b) (end_of b) texts
  unfolding be
  left-scheme = left-to numbers texts (omega arith) left-numbers

  module _ (scheme : no_zero e.scheme ≡ true) (value : no_zero e.value ≡ true) where
    -- where the reader finds the end of the scheme, and that of the value
    pub scheme-ends : scheme_end c b ≡ scheme_at b + length e.scheme
    unfolding scheme_end
    scheme-ends = zero-found e.scheme (e.value ++ (0 ∷ e.message)) scheme left-scheme

    pub left-value : Left c (scheme_end c b + 1) (end_of b) (e.value ++ (0 ∷ e.message))
    left-value = past-zero e.scheme _ scheme-ends left-scheme

    pub value-ends : value_end c b ≡ scheme_end c b + 1 + length e.value
    unfolding value_end
    value-ends = zero-found e.value e.message value left-value

    pub left-message : Left c (value_end c b + 1) (end_of b) (e.message ++ [])
    left-message = rw append-nil (past-zero e.value e.message value-ends left-value)

  -- what it says, by its words
  pub event-read : BoxedEvent e → (ws : List ℕ) → event_at c (box_words c b ++ ws) 0 ≡ e
  unfolding event_at box_words be
  event-read k ws =
      let z = k.scheme in
      let y = k.value in
      let more : List ℕ = be 4 e.duration ++ (be 4 e.id ++ texts) in
      let l₁ = left-on {at = at + 12} {to = at + 16} 4 e.timescale (be 8 e.time ++ more) (omega arith) left-numbers in
      let l₂ = left-on {at = at + 16} {to = at + 24} 8 e.time more (omega arith) l₁ in
      let l₃ = left-on {at = at + 24} {to = at + 28} 4 e.duration (be 4 e.id ++ texts) (omega arith) l₂ in
      let p₀ : take (scheme_end c b - scheme_at b) (drop (scheme_at b) c) ≡ e.scheme =
      left-part (scheme_end c b - scheme_at b) e.scheme _ (omega (arith, scheme-ends z y)) left-scheme in
      let p₁ : take (value_end c b - (scheme_end c b + 1)) (drop (scheme_end c b + 1) c) ≡ e.value =
      left-part (value_end c b - (scheme_end c b + 1)) e.value _ (omega (arith, value-ends z y)) (left-value z y) in
      let p₂ : u32 c (at + 12) ≡ e.timescale = left-number 4 e.timescale _ (omega (arith, k.scale-low)) left-numbers in
      let p₃ : u64 c (at + 16) ≡ e.time = left-number 8 e.time _ (omega (arith, k.time)) l₁ in
      let p₄ : u32 c (at + 24) ≡ e.duration = left-number 4 e.duration _ (omega (arith, k.duration)) l₂ in
      let p₅ : u32 c (at + 28) ≡ e.id = left-number 4 e.id texts (omega (arith, k.id)) l₃ in
      let p₆ : take (end_of b - (value_end c b + 1)) (drop (value_end c b + 1) c) ≡ e.message =
      left-part (end_of b - (value_end c b + 1)) e.message [] (omega (arith, (left-message z y).room, length-append e.message [])) (left-message z y) in
      λ j. record { scheme = p₀ j; value = p₁ j; timescale = p₂ j; time = p₃ j; duration = p₄ j; id = p₅ j; message = p₆ j }

-- the words of the first event before those of the others
event-past : (o xs ws : List ℕ) → length xs ≡ 10 → (i : ℕ) → event_at o (xs ++ ws) (suc i) ≡ event_at o ws i
unfolding event_at
event-past o xs ws long i =
    let z : event_words * suc i ≡ length xs + event_words * i = omega arith in
    let at : (j : ℕ) → get_or (xs ++ ws) (event_words * suc i + j) 0 ≡ get_or ws (event_words * i + j) 0 =
    λ j. ap (λ (n : ℕ). get_or (xs ++ ws) n 0) (omega arith) ∙ get_or-append-add xs ws (event_words * i + j) 0 in
    rw (z, get_or-append-add xs ws (event_words * i) 0, ← z, at 1, at 2, at 3, at 4, at 5, at 6, at 7, at 8, at 9)

events-past : (o xs ws : List ℕ) → length xs ≡ 10 → (k i : ℕ) → events_from o (xs ++ ws) k (suc i) ≡ events_from o ws k i
unfolding events_from
events-past o xs ws long zero i = refl
events-past o xs ws long (suc k) i = ap₂ (λ (e : Event) (es : List Event). e ∷ es) (event-past o xs ws long i) (events-past o xs ws long k (suc i))

-- all of them
pub events-read : {c : List ℕ} (es : List Event) (at : ℕ) (ys : List ℕ) → AllShort es → AllBoxed es → Left c at (length c) (emsg_boxes es ++ ys)
    → events_of c (emsg_words c (length es) at) (length es) ≡ es
unfolding events_from emsg_words emsg_boxes
events-read {c} [] at ys s k h = refl
events-read {c} (e ∷ es) at ys s k h =
    let b : Part = part at (length (emsg_box e)) in
    let l : Left c at (length c) (emsg_box e ++ (emsg_boxes es ++ ys)) = rw append_assoc at h in
    let others : List ℕ = emsg_words c (length es) (end_of b) in
    ap (λ (p : Part). events_from c (box_words c p ++ emsg_words c (length es) (end_of p)) (suc (length es)) 0) (one_found (emsg-box e s.0) _ l)
    ∙ ap₂ (λ (x : Event) (xs : List Event). x ∷ xs) (event-read e (emsg_boxes es ++ ys) l k.0 others)
    (events-past c (box_words c b) others (event-length c b) (length es) 0
    ∙ events-read es (end_of b) ys s.1 k.1 (left-past (emsg_box e) (emsg_boxes es ++ ys) l))

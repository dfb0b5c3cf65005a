-- The `emsg` boxes as their parts, and their lengths. Assumes nothing.
use Prim.Native.Nat.{ℕ, suc, ◌+◌, ◌-◌, ◌*◌, ◌/◌, ◌^◌, ◌≤◌, ◌<◌}
use native.Mathlib.Nat.{zero-add, sub-zero}
use native.Mathlib.Numerals.{add-one}
use native.Mathlib.Omega.{arith}
use mathlib.Core.Path.{◌≡◌, refl, sym, ◌∙◌, ap}
use mathlib.Core.List.{List, [], ◌∷◌, ◌++◌}
use lib.ListN.{length, get_or, length-append}
use lib.Seq.{append_snoc}
use Rattle.laws.specs.Bytes.{be}
use Rattle.laws.proofs.BytesLaws.{length-be, be-split}
use Rattle.laws.proofs.PartLaws.{joined}
use Rattle.boxes.specs.Box.{words}
use Rattle.boxes.proofs.BoxLaws.{length-full_box, full_box-head}
use Rattle.boxes.specs.Box as B
use Rattle.cmaf_write_emsg.specs.Emsg.{emsg_box, emsg_boxes, emsg_head, emsg_most, EventShort, EventsShort}
use Rattle.event_value.specs.Events.{Event, event_at, events_from, EventFits, EventsFit, event_words, event_scheme_len, event_value_len, event_message_len}
use Rattle.event_value.proofs.PartLaws.{part_length}
use Rattle.constants.specs.Maxima.{events_most}

abbrev fields : Event → List ℕ
fields e = (be 4 e.timescale ++ (be 8 e.time ++ (be 4 e.duration ++ (be 4 e.id ++ (e.scheme ++ (0 ∷ (e.value ++ (0 ∷ e.message))))))))

emsg-whole : (e : Event) → length (emsg_box e) ≡ 12 + length (fields e)
unfolding emsg_box
emsg-whole e = length-full_box B.emsg 1 0 (fields e)

emsg-length : (e : Event) → length (emsg_box e) ≡ 34 + length e.scheme + length e.value + length e.message
emsg-length e = emsg-whole e ∙ simp (length-append, length-be) (omega (arith, length-append e.scheme (0 ∷ (e.value ++ (0 ∷ e.message))), length-append e.value (0 ∷ e.message)))

pub event-length : (o ws : List ℕ) (i : ℕ) → EventFits o ws i
    → length (emsg_box (event_at o ws i)) ≡ 34 + get_or ws (event_words * i + event_scheme_len) 0 + get_or ws (event_words * i + event_value_len) 0 + get_or ws (event_words * i + event_message_len) 0
unfolding event_at
event-length o ws i h =
    emsg-length (event_at o ws i)
    ∙ omega (arith, part_length o _ _ h.scheme.within, part_length o _ _ h.value.within, part_length o _ _ h.message.within)

-- parts that lie in an object are short
pub fits-short : {o ws : List ℕ} {i : ℕ} → EventFits o ws i → EventShort ws i
fits-short h = record { there = h.there; scheme = h.scheme.short; value = h.value.short; message = h.message.short }

pub events-short : {o ws : List ℕ} {k : ℕ} → EventsFit o ws k → EventsShort ws k
events-short h = record { few = h.few; each = λ i lt. fits-short (h.each i lt) }

abbrev pub emsg_parts : Event → ℕ → List (List ℕ)
emsg_parts e size = emsg_head size e ∷ (e.scheme ++ (0 ∷ [])) ∷ (e.value ++ (0 ∷ [])) ∷ e.message ∷ []

module _ (e : Event) where
  abbrev strings : List ℕ
  strings = (e.scheme ++ (0 ∷ [])) ++ ((e.value ++ (0 ∷ [])) ++ e.message)

  ended : strings ≡ e.scheme ++ (0 ∷ (e.value ++ (0 ∷ e.message)))
  ended =
      append_snoc e.scheme 0 ((e.value ++ (0 ∷ [])) ++ e.message)
      ∙ ap (λ (l : List ℕ). e.scheme ++ (0 ∷ l)) (append_snoc e.value 0 e.message)

  emsg-words : words (e.timescale ∷ (e.time / 2 ^ 32) ∷ e.time ∷ e.duration ∷ e.id ∷ []) ++ strings ≡ fields e
  unfolding words be
  emsg-words =
      ap (λ (l : List ℕ). be 4 e.timescale ++ (l ++ (be 4 e.duration ++ (be 4 e.id ++ strings)))) (sym (be-split 4 4 e.time))
      ∙ ap (λ (l : List ℕ). be 4 e.timescale ++ (be 8 e.time ++ (be 4 e.duration ++ (be 4 e.id ++ l)))) ended

  pub emsg-parts : (size : ℕ) → size ≡ length (emsg_box e) → joined (emsg_parts e size) ≡ emsg_box e
  unfolding emsg_box emsg_head
  emsg-parts size h =
      full_box-head B.emsg 1 0 size 0x100_0000 (e.timescale ∷ (e.time / 2 ^ 32) ∷ e.time ∷ e.duration ∷ e.id ∷ []) strings emsg-words refl (h ∙ emsg-whole e)

-- ---- the events one after another

module _ (o ws : List ℕ) (k i : ℕ) where
  pub events-end : k ≤ i → emsg_boxes (events_from o ws (k - i) i) ≡ []
  unfolding emsg_boxes events_from
  events-end h = let e : k - i ≡ 0 = omega arith in rw e

  pub events-next : i < k → emsg_boxes (events_from o ws (k - i) i) ≡ emsg_box (event_at o ws i) ++ emsg_boxes (events_from o ws (k - (i + 1)) (i + 1))
  unfolding emsg_boxes events_from
  events-next h = let e : k - i ≡ suc (k - (i + 1)) = omega arith in rw (e, add-one)

-- what is left of a sum of lengths, whatever the bytes are that the words point into
pub record Adding (ws : List ℕ) (k sum i : ℕ) : Type 0 where
  pub all : (o : List ℕ) → EventsFit o ws k → sum + length (emsg_boxes (events_from o ws (k - i) i)) ≡ length (emsg_boxes (events_from o ws k 0))
  pub small : sum ≤ emsg_most * i
  pub within : i ≤ k

pub adding-none : (ws : List ℕ) (k : ℕ) → Adding ws k 0 0
adding-none ws k = record { all = λ o f. rw (sub-zero, zero-add); small = omega arith; within = omega arith }

module _ (ws : List ℕ) (k sum i : ℕ) (h : Adding ws k sum i) where
  pub adding-next : (r : ℕ) → i < k → ((o : List ℕ) → EventFits o ws i → r ≡ length (emsg_box (event_at o ws i))) → r ≤ emsg_most → Adding ws k (sum + r) (i + 1)
  adding-next r lt e le =
      record {
        all =
            λ o f.
            let p = ap length (events-next o ws k i lt) ∙ length-append (emsg_box (event_at o ws i)) (emsg_boxes (events_from o ws (k - (i + 1)) (i + 1))) in
            omega (arith, h.all o f, e o (f.each i lt));
        small = omega (arith, h.small);
        within = omega arith;
      }

  pub adding-end : k ≤ events_most → k ≤ i
      → ((o : List ℕ) → EventsFit o ws k → sum ≡ length (emsg_boxes (events_from o ws k 0))) × (sum ≤ emsg_most * events_most)
  adding-end few le = ((λ o f. omega (arith, h.all o f, ap length (events-end o ws k i le))), omega (arith, h.small, h.within))

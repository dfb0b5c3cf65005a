-- A list of events that was written is read as what was written, for any lawful form. Assumes nothing.
use Prim.Native.Nat.{ℕ, ◌+◌, ◌-◌, ◌≤◌, ◌<◌}
use native.Mathlib.Omega.{arith}
use mathlib.Core.Path.{◌≡◌, refl, sym, ◌∙◌, ap}
use mathlib.Core.Bool.{true}
use mathlib.Core.List.{List, [], ◌∷◌, ◌++◌, map, append_assoc, append-nil}
use borrow.Author.Tests.{le-leb}
use lib.ListN.{length, drop, length-append, length-drop}
use lib.Seq.{slice, drop-drop, drop-append_seam}
use Rattle.laws.proofs.SliceLaws.{slice-between}
use Rattle.wire.specs.declared.form.Row.{Row}
use Rattle.wire.specs.Form.{limit}
use Rattle.wire.specs.Varint.{encode, size_of}
use Rattle.wire.proofs.FormLaws.{Lawful}
use Rattle.wire.proofs.VarintLaws.{length-encode, read-encode, drop-encode}
use Rattle.locmaf_read_block.specs.declared.records.Record.{Record}
use Rattle.std.specs.Prelude.{Some}
use Rattle.locmaf_read_block.specs.declared.records.Marks.{Marks}
use Rattle.locmaf_read_block.specs.Front.{series, before, wholly}
use Rattle.locmaf_read_block.specs.Tuples.{part, bytes_of}
use Rattle.locmaf_read_block.specs.Records.{number, text_at, marks_at, record_of, record_f, records_run, records_f}
use Rattle.locmaf_read_block.specs.Entries.{body}
use Rattle.block_items.specs.Events.{Event, enc_text, enc_event, enc_events, Sayable, AllSayable}
use Rattle.locmaf_read_block.specs.Events.{event_of, events_f}
use Rattle.locmaf_read_block.proofs.KeptLaws.{records-none, records-one}

-- the bytes of a text
abbrev size_text : List Row → List ℕ → ℕ
size_text F bs = size_of F (length bs) + length bs

module _ (F : List Row) (w : Lawful 0 F) (s : List ℕ) where
  -- a varint that stands at the place q, and what stands behind it
  number_at : {A : Type 0} (q v : ℕ) (rest : List ℕ) (f : ℕ → ℕ → A) (z : A) → v < limit F → drop q s ≡ encode F v ++ rest
      → number F q s f z ≡ f v (q + size_of F v)
  unfolding number
  number_at q v rest f z h e = rw (e, read-encode F w v h rest)

  behind : (q v : ℕ) (rest : List ℕ) → v < limit F → drop q s ≡ encode F v ++ rest → drop (q + size_of F v) s ≡ rest
  behind q v rest h e = sym (drop-drop (size_of F v) q s) ∙ ap (drop (size_of F v)) e ∙ drop-encode F w v h rest

  behind-text : (q : ℕ) (bs rest : List ℕ) → length bs < limit F → drop q s ≡ enc_text F bs ++ rest → drop (q + size_text F bs) s ≡ rest
  unfolding enc_text
  behind-text q bs rest h e =
      let b : drop (q + size_of F (length bs)) s ≡ bs ++ rest = behind q (length bs) (bs ++ rest) h (e ∙ append_assoc (encode F (length bs)) bs rest) in
      let n : q + size_of F (length bs) + length bs ≡ q + size_text F bs = omega arith in
      ap (λ (m : ℕ). drop m s) (sym n) ∙ sym (drop-drop (length bs) (q + size_of F (length bs)) s) ∙ ap (drop (length bs)) b ∙ drop-append_seam bs rest

  text-at : (base q : ℕ) (bs rest : List ℕ) → length bs < limit F → drop q s ≡ enc_text F bs ++ rest
      → text_at F base q s ≡ Some (part (base + (q + size_of F (length bs))) (length bs), q + size_text F bs)
  unfolding text_at enc_text
  text-at base q bs rest h e =
      let m : ℕ = length bs in
      let d : drop q s ≡ encode F m ++ (bs ++ rest) = e ∙ append_assoc (encode F m) bs rest in
      let b : drop (q + size_of F m) s ≡ bs ++ rest = behind q m (bs ++ rest) h d in
      let l : m ≤ length s - (q + size_of F m) =
      omega (arith, length-drop (q + size_of F m) s, ap length b, length-append bs rest) in
      let n : q + size_of F m + m ≡ q + size_text F bs = omega arith in
      number_at q m (bs ++ rest) _ _ h d ∙ rw (le-leb _ _ l, n)

  marks-at : (q : ℕ) (m : Marks) (rest : List ℕ) → m.timescale < limit F → m.time < limit F → m.duration < limit F → m.id < limit F
      → drop q s ≡ encode F m.timescale ++ (encode F m.time ++ (encode F m.duration ++ (encode F m.id ++ rest)))
      → let n = q + size_of F m.timescale + size_of F m.time + size_of F m.duration + size_of F m.id in
      (marks_at F q s ≡ Some (m, n)) × (drop n s ≡ rest)
  unfolding marks_at
  marks-at q m rest h₁ h₂ h₃ h₄ e₁ =
      let e₂ = behind q m.timescale (encode F m.time ++ (encode F m.duration ++ (encode F m.id ++ rest))) h₁ e₁ in
      let e₃ = behind (q + size_of F m.timescale) m.time (encode F m.duration ++ (encode F m.id ++ rest)) h₂ e₂ in
      let e₄ = behind (q + size_of F m.timescale + size_of F m.time) m.duration (encode F m.id ++ rest) h₃ e₃ in (
        number_at q m.timescale _ _ _ h₁ e₁
            ∙ number_at (q + size_of F m.timescale) m.time _ _ _ h₂ e₂
            ∙ number_at (q + size_of F m.timescale + size_of F m.time) m.duration _ _ _ h₃ e₃
            ∙ number_at (q + size_of F m.timescale + size_of F m.time + size_of F m.duration) m.id _ _ _ h₄ e₄,
        behind (q + size_of F m.timescale + size_of F m.time + size_of F m.duration) m.id rest h₄ e₄,
      )

-- where the parts of an event that was written stand
module _ (F : List Row) (e : Event) where
  abbrev marks_of : Marks
  marks_of = record { timescale = e.timescale; time = e.time; duration = e.duration; id = e.id }

  abbrev second : ℕ
  second = 0 + size_text F e.scheme

  abbrev third : ℕ
  third = second + size_text F e.value

  abbrev fourth : ℕ
  fourth = third + size_of F e.timescale + size_of F e.time + size_of F e.duration + size_of F e.id

  abbrev size : ℕ
  size = fourth + size_text F e.message

  abbrev placed : ℕ → Record
  placed base =
      record_of
      (part (base + (0 + size_of F (length e.scheme))) (length e.scheme))
      (part (base + (second + size_of F (length e.value))) (length e.value))
      marks_of
      (part (base + (fourth + size_of F (length e.message))) (length e.message))

module _ (F : List Row) (w : Lawful 0 F) where
  -- the event that was written is read, with anything after it
  event-read : (base : ℕ) (e : Event) (rest : List ℕ) → Sayable F e
      → record_f F base (enc_event F e ++ rest) ≡ Some (placed F e base, size F e)
  unfolding record_f enc_event
  event-read base e rest h =
      let s : List ℕ = enc_event F e ++ rest in
      let r₄ : List ℕ = enc_text F e.message ++ rest in
      let r₃ : List ℕ = encode F e.timescale ++ (encode F e.time ++ (encode F e.duration ++ (encode F e.id ++ r₄))) in
      let r₂ : List ℕ = enc_text F e.value ++ r₃ in
      let d₁ : drop 0 s ≡ enc_text F e.scheme ++ r₂ = simp append_assoc in
      let d₂ : drop (second F e) s ≡ r₂ = behind-text F w s 0 e.scheme r₂ h.scheme d₁ in
      let d₃ : drop (third F e) s ≡ r₃ = behind-text F w s (second F e) e.value r₃ h.value d₂ in
      let m = marks-at F w s (third F e) (marks_of F e) r₄ h.timescale h.time h.duration h.id d₃ in
      rw (
        text-at F w s base 0 e.scheme r₂ h.scheme d₁,
        text-at F w s base (second F e) e.value r₃ h.value d₂,
        m.0,
        text-at F w s base (fourth F e) e.message rest h.message m.1,
      )

-- a part that stands between two others
between : (s pre mid post : List ℕ) (p l : ℕ) → s ≡ pre ++ (mid ++ post) → p ≡ length pre → l ≡ length mid → slice p (p + l) s ≡ mid
between s pre mid post p l e f g = rw (e, f, g, slice-between pre mid post)

module _ (F : List Row) (e : Event) (h : Sayable F e) where
  -- how many bytes an event takes
  size_is : size F e ≡ length (enc_event F e)
  unfolding enc_event enc_text
  size_is =
      simp length-append
      (omega (
        arith,
        length-encode F (length e.scheme) h.scheme,
        length-encode F (length e.value) h.value,
        length-encode F e.timescale h.timescale,
        length-encode F e.time h.time,
        length-encode F e.duration h.duration,
        length-encode F e.id h.id,
        length-encode F (length e.message) h.message,
      ))

  module _ (pre rest : List ℕ) where
    -- its strings and its message stand where they were read
    scheme-held : bytes_of (pre ++ (enc_event F e ++ rest)) (placed F e (length pre)).scheme ≡ e.scheme
    unfolding enc_event enc_text
    scheme-held =
        let n : ℕ = length e.scheme in
        let a : List ℕ = pre ++ encode F n in
        let b : List ℕ =
        enc_text F e.value
        ++ (encode F e.timescale ++ (encode F e.time ++ (encode F e.duration ++ (encode F e.id ++ (enc_text F e.message ++ rest))))) in
        let q : length pre + (0 + size_of F n) ≡ length a = simp length-append (omega (arith, length-encode F n h.scheme)) in
        between (pre ++ (enc_event F e ++ rest)) a e.scheme b (length pre + (0 + size_of F n)) n (simp append_assoc) q refl

    value-held : bytes_of (pre ++ (enc_event F e ++ rest)) (placed F e (length pre)).value ≡ e.value
    unfolding enc_event enc_text
    value-held =
        let n : ℕ = length e.value in
        let a : List ℕ = pre ++ (enc_text F e.scheme ++ encode F n) in
        let b : List ℕ =
        encode F e.timescale ++ (encode F e.time ++ (encode F e.duration ++ (encode F e.id ++ (enc_text F e.message ++ rest)))) in
        let q : length pre + (second F e + size_of F n) ≡ length a =
        simp length-append (omega (arith, length-encode F (length e.scheme) h.scheme, length-encode F n h.value)) in
        between (pre ++ (enc_event F e ++ rest)) a e.value b (length pre + (second F e + size_of F n)) n (simp append_assoc) q refl

    message-held : bytes_of (pre ++ (enc_event F e ++ rest)) (placed F e (length pre)).message ≡ e.message
    unfolding enc_event enc_text
    message-held =
        let n : ℕ = length e.message in
        let a : List ℕ =
        pre
        ++ (enc_text F e.scheme
        ++ (enc_text F e.value
        ++ (encode F e.timescale ++ (encode F e.time ++ (encode F e.duration ++ (encode F e.id ++ encode F n)))))) in
        let q : length pre + (fourth F e + size_of F n) ≡ length a =
        simp length-append
        (omega (
          arith,
          length-encode F (length e.scheme) h.scheme,
          length-encode F (length e.value) h.value,
          length-encode F e.timescale h.timescale,
          length-encode F e.time h.time,
          length-encode F e.duration h.duration,
          length-encode F e.id h.id,
          length-encode F n h.message,
        )) in
        between (pre ++ (enc_event F e ++ rest)) a e.message rest (length pre + (fourth F e + size_of F n)) n (simp append_assoc) q refl

    event-held : event_of (pre ++ (enc_event F e ++ rest)) (placed F e (length pre)) ≡ e
    unfolding event_of
    event-held =
        λ j.
        record {
          scheme = scheme-held j;
          value = value-held j;
          timescale = e.timescale;
          time = e.time;
          duration = e.duration;
          id = e.id;
          message = message-held j;
        }

unfoldable place_all : List Row → ℕ → List Event → List Record
place_all F base [] = []
place_all F base (e ∷ es) = placed F e base ∷ place_all F (base + length (enc_event F e)) es

run-written : (F : List Row) → Lawful 0 F → (base : ℕ) (es : List Event) → AllSayable F es
    → records_run F base (enc_events F es) ≡ series (place_all F base es) true
unfolding enc_events place_all
run-written F w base [] h = records-none F base [] refl
run-written F w base (e ∷ es) h =
    let n : size F e ≡ length (enc_event F e) = size_is F e h.0 in
    records-one F base (enc_event F e ++ enc_events F es) (placed F e base) (size F e) (event-read F w base e (enc_events F es) h.0)
    ∙ ap (before (placed F e base)) (rw (n, drop-append_seam) (run-written F w (base + length (enc_event F e)) es h.1))

first-is : (F : List Row) (pre post : List ℕ) (e : Event) (es : List Event) → Sayable F e
    → event_of (pre ++ (enc_event F e ++ enc_events F es ++ post)) (placed F e (length pre)) ≡ e
first-is F pre post e es h = rw append_assoc (event-held F e h pre (enc_events F es ++ post))

others-are : (F : List Row) (pre post : List ℕ) (e : Event) (es : List Event)
    → map (event_of (pre ++ enc_event F e ++ (enc_events F es ++ post))) (place_all F (length (pre ++ enc_event F e)) es) ≡ es
    → map (event_of (pre ++ (enc_event F e ++ enc_events F es ++ post))) (place_all F (length pre + length (enc_event F e)) es) ≡ es
others-are F pre post e es h =
    let q : pre ++ (enc_event F e ++ enc_events F es ++ post) ≡ pre ++ enc_event F e ++ (enc_events F es ++ post) = simp append_assoc in
    rw (q, ← length-append pre (enc_event F e)) h

held-written : (F : List Row) (pre post : List ℕ) (es : List Event) → AllSayable F es
    → map (event_of (pre ++ (enc_events F es ++ post))) (place_all F (length pre) es) ≡ es
unfolding enc_events place_all
held-written F pre post [] h = refl
held-written F pre post (e ∷ es) h =
    λ j. first-is F pre post e es h.0 j ∷ others-are F pre post e es (held-written F (pre ++ enc_event F e) post es h.1) j

-- a list that was written is read as the events that were written
pub events-written : (F : List Row) → Lawful 0 F → (es : List Event) → AllSayable F es → events_f F (enc_events F es) ≡ Some es
unfolding events_f records_f wholly
events-written F w es h =
    rw (run-written F w 0 es h) (ap Some (rw append-nil at (held-written F [] [] es h)))

-- and it says its bytes
pub body-events : (F : List Row) → Lawful 0 F → (es : List Event) → AllSayable F es → body F 25 (enc_events F es) ≡ Some (enc_events F es)
unfolding body records_f wholly
body-events F w es h = rw (run-written F w 0 es h)

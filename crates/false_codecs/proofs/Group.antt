-- What any codec that meets demand 2 from fresh tables on does at a group's first and second object: the example at 96,000, and then at 97,024 or once more.
-- Assumes nothing.
use Prim.Native.Nat.{ℕ, ◌-◌}
use native.Mathlib.Omega.{arith}
use mathlib.Core.Path.{◌≡◌, refl, sym, ◌∙◌, ap, subst}
use mathlib.Core.Bool.{true, false}
use mathlib.Core.List.{List, [], ◌∷◌}
use lib.ListN.{length, get_or, drop, replicate}
use lib.Seq.{get_or-drop}
use Rattle.laws.specs.Tests.{all_le, ◌and◌}
use Rattle.laws.specs.Gate.{gate}
use Rattle.laws.specs.Ladder.{◌else◌, ladder}
use Rattle.laws.proofs.LadderLaws.{hold-append}
use Rattle.track.specs.Track.{narrow, lawful as lawful_track}
use Rattle.wire.specs.declared.form.Form.TheVariants.{Rfc9000}
use Rattle.slots.specs.declared.lawful.Side.{Side}
use Rattle.slots.specs.declared.lawful.Side.TheVariants.{Encoder, Receiver}
use Rattle.share_words.specs.Share.{accepted_at, held_at, share_len}
use Rattle.slots.specs.Share.{is_open, lawful, opened}
use Rattle.slots.specs.Table.{on_share}
use Rattle.slots.specs.Calls.{opening}
use Rattle.slots.proofs.StaysLawful.{opened-long, fresh-lawful, opened-lawful}
use Rattle.reference.specs.Kept.{kept_words}
use Rattle.cmaf_read_chunk.specs.Accepted.{accept_rungs}
use Rattle.encoder.specs.Object.{fits_ok, front}
use Rattle.encoder.specs.Encode.{kept}
use Rattle.encoder.proofs.Theorems.{encode-stays-lawful}
use Rattle.receiver.specs.Receive.{chunk}
use Rattle.cmaf_read_facts.specs.Given.{F}
use Rattle.demands.specs.Codec.{Codec}
use Rattle.demands.specs.Two.{Send, object, Sends, Roomy, Becomes, Call, carry, sent, got, RoundTrip, AllMet, opened_at, DemandTwoFresh}
use Rattle.demands.proofs.Encoded as Ours
use Rattle.demands.proofs.Shares.{opened-is}
use Rattle.false_codecs.specs.Example.{parameters, example}
use Rattle.false_codecs.proofs.Computed.{Computed, with, early, late, fits}

-- ---- the example on a share

pub one : all_le 255 (1 ∷ []) ≡ true
unfolding all_le ◌and◌
one = refl

pub five : all_le 255 (5 ∷ []) ≡ true
unfolding all_le ◌and◌
five = refl

-- with just the room that it takes
abbrev pub call : ℕ → ℕ → List ℕ → Send
call y x s = record { wish = true; chunk = example y x; room = front F s (example y x) true }

abbrev pub head : ℕ → ℕ → List ℕ → List ℕ → List ℕ
head y x s s' = chunk F (object (call y x s) s) s'

pub sends : {y time : ℕ} → Computed y time → (x : ℕ) (rest : List ℕ) → lawful Encoder (with rest) ≡ true → Sends (call y x (with rest)) (with rest)
unfolding is_open
sends {y} q x rest l =
    record {
      hold = (
        l,
        (
          refl,
          hold-append (accept_rungs F (narrow parameters) (example y x)) ((fits_ok F (with rest) (example y x) true else 9) ∷ []) (q.accepts x) (fits q true x rest, tt),
        ),
      );
      room = omega arith;
    }

-- ---- first in a group

-- the share that was just opened
abbrev pub s₀ : List ℕ
s₀ = with (replicate (share_len - accepted_at) 0)

parameters-right : lawful_track parameters ≡ true
unfolding lawful_track ◌and◌
parameters-right = refl

opens : (side : Side) → opened_at side parameters 0 ≡ s₀
unfolding opening on_share ladder gate is_open opened
opens side = opened-is side parameters 0 (omega arith) ∙ rw (fresh-lawful side, parameters-right)

opened-right : lawful Encoder s₀ ≡ true
unfolding opened
opened-right = opened-lawful Encoder parameters parameters-right

long : length s₀ ≡ share_len
unfolding opened
long = opened-long parameters

abbrev pub first : ℕ → Send
first x = call 0x77 x s₀

abbrev first_head : List ℕ
first_head = head 0x77 1 s₀ s₀

pub first-sends : (x : ℕ) → Sends (first x) s₀
first-sends x = sends early x _ opened-right

module _ (C : Codec) (m : DemandTwoFresh C) where
  run : (calls : List Call) → AllMet C false calls s₀ s₀
  run calls =
      subst (λ (z : List ℕ). AllMet C false calls z s₀) (opens Encoder)
      (subst (λ (z : List ℕ). AllMet C false calls (opened_at Encoder parameters 0) z) (opens Receiver) (m parameters 0 0 (omega arith) (omega arith) calls))

  pub first-becomes : (x : ℕ) → all_le 255 (x ∷ []) ≡ true → Becomes (first x) s₀ (sent C (first x) s₀)
  first-becomes x low = ((run (carry (first x) [] ∷ []) (early.bytes x low)).0 (first-sends x)).0

  -- ---- second

  -- the shares that the codec leaves
  abbrev pub s₁ : List ℕ
  s₁ = (sent C (first 1) s₀).words

  abbrev pub s₁' : List ℕ
  s₁' = (got C (first 1) s₀ s₀ first_head).words

  -- the first, and any chunk after it
  pub after : (p : Send) (room : List ℕ) → all_le 255 p.chunk ≡ true → Sends p s₁ → Roomy p s₁ s₁' room
      → RoundTrip C (first 1) s₀ s₀ first_head × Becomes p s₁ (sent C p s₁) × RoundTrip C p s₁ s₁' room
  after p room low h r =
      let begun = (((run (carry (first 1) (first_head ∷ []) ∷ carry p (room ∷ []) ∷ []) (early.bytes 1 one)).0 (first-sends 1)).1 refl).0 (omega arith) in
      let then = (begun.1 low).0 h in
      (begun.0, then.0, ((then.1 refl).0 r).0)

  -- the encoder's share has the parameters still, and a reference
  rest : List ℕ
  rest = drop accepted_at (kept F true (example 0x77 1) (first 1).room s₀)

  after-words : s₁ ≡ with rest
  unfolding kept kept_words rest
  after-words = (first-becomes 1 one).words

  after-lawful : lawful Encoder (with rest) ≡ true
  after-lawful =
      subst (λ (z : List ℕ). lawful Encoder z ≡ true) ((Ours.becomes (first 1) s₀ (first-sends 1)).words ∙ sym (first-becomes 1 one).words ∙ after-words)
      (encode-stays-lawful Rfc9000 true (example 0x77 1) (first 1).room s₀ (early.bytes 1 one) long opened-right)

  pub held : get_or s₁ held_at 0 ≡ 1
  unfolding kept kept_words rest
  held = ap (λ (l : List ℕ). get_or l held_at 0) after-words

  pub second-sends : {y time : ℕ} → Computed y time → (x : ℕ) → Sends (call y x s₁) s₁
  second-sends {y} q x = subst (λ (z : List ℕ). Sends (call y x z) z) (sym after-words) (sends q x rest after-lawful)

  -- the example at 97,024
  abbrev pub next : ℕ → Send
  next x = call 0x7b x s₁

  pub next-done : (x : ℕ) → all_le 255 (x ∷ []) ≡ true → RoundTrip C (first 1) s₀ s₀ first_head × Becomes (next x) s₁ (sent C (next x) s₁)
      × RoundTrip C (next x) s₁ s₁' (head 0x7b x s₁ s₁')
  next-done x low = after (next x) (head 0x7b x s₁ s₁') (late.bytes x low) (second-sends late x) (omega arith)

  -- the receiver's share has a reference too: it is the encoder's
  pub held' : get_or s₁' held_at 0 ≡ 1
  held' =
      sym (get_or-drop held_at s₁' 0 0) ∙ ap (λ (l : List ℕ). get_or l 0 0) (next-done 1 one).0.reference ∙ get_or-drop held_at s₁ 0 0 ∙ held

-- The events that id 25 lists, as values, and the bytes of such a list.
use Rattle.std.specs.Prelude.{ℕ, ◌<◌, List, [], ◌∷◌, ◌++◌, length}
use Rattle.wire.specs.declared.form.Row.{Row}
use Rattle.wire.specs.Form.{limit}
use Rattle.wire.specs.Varint.{encode}

-- ==== The rules

-- an event as it stands on the wire: its strings, numbers and message
pub record Event : Type 0 where
  pub scheme : List ℕ
  pub value : List ℕ
  pub timescale : ℕ
  pub time : ℕ
  pub duration : ℕ
  pub id : ℕ
  pub message : List ℕ

module _ (F : List Row) where
  -- "varint length + bytes"
  unfoldable pub enc_text : List ℕ → List ℕ
  enc_text bs = encode F (length bs) ++ bs

  unfoldable pub enc_event : Event → List ℕ
  enc_event e =
      enc_text e.scheme
      ++ (enc_text e.value
      ++ (encode F e.timescale ++ (encode F e.time ++ (encode F e.duration ++ (encode F e.id ++ enc_text e.message)))))

  unfoldable pub enc_events : List Event → List ℕ
  enc_events [] = []
  enc_events (e ∷ es) = enc_event e ++ enc_events es

-- ==== What only proofs need

module _ (F : List Row) where
  -- an event that the form can hold
  pub record Sayable (e : Event) : Type 0 where
    pub scheme : length e.scheme < limit F
    pub value : length e.value < limit F
    pub timescale : e.timescale < limit F
    pub time : e.time < limit F
    pub duration : e.duration < limit F
    pub id : e.id < limit F
    pub message : length e.message < limit F

  abbrev pub AllSayable : List Event → Type 0
  AllSayable [] = Unit {0}
  AllSayable (e ∷ es) = Sayable e × AllSayable es

-- Demand 1: each number is answered if and only if its rule is broken and none before it. Assumes nothing.
use Prim.Native.Nat.{ℕ}
use mathlib.Core.Path.{◌≡◌, refl, sym, ◌∙◌, subst}
use mathlib.Core.Bool.{true}
use mathlib.Core.List.{List, ◌∷◌, map, Memᴰ}
use Rattle.laws.specs.Tests.{◌and◌}
use Rattle.laws.specs.Ladder.{Rung, Given}
use Rattle.laws.proofs.LadderLaws.{given, given-one, given-known, nonzero, numbered, all_hold, climbed}
use Rattle.slots.proofs.StaysLawful.{open-exactly, close-exactly, group-exactly}
use Rattle.cmaf_read_chunk.specs.Accepted.{late_rungs, accept_rungs}
use Rattle.locmaf_read_set.specs.Read.{field_rungs, set_rungs}
use Rattle.encoder.specs.Encode.{last_rungs, chunk_rungs, encode_rungs}
use Rattle.encoder.proofs.Theorems.{encode-exactly}
use Rattle.receiver.specs.Object.{head_rungs}
use Rattle.receiver.specs.Receive.{split_rungs, value_rungs, receive_rungs}
use Rattle.receiver.proofs.Theorems.{receive-exactly}
use Rattle.cmaf_read_facts.specs.Given.{F}
use Rattle.demands.specs.One.{Call, opens, closes, starts, encodes, receives, gives, rules, order, ExactlyWhen}

-- the number that a ladder gives, none of whose rungs has the number 0
exactly-when : (k : ℕ) (numbers : List ℕ) (rs : List Rung) → Given k rs → map (λ (r : Rung). r.number) rs ≡ numbers → nonzero rs ≡ true
    → ExactlyWhen k numbers rs
exactly-when k numbers rs g e n =
    let is = given-one rs k _ g (given rs) in
    record {
      in-order = e;
      known = subst (λ (l : List ℕ). Memᴰ k (0 ∷ l)) e (given-known rs k g);
      done-only = λ z. all_hold rs (numbered rs n) (sym is ∙ z);
      done-if = λ h. is ∙ climbed (λ m. m) 0 rs h;
      given-only = λ m z. subst (λ (j : ℕ). Given j rs) z g;
      given-if = λ m h. given-one rs k m g h;
    }

pub exactly : (a : Call) (slot : ℕ) (t : List ℕ) → ExactlyWhen (gives a slot t).answer.number (order a) (rules a slot t)
unfolding nonzero ◌and◌ encode_rungs chunk_rungs accept_rungs late_rungs last_rungs receive_rungs head_rungs split_rungs set_rungs field_rungs value_rungs
exactly (opens side a) slot t = exactly-when _ _ _ (open-exactly side a t slot) refl refl
exactly (closes side) slot t = exactly-when _ _ _ (close-exactly side t slot) refl refl
exactly (starts side) slot t = exactly-when _ _ _ (group-exactly side t slot) refl refl
exactly (encodes wish c output) slot t = exactly-when _ _ _ (encode-exactly F wish c output t slot) refl refl
exactly (receives o output) slot t = exactly-when _ _ _ (receive-exactly F o output t slot) refl refl

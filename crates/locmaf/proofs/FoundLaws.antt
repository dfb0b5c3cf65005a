-- C finds the payload by its length. Assumes nothing.
use Prim.Native.Nat.{ℕ}
use mathlib.Core.Path.{refl, sym, ap}
use mathlib.Core.List.{List, []}
use lib.ListN.{length}
use lib.Seq.{drop-length}
use Rattle.laws.proofs.SliceLaws.{drop-last}
use Rattle.slots.specs.Table.{Out, out, share_at}
use Rattle.slots.proofs.TableLaws.{by_cases}
use Rattle.answers.specs.Took.{Took, refused}
use Rattle.encoder.specs.Encode.{encoding}
use Rattle.encoder.proofs.Theorems.{encode-last, encode-refuses}
use Rattle.receiver.specs.Receive.{receiving}
use Rattle.receiver.proofs.Theorems.{receive-last, receive-refuses}
use Rattle.locmaf.specs.Found.{Found, EncodeFound, ReceiveFound}

-- a table or a slot that is refused
none : (lent output t : List ℕ) (k : ℕ) → Found lent (out (refused output k) t)
none lent output t k =
    record { last = drop-last (length lent) lent [] (sym (drop-length lent)); no_front = λ _. refl; no_payload = λ _. refl }

pub encode-found : EncodeFound
encode-found F wish c output t slot =
    by_cases (refused output) (encoding F wish c output) t slot (λ (x : Out Took). Found c x) (none c output t 18) (none c output t 1)
    (λ l h.
    let s : List ℕ = share_at t slot in
    record {
      last = encode-last F wish c output s;
      no_front = λ n. (encode-refuses F wish c output s n).front;
      no_payload = λ n. ap length (encode-refuses F wish c output s n).payload;
    })

pub receive-found : ReceiveFound
receive-found F o output t slot =
    by_cases (refused output) (receiving F o output) t slot (λ (x : Out Took). Found o x) (none o output t 18) (none o output t 1)
    (λ l h.
    let s : List ℕ = share_at t slot in
    record {
      last = receive-last F o output s;
      no_front = λ n. (receive-refuses F o output s n).front;
      no_payload = λ n. ap length (receive-refuses F o output s n).payload;
    })

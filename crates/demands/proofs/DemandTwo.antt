-- Demand 2 of our codec: for one object, for runs of any calls, and from fresh tables on. Assumes nothing.
use Prim.Native.Nat.{ℕ}
use mathlib.Core.Path.{◌≡◌, refl, sym, subst}
use mathlib.Core.Bool.{Bool, true, false, ◌&&◌}
use mathlib.Core.List.{List, [], ◌∷◌}
use Rattle.laws.specs.Tests.{all_le}
use Rattle.slots.specs.declared.lawful.Side.TheVariants.{Encoder, Receiver}
use Rattle.slots.specs.Calls.{grouping}
use Rattle.demands.specs.Codec.{Codec, ours}
use Rattle.demands.specs.Two.{Send, is_delta, Sends, Beside, Paired, Call, start, carry, sent, got, Tried, AllMet, DemandTwo, DemandTwoRuns, DemandTwoFresh}
use Rattle.demands.proofs.Encoded.{becomes, unsent}
use Rattle.demands.proofs.Trips.{trip}
use Rattle.demands.proofs.Shares.{group-paired, opened-paired}
use Rattle.demands.proofs.Readings.{Reads, paired-reads, full-reads}

-- for one object
pub demand-two : DemandTwo ours
demand-two =
    record {
      becomes = λ p s l low h. becomes p s h;
      refuses = λ p s l low n. unsent p s n;
      reads = λ o room s l low. refl;
      trips = λ p s s' room pair low h roomy. trip p s s' room pair low h roomy;
    }

-- ---- runs

-- an object given with each room in turn
tried : (p : Send) (s s' : List ℕ) → Reads p s s' → (rooms : List (List ℕ)) {then : List ℕ → Type 0} {lost : Type 0}
    → ((next' : List ℕ) → Paired (sent ours p s).words next' → then next') → lost → Tried ours p s s' rooms then lost
tried p s s' r [] go lost = lost
tried p s s' r (room ∷ rooms) go lost = (
  λ roomy. (r.trips room roomy, go _ (r.pairs room roomy)),
  λ n.
      let short = r.shorts room n in
      (short, tried p s (got ours p s s' room).words (subst (Reads p s) (sym short.words) r) rooms go lost),
)

-- what is known of the two shares
abbrev Standing : Bool → List ℕ → List ℕ → Type 0
Standing false s s' = Paired s s'
Standing true s s' = Beside s s'

beside-so : (behind : Bool) {s s' : List ℕ} → Standing behind s s' → Beside s s'
beside-so false k = k.beside
beside-so true k = k

reads_so : (behind : Bool) (p : Send) (s s' : List ℕ) → Standing behind s s' → all_le 255 p.chunk ≡ true → Sends p s → (behind && is_delta p s) ≡ false
    → Reads p s s'
reads_so false p s s' k low h q = paired-reads p s s' low h k
reads_so true p s s' k low h q = full-reads p s s' low h k q

all-met : (behind : Bool) (calls : List Call) (s s' : List ℕ) → Standing behind s s' → AllMet ours behind calls s s'
all-met behind [] s s' k = tt
all-met behind (start ∷ calls) s s' k =
    all-met false calls (grouping Encoder s).words (grouping Receiver s').words (group-paired s s' (beside-so behind k))
all-met behind (carry p rooms ∷ calls) s s' k =
    λ low. (
      λ h. (
        becomes p s h,
        λ q. tried p s s' (reads_so behind p s s' k low h q) rooms (λ next' pair. all-met false calls _ next' pair) (λ any b. all-met true calls _ any b),
        λ q any b. all-met true calls _ any b,
      ),
      λ n. (unsent p s n, all-met behind calls _ s' (subst (λ (z : List ℕ). Standing behind z s') (sym (unsent p s n).words) k)),
    )

pub demand-two-runs : DemandTwoRuns ours
demand-two-runs calls s s' pair = all-met false calls s s' pair

-- ---- without a word on shares: any calls on slots of fresh tables that both sides opened alike

pub from-fresh : (C : Codec) → DemandTwoRuns C → DemandTwoFresh C
from-fresh C m a i j h k calls = m calls _ _ (opened-paired a i j h k)

pub demand-two-fresh : DemandTwoFresh ours
demand-two-fresh = from-fresh ours demand-two-runs

-- Things that stand one behind the other in a list, each taken off the front: varints, tuples and records alike.
-- 01: "Records are taken off the front until no bytes remain."
-- ==== The rules
use Rattle.std.specs.Prelude.{ℕ, zero, suc, ◌-◌, Bool, true, false, cond, List, [], ◌∷◌, Option, Some, None}

-- what stands at the front and how many elements it takes, or that the list ends too early for it
pub data Front (A : Type 0) : Type 0 where
  off : A → ℕ → Front A
  cut : Front A

abbrev pub on_front : {A B : Type 0} → Front A → (A → ℕ → B) → B → B
on_front (off x k) f z = f x k
on_front cut f z = z

-- what was read and the place after it, or else
abbrev pub on_read : {A B : Type 0} → Option (A × ℕ) → (A → ℕ → B) → B → B
on_read (Some (x, next)) f z = f x next
on_read None f z = z

-- the things that were taken off, and whether nothing remains behind them
pub record Series (A : Type 0) : Type 0 where
  pub items : List A
  pub whole : Bool

abbrev pub series : {A : Type 0} → List A → Bool → Series A
series xs w = record { items = xs; whole = w }

abbrev pub before : {A : Type 0} → A → Series A → Series A
before x r = series (x ∷ r.items) r.whole

-- A front is asked with the place where the list starts.
module _ {A : Type 0} (front : ℕ → List ℕ → Front A) where
  -- what a list holds that starts at the place at, its first k elements passed over
  unfoldable pub taken : ℕ → ℕ → List ℕ → Series A
  taken k at [] = series [] true
  taken (suc k) at (b ∷ s) = taken k (suc at) s
  taken zero at (b ∷ s) = on_front (front at (b ∷ s)) (λ x k. before x (taken (k - 1) (suc at) s)) (series [] false)

-- all the things, where nothing remains behind them
unfoldable pub wholly : {A : Type 0} → Series A → Option (List A)
wholly r = cond r.whole (Some r.items) None

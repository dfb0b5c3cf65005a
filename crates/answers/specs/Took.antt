-- What a call for a chunk or an object hands back.
use Rattle.std.specs.Prelude.{ℕ, ◌≤◌, ◌≡◌, List, [], length, drop}

-- ==== The rules

-- what a call hands back beside the table: the number, the front's length, the payload, and the output
pub record Took : Type 0 where
  pub number : ℕ
  pub front : ℕ
  pub payload : List ℕ
  pub output : List ℕ

abbrev pub took : ℕ → ℕ → List ℕ → List ℕ → Took
took number front payload output = record { number = number; front = front; payload = payload; output = output }

-- 01: "All but 0 write nothing to the output and hand back length 0 and an empty payload part"
abbrev pub refused : List ℕ → ℕ → Took
refused output k = took k 0 [] output

-- ==== What is shown of the rules

-- 01: "Done reports the front's length; bytes past it stay."
pub record PastStays (output : List ℕ) (a : Took) : Type 0 where
  pub room : a.front ≤ length output
  pub long : length a.output ≡ length output
  pub past : drop a.front a.output ≡ drop a.front output

-- What a `return` behind some tests shows of a row of gates. Assumes nothing.
use mathlib.Core.Path.{◌≡◌, sym, ◌∙◌}
use mathlib.Core.Bool.{Bool, true, false, not}
use borrow.Author.Tests.{not-true, not-false}
use Rattle.laws.specs.Gate.{gate}

-- the test failed: the refusal
pub stop : {A : Type 0} {test : Bool} {refusal : A} (rest : A) → test ≡ false → refusal ≡ gate test refusal rest
unfolding gate
stop rest e = rw e

-- the test passed: whatever the rest is
pub pass : {A : Type 0} {test : Bool} (refusal : A) {o rest : A} → test ≡ true → o ≡ rest → o ≡ gate test refusal rest
unfolding gate
pass refusal e h = rw e h

-- of a test `!f(..)` in code, with what f ensures of its result: taken, and left
pub failed : {a b : Bool} → a ≡ b → not a ≡ true → b ≡ false
failed e t = sym e ∙ not-true _ t

pub held : {a b : Bool} → a ≡ b → not a ≡ false → b ≡ true
held e t = sym e ∙ not-false _ t

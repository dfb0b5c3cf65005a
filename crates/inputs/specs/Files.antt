-- A track's files.
use Rattle.std.specs.Prelude.{ℕ, ◌≡◌, ◌≤◌, List, [], ◌∷◌, ◌++◌, length, nat_le, if◌then◌else◌}
use Rattle.std.specs.Str.Parse.{IsNumeral, digits_value}
use Rattle.inputs.specs.Numbers.{first_word}

-- the path of a file in a folder, with a slash between; no bytes where it would have more than so many
abbrev pub path_in : ℕ → List ℕ → List ℕ → List ℕ
path_in most folder name = let path = folder ++ (47 ∷ name) in if nat_le (length path) most then path else []

-- the line's first word is the number n, and a chunk may have so many bytes
abbrev pub IsLengthOf : List ℕ → ℕ → Type 0
IsLengthOf line n = IsNumeral 10 (first_word line) × (digits_value 10 (first_word line) ≡ n) × (1 ≤ n) × (n ≤ 262144)

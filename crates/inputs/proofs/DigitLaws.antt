-- Texts of decimal digits.
use Rattle.std.proofs.Common.{◌≡◌, ℕ, ◌+◌, Bool, true, List, [], ◌∷◌, refl, sym, ◌∙◌, ap, ◌&&◌}
use Rattle.std.specs.Char.{is_ascii_digit}
use Rattle.std.specs.List.{list_all}
use Rattle.std.specs.Str.{all_ascii_digits, IsUtf8}
use Rattle.std.specs.Str.Parse.{AllDigits, digits_value}
use Rattle.std.proofs.lemmas.Str.{IsUtf8-from_ascii}
use Rattle.std.proofs.lemmas.Str.Parse.{IsNumeralModel, numerals_by_value, tells_all_ascii_digits}
use Rattle.std.proofs.lemmas.Fmt.{IsAscii-from_digits}

own : IsNumeralModel (λ ds. all_ascii_digits ds ≡ true) (digits_value 10)
own = numerals_by_value _ tells_all_ascii_digits

list_all-is_ascii_digit : (ds : List ℕ) → list_all (λ b. is_ascii_digit b) ds ≡ all_ascii_digits ds
list_all-is_ascii_digit [] = refl
list_all-is_ascii_digit (d ∷ ds) = ap (λ r. is_ascii_digit d && r) (list_all-is_ascii_digit ds)

-- each byte of a text of digits passes the test
pub list_all-digits : (ds : List ℕ) → AllDigits 10 ds → list_all (λ b. is_ascii_digit b) ds ≡ true
list_all-digits ds h = list_all-is_ascii_digit ds ∙ own.from ds h

pub IsUtf8-digits : (ds : List ℕ) → AllDigits 10 ds → IsUtf8 ds
IsUtf8-digits ds h = IsUtf8-from_ascii ds (IsAscii-from_digits ds h)

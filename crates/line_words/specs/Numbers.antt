-- Numbers in words.
use Rattle.std.specs.Prelude.{ℕ, Bool, ◌&&◌, nat_lt, nat_le, if◌then◌else◌, List, length, Option, Some, None}
use Rattle.std.specs.Char.{digit_value}
use Rattle.std.specs.List.{list_all}
use Rattle.std.specs.Str.Parse.{digits_value}

-- true if the bytes are one or more digits in this radix, and nothing else (this project)
abbrev pub is_numeral : ℕ → List ℕ → Bool
is_numeral radix word = nat_lt 0 (length word) && list_all (λ c. nat_lt (digit_value c) radix) word

-- the number in a word in this radix, if it is at most `most`; leading zeros are allowed, and there is no sign (this project)
abbrev pub number_in : ℕ → ℕ → List ℕ → Option ℕ
number_in radix most word =
    if is_numeral radix word && nat_le (digits_value radix word) most then Some (digits_value radix word) else None

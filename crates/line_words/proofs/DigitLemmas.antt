-- Numbers in words, digit by digit.
use Rattle.std.proofs.Common.{◌≡◌, ℕ, ◌+◌, ◌*◌, ◌<◌, ◌≤◌, ◌&&◌, if◌then◌else◌, ltb, leb, true, false, List, [], ◌∷◌, length, drop, get_or, suc, Option, Some, None, refl, sym, ap, subst, ◌∙◌, arith, add-one, drop-cons}
use Rattle.std.proofs.Math.Nat.{mul-le-mul_left}
use Rattle.std.proofs.lemmas.Bool.{lt-ltb, le-ltb, le-leb, lt-leb}
use Rattle.std.specs.Char.{digit_value}
use Rattle.std.specs.List.{list_all}
use Rattle.std.specs.Str.Parse.{digits_value_after}
use Rattle.line_words.specs.Numbers.{number_in}

-- the value of a number after these digits are appended to it
abbrev pub number_after : ℕ → ℕ → ℕ → List ℕ → Option ℕ
number_after radix most number digits =
    if list_all (λ c. ltb (digit_value c) radix) digits && leb (digits_value_after radix number digits) most then Some (digits_value_after radix number digits) else None

-- a word that isn't empty has the value of its digits
pub starts : (radix most : ℕ) (word : List ℕ) → 0 < length word → number_in radix most word ≡ number_after radix most 0 word
starts radix most word some = rw (lt-ltb 0 (length word) some) refl

-- an empty word has no value
pub empty_is_none : (radix most : ℕ) (word : List ℕ) → length word ≡ 0 → number_in radix most word ≡ None
empty_is_none radix most word none = rw none refl

-- if the next byte is a digit, it is appended to the number, and the rest of the digits follow
pub goes_on : (radix most number c : ℕ) (digits : List ℕ) → digit_value c < radix
    → number_after radix most number (c ∷ digits) ≡ number_after radix most (number * radix + digit_value c) digits
goes_on radix most number c digits is = rw (lt-ltb (digit_value c) radix is) refl

-- if the next byte isn't a digit, the word has no value
pub no_digit : (radix most number c : ℕ) (digits : List ℕ) → radix ≤ digit_value c → number_after radix most number (c ∷ digits) ≡ None
no_digit radix most number c digits isnt = rw (le-ltb (digit_value c) radix isnt) refl

-- a number doesn't get smaller when digits are appended
grows : (radix number : ℕ) (digits : List ℕ) → 1 ≤ radix → number ≤ digits_value_after radix number digits
grows radix number [] least = omega arith
grows radix number (c ∷ digits) least =
    let times : number * 1 ≤ number * radix = mul-le-mul_left number least in
    let more : number * radix + digit_value c ≤ digits_value_after radix (number * radix + digit_value c) digits = grows radix (number * radix + digit_value c) digits least in
    omega (arith, times, more)

-- if the number is already greater than `most`, the word has no value
pub too_great : (radix most number : ℕ) (digits : List ℕ) → 1 ≤ radix → most < number → number_after radix most number digits ≡ None
too_great radix most number digits least above =
    let more : most < digits_value_after radix number digits = omega (arith, grows radix number digits least) in
    elim (list_all (λ c. ltb (digit_value c) radix) digits) as
    (λ b. (if b && leb (digits_value_after radix number digits) most then Some (digits_value_after radix number digits) else None) ≡ None)
    [ true ↦ rw (lt-leb (digits_value_after radix number digits) most more) refl | false ↦ refl ]

-- if no digits are left and the number is at most `most`, it is the value
pub ends : (radix most number : ℕ) → number ≤ most → number_after radix most number [] ≡ Some number
ends radix most number below = rw (le-leb number most below) refl

module _ (radix most number : ℕ) (word : List ℕ) (at : ℕ) (within : at < length word)
    (so_far : number_in radix most word ≡ number_after radix most number (drop at word)) (digit : ℕ) (read : digit ≡ digit_value (get_or word at 0)) where
  -- if the byte at an index is a digit, it is appended to the number of the digits before it
  pub reads_digit : digit < radix → number_in radix most word ≡ number_after radix most (number * radix + digit) (drop (at + 1) word)
  reads_digit is =
      so_far ∙ ap (number_after radix most number) (drop-cons word at 0 within)
      ∙ goes_on radix most number (get_or word at 0) (drop (suc at) word) (subst (λ n. n < radix) read is)
      ∙ ap (λ n. number_after radix most (number * radix + n) (drop (suc at) word)) (sym read)
      ∙ ap (λ n. number_after radix most (number * radix + digit) (drop n word)) (sym (add-one at))

  -- if the byte at an index isn't a digit, the word has no value
  pub reads_no_digit : (digit < radix → ⊥) → number_in radix most word ≡ None
  reads_no_digit isnt =
      let least : radix ≤ digit = omega (arith, isnt) in
      so_far ∙ ap (number_after radix most number) (drop-cons word at 0 within)
      ∙ no_digit radix most number (get_or word at 0) (drop (suc at) word) (subst (λ n. radix ≤ n) read least)

  -- if the digit at an index makes the number greater than `most`, the word has no value
  pub reads_too_much : 1 ≤ radix → digit < radix → (number * radix + digit ≤ most → ⊥) → number_in radix most word ≡ None
  reads_too_much least is above =
      let greater : most < number * radix + digit = omega (arith, above) in
      reads_digit is ∙ too_great radix most (number * radix + digit) (drop (at + 1) word) least greater

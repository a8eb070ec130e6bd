-- Writing decimal digits, the last one after the others.
use Rattle.std.proofs.Common.{◌≡◌, ℕ, ◌+◌, ◌/◌, ◌%◌, ◌^◌, ◌<◌, ◌≤◌, List, [], ◌∷◌, ◌++◌, sym, ap, ◌∙◌, append_assoc, arith}
use Rattle.std.specs.Fmt.{decimal}
use Rattle.std.proofs.lemmas.Fmt.{decimal_digit, decimal_step}

-- the digits of `n` / 10 followed by the last digit of `n` are the digits of `n`
pub digit_more : (old mid new : List ℕ) (n : ℕ) → n < 2 ^ 64 → 10 ≤ n → mid ≡ old ++ decimal (n / 10) → new ≡ mid ++ (48 + n % 10) ∷ []
    → new ≡ old ++ decimal n
digit_more old mid new n fits high front last =
    last ∙ (ap (λ xs. xs ++ (48 + n % 10) ∷ []) front
    ∙ (append_assoc old (decimal (n / 10)) ((48 + n % 10) ∷ []) ∙ ap (λ xs. old ++ xs) (sym (decimal_step n high fits))))

-- a number below 10 is written as its only digit
pub digit_alone : (old new : List ℕ) (n : ℕ) → n < 10 → new ≡ old ++ (48 + n % 10) ∷ [] → new ≡ old ++ decimal n
digit_alone old new n low last =
    let same : 48 + n % 10 ≡ 48 + n = omega (arith, low) in
    last ∙ ap (λ xs. old ++ xs) (ap (λ d. d ∷ []) same ∙ sym (decimal_digit n low))

-- The words after the first.
use Rattle.std.proofs.Common.{◌≡◌, ℕ, zero, suc, ◌+◌, ◌==◌, true, false, List, [], ◌∷◌, ◌++◌, length, refl, ap, sym, arith, set}
use Rattle.std.proofs.lemmas.Bool.Decides.{nat_tests}
use prog.Atomic.{either}
use Rattle.logbook.specs.Pages.{Cell}
use Rattle.vol_views.specs.LogRule.{words}

-- there are `n` + `m` words
pub words_length : (n m : ℕ) → length (words n m) ≡ n + m
words_length zero zero = refl
words_length zero (suc m) = let rest = words_length zero m in omega (arith, rest)
words_length (suc n) m = let rest = words_length n m in omega (arith, rest)

-- writing the first word that pens may write makes it a word that an entry took
pub word_set : (n m : ℕ) → set (words n (suc m)) n (0, true) ≡ words (suc n) m
word_set zero m = refl
word_set (suc n) m = ap (λ (cs : List Cell). (0, true) ∷ cs) (word_set n m)

-- a word added at the end is one that a pen may write
pub word_more : (n m : ℕ) → words n m ++ (0, false) ∷ [] ≡ words n (suc m)
word_more zero zero = refl
word_more zero (suc m) = ap (λ (cs : List Cell). (0, false) ∷ cs) (word_more zero m)
word_more (suc n) m = ap (λ (cs : List Cell). (0, true) ∷ cs) (word_more n m)

-- replacing a number by 0 if it is 0 changes nothing
pub stays : (n : ℕ) → either (n == 0) 0 n ≡ n
stays n =
    elim (n == 0) as (λ b. (n == 0) ≡ b → either b 0 n ≡ n) [
      | true ↦ λ e. let zero_is : n ≡ 0 = grind (arith, nat_tests) in sym zero_is
      | false ↦ λ e. refl
    ] refl

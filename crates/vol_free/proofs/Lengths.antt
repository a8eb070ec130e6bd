-- The greatest number of free blocks.
use Rattle.std.proofs.Common.{◌≡◌, ℕ, ◌-◌, ◌<◌, ◌≤◌, inl, inr, true, false, List, [], ◌∷◌, length, refl, arith, eqb}
use Rattle.std.specs.List.{IsDistinct, AllByRecursion, list_any}
use Rattle.std.proofs.lemmas.Bool.Decides.{nat_tests}
use Rattle.std.proofs.lemmas.Map.Steps.{length-le_from_distinct_below}
use Rattle.std.proofs.lemmas.Map.Keys.{IsDistinct-cons}
use Rattle.vol_layout.specs.declared.geometry.Geometry.{Geometry}
use Rattle.vol_layout.specs.Super.{free_head}
use Rattle.pdp_words.specs.Words.{word}
use Rattle.vol_free.specs.Stack.{IsIn, Once, IsFree}
use Rattle.vol_free.proofs.Stacks.{stack_zoned, zone_from, zone_below}

-- the numbers of a list, each minus `start`
abbrev shifted : ℕ → List ℕ → List ℕ
shifted start [] = []
shifted start (b ∷ rest) = (b - start) ∷ shifted start rest

-- a number that isn't in a list differs from all numbers of the list after `start` is subtracted
shifted_apart : (start b : ℕ) (rest : List ℕ) → start ≤ b → (IsIn b rest → ⊥) → ((c : ℕ) → IsIn c rest → start ≤ c)
    → AllByRecursion (λ y. eqb (b - start) y ≡ false) (shifted start rest)
unfolding IsIn
shifted_apart start b [] low fresh all = tt
shifted_apart start b (c ∷ rest) low fresh all =
    let from : start ≤ c = all c (inl refl) in
    let differ : b ≡ c → ⊥ = λ same. fresh (inl same) in
    (grind (arith, nat_tests), shifted_apart start b rest low (λ i. fresh (inr i)) (λ d i. all d (inr i)))

-- different numbers stay different when `start` is subtracted
shifted_distinct : (start : ℕ) (xs : List ℕ) → Once xs → ((b : ℕ) → IsIn b xs → start ≤ b) → IsDistinct eqb (shifted start xs)
unfolding IsIn Once IsDistinct
shifted_distinct start [] once all = tt
shifted_distinct start (b ∷ rest) once all =
    IsDistinct-cons eqb (b - start) (shifted start rest) (shifted_apart start b rest (all b (inl refl)) once.0 (λ c i. all c (inr i)))
    (shifted_distinct start rest once.1 (λ c i. all c (inr i)))

-- subtracting `start` doesn't change how many numbers there are
shifted_length : (start : ℕ) (xs : List ℕ) → length (shifted start xs) ≡ length xs
shifted_length start [] = refl
shifted_length start (b ∷ rest) = omega (arith, shifted_length start rest)

-- numbers in `start..end` are below `end - start` after `start` is subtracted
shifted_below : (start end : ℕ) (xs : List ℕ) → ((b : ℕ) → IsIn b xs → start ≤ b) → ((b : ℕ) → IsIn b xs → b < end)
    → (q : ℕ) → list_any (eqb q) (shifted start xs) ≡ true → q < end - start
unfolding IsIn
shifted_below start end [] low high q found = absurd (grind arith)
shifted_below start end (b ∷ rest) low high q found =
    let from : start ≤ b = low b (inl refl) in
    let below : b < end = high b (inl refl) in
    let later : list_any (eqb q) (shifted start rest) ≡ true → q < end - start =
    shifted_below start end rest (λ c i. low c (inr i)) (λ c i. high c (inr i)) q in
    grind (arith, nat_tests)

-- a list of different numbers in `start..end` has at most `end - start` of them
pub once_within : (start end : ℕ) (xs : List ℕ) → Once xs → ((b : ℕ) → IsIn b xs → start ≤ b) → ((b : ℕ) → IsIn b xs → b < end)
    → length xs ≤ end - start
once_within start end xs once low high =
    rw (← shifted_length start xs) (length-le_from_distinct_below (shifted start xs) (end - start)
    (shifted_distinct start xs once low) (shifted_below start end xs low high))

-- there are at most as many free blocks as data blocks
pub free_within : {geometry : Geometry} {image blocks : List ℕ} → IsFree geometry image blocks
    → length blocks ≤ geometry.zone_end - geometry.zone_start
free_within {geometry = geometry} {image = image} {blocks = blocks} free =
    let zoned = stack_zoned geometry image (free_head geometry.edition) (word image (free_head geometry.edition)) blocks free.stack in
    once_within geometry.zone_start geometry.zone_end blocks free.once
    (λ b i. zone_from geometry b (zoned b i)) (λ b i. zone_below geometry b (zoned b i))

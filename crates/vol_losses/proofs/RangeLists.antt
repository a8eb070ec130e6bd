-- Lemmas on ranges of logical blocks.
use Rattle.std.proofs.Common.{◌≡◌, ℕ, suc, ◌≤◌, ◌<◌, ◌∙◌, ap, ◌&&◌, ◌||◌, Bool, true, false, nat_le, nat_lt, List, [], ◌∷◌, ◌++◌, ◌+◌, length, refl, arith, ◌⊎◌, inl, inr}
use Rattle.std.proofs.lemmas.Bool.{le-leb, lt-leb, lt-ltb, le-ltb}
use Rattle.vol_losses.specs.Ranges.{is_within, is_in, AreApart}
use Rattle.vol_losses.proofs.LostPaths.{or_true, or_false, and_false}
use Rattle.vol_losses.specs.declared.ranges.LostRange.{LostRange}

-- a disjunction of three is the same from either end
or_again : (a b c : Bool) → (a || (b || c)) ≡ ((a || b) || c)
or_again true b c = refl
or_again false b c = refl

-- one more range at the end of ranges that don't touch
pub apart_push : (low : ℕ) (ranges : List LostRange) (range : LostRange) → AreApart low ranges range.first → range.first < range.end
    → AreApart low (ranges ++ (range ∷ [])) (suc range.end)
apart_push low [] range before some = (before, some, omega arith)
apart_push low (first ∷ ranges) range before some = (before.0, before.1, apart_push (suc first.end) ranges range before.2 some)

-- ranges that don't touch are so within a higher end
pub apart_wider : (low : ℕ) (ranges : List LostRange) (high more : ℕ) → AreApart low ranges high → high ≤ more → AreApart low ranges more
apart_wider low [] high more before h = omega arith
apart_wider low (first ∷ ranges) high more before h = (before.0, before.1, apart_wider (suc first.end) ranges high more before.2 h)

-- the ranges with one more at the end have the logical blocks of the ranges and of that one
in_push : (ranges : List LostRange) (range : LostRange) (b : ℕ) → is_in (ranges ++ (range ∷ [])) b ≡ (is_in ranges b || is_within b range)
in_push [] range b = or_false (is_within b range)
in_push (first ∷ ranges) range b = ap (λ t. is_within b first || t) (in_push ranges range b) ∙ or_again (is_within b first) (is_in ranges b) (is_within b range)

-- a logical block outside a pushed range is in the ranges as before
pub in_push_outside : (ranges : List LostRange) (range : LostRange) (b : ℕ) → (b < range.first) ⊎ (range.end ≤ b) → is_in (ranges ++ (range ∷ [])) b ≡ is_in ranges b
in_push_outside ranges range b out =
    in_push ranges range b
    ∙ (ap (λ t. is_in ranges b || t) (elim out [
      | inl low ↦ ap (λ t. t && nat_lt b range.end) (lt-leb range.first b low)
      | inr high ↦ ap (λ t. nat_le range.first b && t) (le-ltb b range.end high) ∙ and_false (nat_le range.first b)
    ]) ∙ or_false (is_in ranges b))

-- a logical block inside a pushed range is in the ranges
pub in_push_inside : (ranges : List LostRange) (range : LostRange) (b : ℕ) → range.first ≤ b → b < range.end → is_in (ranges ++ (range ∷ [])) b ≡ true
in_push_inside ranges range b low high =
    in_push ranges range b
    ∙ or_true (is_in ranges b) (is_within b range)
    (ap (λ t. t && nat_lt b range.end) (le-leb range.first b low) ∙ lt-ltb b range.end high)

-- ranges that don't touch are at most as many as the logical blocks that they lie within
pub apart_few : (low : ℕ) (ranges : List LostRange) (high : ℕ) → AreApart low ranges high → low + length ranges ≤ high
apart_few low [] high apart = omega (arith, apart)
apart_few low (range ∷ ranges) high apart = omega (arith, apart.0, apart.1, apart_few (suc range.end) ranges high apart.2)

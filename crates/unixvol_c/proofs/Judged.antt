-- The number of the rule that `judge` finds broken is one of 1 to 12.
use Rattle.std.proofs.Common.{ℕ, ◌<◌, ◌≤◌, List, [], ◌∷◌, length, Bool, zero, suc, arith}
use Rattle.vol_judge.specs.Sound.{Rule, rules, nth_fact, IsLeastBroken}
use Rattle.vol_layout.specs.Geometry.{geometry_of}
use Rattle.vol_layout.specs.declared.edition.Edition.{Edition}

-- a fact past the end of a list of facts always holds
nth_past : (facts : List (Type 0)) (n : ℕ) → length facts ≤ n → nth_fact facts n
nth_past [] n past = tt
nth_past (fact ∷ facts) zero past = absurd (omega arith)
nth_past (fact ∷ facts) (suc n) past = nth_past facts n (omega arith)

-- the number of the least broken rule is below 13
pub few_rules : (free : Bool) (edition : Edition) (image : List ℕ) (n : ℕ) → IsLeastBroken free edition image n → n < 13
unfolding Rule
few_rules free edition image n broken =
    let no : 13 ≤ n → ⊥ = λ past. broken.broken (nth_past (rules free edition image (geometry_of edition image)) n past) in omega arith

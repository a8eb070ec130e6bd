-- Several writes one after another, and the bytes that they do not change.
use Rattle.std.proofs.Common.{ℕ, ◌≤◌, List, refl, arith, ◌∙◌}
use Rattle.pdp_words.specs.Words.{SameOutside}

-- a list equals itself outside any range
pub unchanged : (xs : List ℕ) {from to : ℕ} → SameOutside xs xs from to
unchanged xs = record { len = refl; below = λ k h. refl; above = λ k h. refl }

-- two writes change nothing outside a range that contains both of their ranges
pub join : {a b c : List ℕ} {from₁ to₁ from₂ to₂ from to : ℕ} → SameOutside a b from₁ to₁ → SameOutside b c from₂ to₂
    → from ≤ from₁ → from ≤ from₂ → to₁ ≤ to → to₂ ≤ to → SameOutside a c from to
join s t f₁ f₂ u₁ u₂ = record {
  len = t.len ∙ s.len;
  below = λ k h. t.below k (omega arith) ∙ s.below k (omega arith);
  above = λ k h. t.above k (omega arith) ∙ s.above k (omega arith);
}

-- a write changes nothing outside a range that contains its own range
pub widen : {a b : List ℕ} {from₁ to₁ from to : ℕ} → SameOutside a b from₁ to₁ → from ≤ from₁ → to₁ ≤ to
    → SameOutside a b from to
widen s f u = record { len = s.len; below = λ k h. s.below k (omega arith); above = λ k h. s.above k (omega arith) }

-- Boolean tests and the facts that they decide.
use Rattle.std.proofs.Common.{◌≡◌, Bool, true, false, not, ℕ, eqb, Option, None, Some, IfNone, IsTrue, ◌↔◌, inl, inr, refl, sym, ◌∙◌, ap}
use Rattle.std.specs.Option.{option_eq, is_some}
use Rattle.std.proofs.lemmas.Bool.{cases_Bool, eqb-true, eq-eqb}
use Rattle.vol_judge.specs.Finds.{Finds}
use Rattle.vol_judge.specs.declared.finding.Finding.{Finding}

-- false decides a fact that doesn't hold
pub refuted : {P : Type 0} → (P → ⊥) → (IsTrue false ↔ P)
refuted broken = (λ t. absurd (cc t), λ p. absurd (broken p))

-- true decides a fact that holds
pub shown : {P : Type 0} → P → (IsTrue true ↔ P)
shown p = (λ t. p, λ q. refl)

-- if a test decides a fact and is true, the fact holds
pub holds : {P : Type 0} (b : Bool) → (IsTrue b ↔ P) → b ≡ true → P
holds b decides e = decides.0 e

-- if a test decides a fact and is false, the fact doesn't hold
pub fails : {P : Type 0} (b : Bool) → (IsTrue b ↔ P) → b ≡ false → P → ⊥
fails b decides e p = let t : b ≡ true = decides.1 p in cc

-- if a is the negation of b and a is true, b is false
pub not_true : (a b : Bool) → a ≡ not b → a ≡ true → b ≡ false
not_true a b e t = elim (cases_Bool b) [ inl y ↦ absurd (let f : true ≡ false = sym t ∙ (e ∙ ap not y) in cc) | inr n ↦ n ]

pub not_false : (a b : Bool) → a ≡ not b → a ≡ false → b ≡ true
not_false a b e t = elim (cases_Bool b) [ inl y ↦ y | inr n ↦ absurd (let f : false ≡ true = sym t ∙ (e ∙ ap not n) in cc) ]

-- if the comparison with `Some n` is true, the option is `Some n`
pub same_option : (o : Option ℕ) (n : ℕ) → option_eq eqb o (Some n) ≡ true → o ≡ Some n
same_option None n e = absurd (cc)
same_option (Some m) n e = ap Some (eqb-true m n e)

-- if the comparison with `Some n` is false, the option isn't `Some n`
pub other_option : (o : Option ℕ) (n : ℕ) → option_eq eqb o (Some n) ≡ false → o ≡ Some n → ⊥
other_option None n e same = cc
other_option (Some m) n e same =
    let number : m ≡ n = cc in
    let yes : eqb m n ≡ true = eq-eqb m n number in
    cc

-- if `is_some o` is false, `IfNone o P` implies P
pub if_none : {A P : Type 0} (o : Option A) → is_some o ≡ false → IfNone o P → P
if_none None none holds = holds
if_none (Some x) none holds = absurd (cc)

-- if a search finds nothing, the rule holds
pub finds_none : {rule : Type 0} (first : Finding → Type 0) (found : Option Finding) → is_some found ≡ false → Finds rule first found → rule
finds_none first None none finds = finds
finds_none first (Some finding) none finds = absurd (cc)

-- if a search finds something, the rule fails
pub finds_some : {rule : Type 0} (first : Finding → Type 0) (found : Option Finding) → is_some found ≡ true → Finds rule first found → rule → ⊥
finds_some first None some finds = absurd (cc)
finds_some first (Some finding) some finds = finds.1

-- if the rule holds, nothing is found, and `IfNone found P` implies P
pub finds_kept : {rule P : Type 0} (first : Finding → Type 0) (found : Option Finding) → IfNone found P → Finds rule first found → rule → P
finds_kept first None none finds kept = none
finds_kept first (Some finding) none finds kept = absurd (finds.1 kept)

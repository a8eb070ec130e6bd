-- The first line whose outcome isn't that its rule holds is the line of the least rule that fails.
use Rattle.std.proofs.Common.{◌≡◌, ◌⊎◌, ℕ, ◌+◌, ◌&&◌, Bool, true, false, inl, inr, if◌then◌else◌, IsTrue, ◌↔◌, List, [], ◌∷◌, Option, None, Some, refl, ap, sym, subst}
use Rattle.std.proofs.lemmas.Bool.{cases_order}
use Rattle.vol_layout.specs.Geometry.{geometry_of}
use Rattle.vol_layout.specs.declared.edition.Edition.{Edition}
use Rattle.vol_file.specs.Rules.{IsApart}
use Rattle.vol_judge.specs.Judge.{IsFirstBroken}
use Rattle.vol_judge.specs.Sound.{Rule, IsSound, IsJudged}
use Rattle.vol_judge.proofs.RuleNumbers.{judged}
use Rattle.vol_judge.specs.Dots.{IsFirstDots}
use Rattle.vol_judge.specs.Entries.{IsFirstEntry}
use Rattle.vol_judge.specs.FreeList.{IsFirstFault}
use Rattle.vol_judge.specs.INodes.{IsFirstKind, IsFirstSize}
use Rattle.vol_judge.specs.Links.{IsFirstLink}
use Rattle.vol_judge.specs.Lost.{IsFirstUncovered}
use Rattle.vol_judge.specs.SharedBlocks.{IsFirstTwice}
use Rattle.vol_judge.specs.DirectoryTree.{IsFirstTree}
use Rattle.vol_judge.specs.OutsideBlocks.{IsFirstOutside}
use Rattle.vol_findings.specs.Outcomes.{Says, Tells, Keeps, HasGeometry}
use Rattle.vol_findings.specs.Reports.{is_held, lines_of, are_held, first_unheld}
use Rattle.vol_judge.specs.RuleTexts.{rule_number}
use Rattle.vol_judge.specs.declared.finding.Finding.{Finding}
use Rattle.vol_judge.specs.declared.finding.Finding.TheVariants.{TooShort, BadSizes}
use Rattle.vol_findings.specs.declared.outcome.RuleOutcome.{RuleOutcome}
use Rattle.vol_findings.specs.declared.outcome.RuleOutcome.TheVariants.{Holds, Broken, NotAsked, Lost, Unbroken}
use Rattle.vol_findings.specs.declared.outcome.RuleOutcomes.{RuleOutcomes}
use Rattle.vol_findings.specs.declared.report.RuleLine.{RuleLine}

-- the first rule of a list that fails is its first rule, if this rule's outcome isn't that it holds; otherwise it is the first of the others that
-- fails
first_said : (rule : Type 0) (first : Finding → Type 0) (reason : Type 0) (outcome : RuleOutcome) (n : ℕ) (facts : List (Type 0)) (answer : Option ℕ)
    → Says rule first reason outcome → (reason → ⊥) → (rule → IsFirstBroken (n + 1) facts answer)
    → IsFirstBroken n (rule ∷ facts) (if is_held outcome then answer else Some n)
first_said rule first reason Holds n facts answer says asked more = inr (says.0, more says.0)
first_said rule first reason (Broken finding) n facts answer says asked more = inl (refl, says.1)
first_said rule first reason NotAsked n facts answer says asked more = absurd (asked says)
first_said rule first reason (Lost count number) n facts answer says asked more = elim says [ ]
first_said rule first reason Unbroken n facts answer says asked more = elim says [ ]

-- the reason not to check rule 7
abbrev TwiceUnasked : Edition → List ℕ → Type 0
TwiceUnasked edition image =
    (HasGeometry edition image × Keeps edition image 5 → ⊥) ⊎ (IsApart (geometry_of edition image) image × (Keeps edition image 6 → ⊥))

-- rule 7 is checked if rules 5 and 6 hold
twice_asked : (edition : Edition) (image : List ℕ) → HasGeometry edition image → Keeps edition image 5 → Keeps edition image 6
    → TwiceUnasked edition image → ⊥
twice_asked edition image read zoned listed (inl fails) = fails (read, zoned)
twice_asked edition image read zoned listed (inr fails) = fails.1 listed

-- if a conjunction is true, both parts are
both_true : (a b : Bool) → (a && b) ≡ true → (a ≡ true) × (b ≡ true)
both_true true b e = (refl, e)
both_true false b e = absurd (cc)

both_held : (a b : Bool) (answer : Option ℕ) (n : ℕ) → (if a then answer else Some n) ≡ None → (answer ≡ None → b ≡ true) → (a && b) ≡ true
both_held true b answer n none rest = rest none
both_held false b answer n none rest = absurd (cc)

none_held : (a : Bool) (answer : Option ℕ) (n : ℕ) → a ≡ true → answer ≡ None → (if a then answer else Some n) ≡ None
none_held true answer n is none = none
none_held false answer n is none = absurd (cc)

-- if each outcome is that its rule holds, no line is the first with another outcome
none_unheld : (lines : List RuleLine) → are_held lines ≡ true → first_unheld lines ≡ None
none_unheld [] all = refl
none_unheld (line ∷ lines) all =
    let both = both_true (is_held line.outcome) (are_held lines) all in
    none_held (is_held line.outcome) (first_unheld lines) (rule_number line.rule) both.0 (none_unheld lines both.1)

all_held : (lines : List RuleLine) → first_unheld lines ≡ None → are_held lines ≡ true
all_held [] none = refl
all_held (line ∷ lines) none = both_held (is_held line.outcome) (are_held lines) (first_unheld lines) (rule_number line.rule) none (all_held lines)

module _ (edition : Edition) (image : List ℕ) where
  -- an image has only one judgement
  one_judgement : (a b : Option ℕ) → IsJudged true edition image a → IsJudged true edition image b → a ≡ b
  one_judgement None None here there = refl
  one_judgement None (Some m) here there = absurd (there.broken (here m))
  one_judgement (Some n) None here there = absurd (here.broken (there n))
  one_judgement (Some n) (Some m) here there =
      elim (cases_order n m) [
        | inl same ↦ ap Some same
        | inr (inl less) ↦ absurd (here.broken (there.before n less))
        | inr (inr more) ↦ absurd (there.broken (here.before m more))
      ]

  judged_same : (a b : Option ℕ) → a ≡ b → IsJudged true edition image b → IsJudged true edition image a
  judged_same a b same judgement = subst (IsJudged true edition image) (sym same) judgement

  -- if the judgement is None, the image is sound
  sound_judged : (answer : Option ℕ) → answer ≡ None → IsJudged true edition image answer → IsSound edition image
  sound_judged None none judgement = judgement
  sound_judged (Some n) none judgement = absurd (cc)

  none_judged : (answer : Option ℕ) → IsJudged true edition image answer → IsSound edition image → answer ≡ None
  none_judged None judgement sound = refl
  none_judged (Some n) judgement sound = absurd (judgement.broken (sound n))

module _ (edition : Edition) (image : List ℕ) (found : RuleOutcomes) (tells : Tells edition image found) where
  -- the first rule whose outcome isn't that it holds is the least rule that fails
  first_judged : IsJudged true edition image (first_unheld (lines_of found))
  unfolding Rule
  first_judged =
      let g = geometry_of edition image in
      let keeps : ℕ → Type 0 = Keeps edition image in
      let Unread : Type 0 = HasGeometry edition image → ⊥ in
      let from12 : List (Type 0) = keeps 12 ∷ [] in
      let from11 : List (Type 0) = keeps 11 ∷ from12 in
      let from10 : List (Type 0) = keeps 10 ∷ from11 in
      let from9 : List (Type 0) = keeps 9 ∷ from10 in
      let from8 : List (Type 0) = keeps 8 ∷ from9 in
      let from7 : List (Type 0) = keeps 7 ∷ from8 in
      let from6 : List (Type 0) = keeps 6 ∷ from7 in
      let from5 : List (Type 0) = keeps 5 ∷ from6 in
      let from4 : List (Type 0) = keeps 4 ∷ from5 in
      let from3 : List (Type 0) = keeps 3 ∷ from4 in
      let from2 : List (Type 0) = keeps 2 ∷ from3 in
      judged true edition image (first_unheld (lines_of found)) (inr (
        tt,
        first_said (keeps 1) (λ finding. finding ≡ TooShort) ⊥ found.whole 1 from2 _ tells.whole (λ none. none) (λ whole.
            first_said (keeps 2) (λ finding. finding ≡ BadSizes) (keeps 1 → ⊥) found.bounded 2 from3 _ tells.bounded (λ no. no whole) (λ bounded.
            first_said (keeps 3) (IsFirstKind g image) Unread found.kinds 3 from4 _ tells.kinds (λ no. no (whole, bounded)) (λ kinds.
            first_said (keeps 4) (IsFirstSize g image) Unread found.sizes 4 from5 _ tells.sizes (λ no. no (whole, bounded)) (λ sizes.
            first_said (keeps 5) (IsFirstOutside g image) Unread found.zoned 5 from6 _ tells.zoned (λ no. no (whole, bounded)) (λ zoned.
            first_said (keeps 6) (IsFirstFault g image) Unread found.listed 6 from7 _ tells.listed (λ no. no (whole, bounded)) (λ listed.
            first_said (keeps 7) (IsFirstTwice g image) (TwiceUnasked edition image) found.apart 7 from8 _ tells.apart
            (twice_asked edition image (whole, bounded) zoned listed) (λ apart.
            first_said (keeps 8) (IsFirstUncovered g image) (HasGeometry edition image × keeps 6 → ⊥) found.covered 8 from9 _ tells.covered
            (λ no. no ((whole, bounded), listed)) (λ covered.
            first_said (keeps 9) (IsFirstEntry g image) Unread found.entries 9 from10 _ tells.entries (λ no. no (whole, bounded)) (λ entries.
            first_said (keeps 10) (IsFirstDots g image) (HasGeometry edition image × keeps 9 → ⊥) found.dots 10 from11 _ tells.dots
            (λ no. no ((whole, bounded), entries)) (λ dots.
            first_said (keeps 11) (IsFirstTree g image) Unread found.tree 11 from12 _ tells.tree (λ no. no (whole, bounded)) (λ tree.
            first_said (keeps 12) (IsFirstLink g image) Unread found.links 12 [] None tells.links (λ no. no (whole, bounded)) (λ links.
            refl)))))))))))),
      ))

  -- an answer is the judgement if and only if it is the number of the first line without this outcome
  pub judged_first : (answer : Option ℕ) → IsJudged true edition image answer ↔ (answer ≡ first_unheld (lines_of found))
  judged_first answer = (
    λ judgement. one_judgement edition image answer (first_unheld (lines_of found)) judgement first_judged,
    λ same. judged_same edition image answer (first_unheld (lines_of found)) same first_judged,
  )

  -- all outcomes are that their rules hold if and only if the image is sound
  pub sound_held : IsTrue (are_held (lines_of found)) ↔ IsSound edition image
  sound_held = (
    λ all. sound_judged edition image (first_unheld (lines_of found)) (none_unheld (lines_of found) all) first_judged,
    λ sound. all_held (lines_of found) (none_judged edition image (first_unheld (lines_of found)) first_judged sound),
  )

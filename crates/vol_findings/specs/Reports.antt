-- The report on an image.
use Rattle.std.specs.Prelude.{◌≡◌, ℕ, ◌&&◌, Bool, true, false, not, if◌then◌else◌, IsTrue, ◌↔◌, List, [], ◌∷◌, ◌++◌, Option, None, Some, codes, decimal}
use Rattle.std.specs.List.{flat_map, list_all}
use Rattle.std.specs.Result.{is_ok}
use Rattle.vol_layout.specs.Geometry.{geometry_read}
use Rattle.vol_judge.specs.RuleTexts.{rule_number, rule_sentence}
use Rattle.vol_judge.specs.Sound.{IsSound, IsJudged}
use Rattle.vol_judge.specs.declared.rules.Rule.{Rule}
use Rattle.vol_judge.specs.declared.rules.Rule.TheVariants as rules
use Rattle.vol_layout.specs.declared.edition.Edition.{Edition}
use Rattle.vol_layout.specs.declared.edition.Edition.TheVariants.{V6, V7}
use Rattle.vol_findings.specs.Outcomes.{Tells}
use Rattle.vol_findings.specs.Texts.{outcome_text}
use Rattle.vol_findings.specs.declared.outcome.RuleOutcome.{RuleOutcome}
use Rattle.vol_findings.specs.declared.outcome.RuleOutcome.TheVariants.{Holds, Broken, NotAsked, Lost, Unbroken}
use Rattle.vol_findings.specs.declared.outcome.RuleOutcomes.{RuleOutcomes}
use Rattle.vol_findings.specs.declared.report.RuleLine.{RuleLine}

-- the line of a rule: its number, its requirement, and its outcome (this project)
abbrev pub line_text : RuleLine → List ℕ
line_text line =
    decimal (rule_number line.rule) ++ (codes " " ++ (rule_sentence line.rule ++ (codes ": " ++ (outcome_text line.outcome ++ codes "\n"))))

-- the lines of these rules (this project)
unfoldable pub lines_text : List RuleLine → List ℕ
lines_text lines = flat_map line_text lines

-- a rule with its outcome (this project)
abbrev pub line : Rule → RuleOutcome → RuleLine
line rule outcome = record { rule = rule; outcome = outcome }

-- the twelve rules, in order, each with its outcome (this project)
abbrev pub lines_of : RuleOutcomes → List RuleLine
lines_of found =
    line rules.Whole found.whole
    ∷ line rules.Bounded found.bounded
    ∷ line rules.Kinds found.kinds
    ∷ line rules.Sizes found.sizes
    ∷ line rules.Zoned found.zoned
    ∷ line rules.Listed found.listed
    ∷ line rules.Apart found.apart
    ∷ line rules.Covered found.covered
    ∷ line rules.Entries found.entries
    ∷ line rules.Dots found.dots
    ∷ line rules.Tree found.tree
    ∷ line rules.Links found.links
    ∷ []

-- true if the outcome is that the rule holds (this project)
abbrev pub is_held : RuleOutcome → Bool
is_held Holds = true
is_held (Broken finding) = false
is_held NotAsked = false
is_held (Lost count number) = false
is_held Unbroken = false

-- true if the outcome in each line is that its rule holds (this project)
abbrev pub are_held : List RuleLine → Bool
are_held lines = list_all (λ (line : RuleLine). is_held line.outcome) lines

-- the number of the first line whose outcome isn't that its rule holds, or None if there is no such line (this project)
abbrev pub first_unheld : List RuleLine → Option ℕ
first_unheld [] = None
first_unheld (line ∷ lines) = if is_held line.outcome then first_unheld lines else Some (rule_number line.rule)

-- the other edition (this project)
abbrev pub other_edition : Edition → Edition
other_edition V6 = V7
other_edition V7 = V6

-- the number of an edition (this project)
abbrev pub edition_number : Edition → ℕ
edition_number V6 = 6
edition_number V7 = 7

-- a note, if rule 1 or 2 fails and both hold for the other edition (this project)
abbrev pub note_text : Edition → List ℕ → List ℕ
note_text edition image =
    if not (is_ok (geometry_read edition image)) && is_ok (geometry_read (other_edition edition) image)
    then codes "note: rules 1 and 2 hold for edition " ++ (decimal (edition_number (other_edition edition)) ++ codes "\n")
    else []

-- the text of a report, from the outcomes (this project)
abbrev pub report_text : Edition → List ℕ → RuleOutcomes → List ℕ
report_text edition image found = lines_text (lines_of found) ++ note_text edition image

-- a text is the report on an image: its first line whose outcome isn't 'holds' has the number that `judge` returns, and `sound` is true if and only
-- if all twelve rules hold (this project)
pub record IsReport (edition : Edition) (image text : List ℕ) (sound : Bool) : Type 0 where
  pub found : RuleOutcomes
  pub tells : Tells edition image found
  pub words : text ≡ report_text edition image found
  pub least : (number : Option ℕ) → IsJudged true edition image number ↔ (number ≡ first_unheld (lines_of found))
  pub verdict : IsTrue sound ↔ IsSound edition image

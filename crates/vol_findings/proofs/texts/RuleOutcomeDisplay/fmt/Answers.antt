use Rattle.vol_findings.specs.Texts.{lost_text}
use Rattle.vol_findings.proofs.texts.RuleOutcomeDisplay.fmt.Goals as goal

pub returns-in-Lost-clause-writes : goal.returns-in-Lost-clause-writes
unfolding lost_text
returns-in-Lost-clause-writes g c = λ plain ok. rw c.in-Lost.is (c.write-in-Lost.ensures.writes plain ok)

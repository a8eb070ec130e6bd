-- The result of a search for the first violation of a rule.
use Rattle.std.specs.Prelude.{Option, None, Some}
use Rattle.vol_judge.specs.declared.finding.Finding.{Finding}

-- None if the rule holds, else its first violation (this project)
abbrev pub Finds : Type 0 → (Finding → Type 0) → Option Finding → Type 0
Finds rule first None = rule
Finds rule first (Some finding) = first finding × (rule → ⊥)

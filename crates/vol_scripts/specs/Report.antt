-- The report of `play`.
use Rattle.std.specs.Prelude.{ℕ, ◌+◌, ◌++◌, List, [], ◌∷◌, Option, Some, None, codes, decimal}
use Rattle.vol_dir.specs.declared.refusal.Refusal.TheVariants as refusals
use Rattle.vol_receipts.specs.declared.receipts.Outcome.{Outcome}
use Rattle.vol_receipts.specs.declared.receipts.Outcome.TheVariants as outcomes
use Rattle.vol_dir.specs.Refusals.{refusal_text}
use Rattle.vol_scripts.specs.Texts.{done_text, reply_text}
use Rattle.vol_scripts.specs.declared.played.Played.{Played}
use Rattle.vol_scripts.specs.declared.played.Played.TheVariants as played

-- the text of a call's or query's outcome (this project)
abbrev pub outcome_text : Outcome → List ℕ
outcome_text (outcomes.Accepted done) = done_text done
outcome_text (outcomes.Refused refusal) = refusal_text refusal
outcome_text (outcomes.Answered reply) = reply_text reply

-- a line of the report: the numbers of a script and of its line, and the result (this project)
abbrev pub line_text : ℕ → ℕ → List ℕ → List ℕ
line_text script line came = decimal script ++ codes "." ++ decimal line ++ codes " " ++ came ++ codes "\n"

-- the line of a step; the line that marks a script as one for a view has none (this project)
abbrev pub step_line_text : ℕ → ℕ → Played → List ℕ
step_line_text script line (played.Told receipt) = line_text script line (outcome_text receipt.outcome)
step_line_text script line (played.Cut first) = line_text script line (codes "cut " ++ decimal first)
step_line_text script line played.NoMemory = line_text script line (refusal_text refusals.NoMemory)
step_line_text script line played.NotEntered = line_text script line (codes "NotEntered")
step_line_text script line played.View = []

-- the lines of a script's steps; the first line has this number (this project)
abbrev pub lines_text : ℕ → ℕ → List Played → List ℕ
lines_text script line [] = []
lines_text script line (first ∷ others) = step_line_text script line first ++ lines_text script (line + 1) others

-- the last line, if a script cuts the journal: the number of receipts whose records were cut (this project)
abbrev pub gone_text : Option ℕ → List ℕ
gone_text None = []
gone_text (Some gone) = codes "gone " ++ decimal gone ++ codes "\n"

-- the last lines: the number of records, the number of confirmed receipts, and the number of receipts whose records were cut (this project)
abbrev pub totals_text : ℕ → ℕ → Option ℕ → List ℕ
totals_text records confirmed gone =
    codes "records " ++ decimal records ++ codes "\nconfirmed " ++ decimal confirmed ++ codes "\n" ++ gone_text gone

use Rattle.std.proofs.Common.{◌≡◌, ◌++◌, drop}
use Rattle.vol_scripts.specs.Journal.{journal_text}
use Rattle.vol_scripts.proofs.journal.push_journal.Given as goal

-- Invariant: the appended lines, followed by the lines of the remaining records, are the lines of all records.
abbrev pub invariant-records : goal.invariant-records
invariant-records l = l.text.items ++ journal_text (drop l.record-index l.records) ≡ l.fn.text.items ++ journal_text l.records

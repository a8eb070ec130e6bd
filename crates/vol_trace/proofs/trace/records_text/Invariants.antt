use Rattle.vol_trace.proofs.Traces.{Traces}
use Rattle.vol_trace.proofs.trace.records_text.Given as goal

-- Invariant: the records so far were made, and the text is theirs.
abbrev pub invariant-records : goal.invariant-records
invariant-records l = Traces l.fn.replay l.records l.record-index l.replay l.text.items

use Rattle.std.proofs.Common.{◌∙◌, ◌+◌, ◌∷◌, ap, drop, sym, arith}
use Rattle.std.proofs.lemmas.List.{drop_more}
use Rattle.vol_trace.proofs.Traces.{ends, goes}
use Rattle.vol_trace.proofs.trace.records_text.Goals as goal

pub records-preserved : goal.records-preserved
records-preserved c =
    goes c.args.replay c.records.replay c.push_record.new.replay c.args.records.now c.records.record-index c.record-item.result c.records.text.items
    c.push_record.new.text.items
    (drop_more c.args.records.now c.records.record-index c.record-item.result c.records-test.true
    ∙ ap (λ entry. entry ∷ drop (c.records.record-index + 1) c.args.records.now) (sym c.record-item.is))
    c.records.invariant c.in_ok-push_record.ensures.replay c.in_ok-push_record.ensures.geometry
    c.in_ok-push_record.ensures.performed c.in_ok-push_record.ensures.text

pub returns : goal.returns
returns c = ends c.args.replay c.records.replay c.args.records.now c.records.record-index c.records.text.items (omega arith) c.records.invariant

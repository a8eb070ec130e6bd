use Rattle.std.proofs.Common.{◌∙◌, List, ℕ, ◌++◌, ap, true}
use Rattle.vol_trace.specs.Indent.{indented}
use Rattle.vol_trace.proofs.Traces.{appends}
use Rattle.vol_trace.proofs.trace.push_record.Goals as goal

pub returns-clause-text : goal.returns-clause-text
returns-clause-text c =
    appends c.remember.result c.args.replay.now.geometry c.apply_next.new.replay.geometry c.apply_next.new.replay.before c.args.replay.now.image
    c.apply_next.new.replay.image c.remember.new.replay.image c.args.next.now c.args.text.now.items c.push_call.new.text.items
    c.push_indented.new.text.items c.in_ok-changes.changes.items c.remember.ensures.image c.apply_next.ensures.geometry
    (c.apply_next.ensures.before ∙ c.requires.replay.before) c.in_ok-changes.ensures c.in_ok-push_call.ensures
    (c.in_ok-push_indented.ensures ∙ ap (λ (lines : List ℕ). c.push_call.new.text.items ++ indented true lines) c.deref-2.ensures.value)

use Rattle.std.proofs.Common.{◌∙◌, inl, inr, subst}
use Rattle.command_faults.specs.Streams.{Streams, still}
use Rattle.command_faults.specs.declared.fault.Fault.{Fault}
use Rattle.command_reads.specs.Print.{IsTold}
use Rattle.command_reads.proofs.DiffItems.{prints_same}
use Rattle.command_reads.proofs.Printed.{told_only}
use Rattle.command_reads.proofs.tree_diff.print_json.Goals as goal

pub returns-in-Ok : goal.returns-in-Ok
returns-in-Ok g c =
    inl (prints_same _ _ _ _ _ _ _ c.print_text.result.status c.in-Ok.ensures.status c.fault_of.ensures (c.deref.ensures.value ∙ c.in-Ok.ensures.text)
    c.print_text.ensures)

pub returns-in-Err : goal.returns-in-Err
returns-in-Err g c =
    let both : Streams = still (g.O.Sink.contents c.args.output.now) (g.O.Sink.failed c.args.output.now) c.from-in-Err.result.fault in
    inr (subst (λ (fault : Fault). IsTold both fault c.from-in-Err.result.status) c.from.ensures
    (told_only c.from-in-Err.ensures))

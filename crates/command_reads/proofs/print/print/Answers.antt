use Rattle.std.proofs.Common.{List, ℕ, subst}
use Rattle.command_faults.specs.Faults.{line_after}
use Rattle.command_faults.specs.Streams.{Streams, streams}
use Rattle.command_reads.specs.Print.{PrintsTelling}
use Rattle.command_reads.proofs.print.print.Goals as goal

pub returns-in-Ok-clause-printed : goal.returns-in-Ok-clause-printed
returns-in-Ok-clause-printed g c =
    let both : Streams = streams g.O.Sink.contents g.O.Sink.failed c.args.output.now c.print_text.new.output c.print_text.result.fault in
    rw c.in-Ok.is (subst (λ (text : List ℕ). PrintsTelling c.in-Ok.field-0.ending.status (line_after c.in-Ok.field-0.ending.fault) both text c.print_text.result.status)
    c.deref.ensures.value c.print_text.ensures)

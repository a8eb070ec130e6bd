use Rattle.std.proofs.Common.{ℕ, List, inr, subst}
use Rattle.command_changes.specs.RepairLosses.{losses_status}
use Rattle.command_faults.specs.Faults.{line_after}
use Rattle.command_faults.specs.Streams.{Streams, streams}
use Rattle.command_reads.specs.Print.{PrintsTelling}
use Rattle.unixvol.proofs.repair_bad.repair_read.Goals as goal

-- the repaired copy is saved, and all that differs and all that is lost is printed
pub returns-in-Some : goal.returns-in-Some
returns-in-Some g c =
    let done = c.in-Ok.repaired in
    inr (
      done.made.bytes.items,
      done.made.report.items,
      done.losses.items,
      c.in-Ok.ensures.repaired,
      rw c.in-Some.is c.save_rescued.ensures,
    )

-- all that differs and all that is lost is printed
pub returns-in-None : goal.returns-in-None
returns-in-None g c =
    let done = c.in-Ok.repaired in
    let losses = done.losses.items in
    let both : Streams = streams g.O.Sink.contents g.O.Sink.failed c.args.output.now c.print_text.new.output c.print_text.result.fault in
    let status = c.print_text.result.status in
    inr (
      done.made.bytes.items,
      done.made.report.items,
      losses,
      c.in-Ok.ensures.repaired,
      rw c.in-None.is
          (subst (λ (text : List ℕ). PrintsTelling (losses_status losses) losses both text status) c.deref.ensures.value
          (subst (λ (lines : List ℕ). PrintsTelling (losses_status losses) lines both c.deref.result.now status) c.ending_with-ending.ensures.line
          (subst (λ (n : ℕ). PrintsTelling n (line_after c.ending_with-ending.result.fault) both c.deref.result.now status) c.ending_with-ending.ensures.status
          c.print_text.ensures))),
    )

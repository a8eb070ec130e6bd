use Rattle.std.proofs.Common.{ℕ, Result, subst}
use Rattle.command_faults.specs.Streams.{Streams, still, streams}
use Rattle.command_reads.specs.Inode.{found}
use Rattle.command_reads.specs.Print.{ShowsIn}
use Rattle.command_reads.specs.declared.node.NodeFault.{NodeFault}
use Rattle.command_reads.proofs.Printed.{told_only}
use Rattle.command_reads.proofs.Shown.{unfound}
use Rattle.command_reads.proofs.inode.show_inode.Goals as goal

pub returns-in-Ok : goal.returns-in-Ok
returns-in-Ok g c =
    let both : Streams = streams g.O.Sink.contents g.O.Sink.failed c.args.output.now c.show_number.new.output c.show_number.result.fault in
    subst (λ (n : Result ℕ NodeFault). ShowsIn c.args.form (found c.args.edition c.args.image.now c.args.form n) both c.show_number.result.status)
    c.in-Ok.ensures c.show_number.ensures

pub returns-in-Err : goal.returns-in-Err
returns-in-Err g c =
    let both : Streams = still (g.O.Sink.contents c.args.output.now) (g.O.Sink.failed c.args.output.now) c.from.result.fault in
    subst (λ (n : Result ℕ NodeFault). ShowsIn c.args.form (found c.args.edition c.args.image.now c.args.form n) both c.from.result.status) c.in-Err.ensures
    (unfound c.args.edition c.args.image.now c.args.form c.in-Err.fault both c.as_fault.result c.from.result.status c.as_fault.ensures
    (told_only c.from.ensures))

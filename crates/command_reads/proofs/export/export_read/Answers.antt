use Rattle.std.proofs.Common.{ℕ, Bool, List, Result, subst, ◌∙◌, ap}
use Rattle.vol_dir.specs.declared.directories.FoundDirectory.{FoundDirectory}
use Rattle.vol_dir.specs.declared.directories.DirectoryFault.{DirectoryFault}
use Rattle.command_faults.specs.Streams.{Streams, still, streams}
use Rattle.command_reads.specs.Export.{ExportsFrom, ExportsTo, TellsUnstarted, begun}
use Rattle.command_reads.proofs.export.export_read.Goals as goal

pub returns-in-Ok : goal.returns-in-Ok
returns-in-Ok g c =
    let start = c.in-Ok.start in
    let image = c.args.read.now.image in
    let both : Streams = streams g.O.Sink.contents g.O.Sink.failed c.args.output.now c.export_to.new.output c.export_to.result.fault in
    subst (λ (s : Result FoundDirectory DirectoryFault). ExportsFrom c.args.edition image c.args.read.now.lost.items c.args.path.now c.args.options c.args.screen both c.export_to.result.status s)
    (c.in-Ok.ensures.exact ∙ ap (begun c.args.options.lost c.args.edition image) c.as_bytes.ensures.value)
    (subst (λ lost. ExportsTo c.args.edition image lost start c.args.options both c.export_to.result.status c.args.screen) c.deref.ensures.value
    c.export_to.ensures)

pub returns-in-Err : goal.returns-in-Err
returns-in-Err g c =
    let image = c.args.read.now.image in
    let status = c.unstarted_ending.result.status in
    let both : Streams = still (g.O.Sink.contents c.args.output.now) (g.O.Sink.failed c.args.output.now) c.unstarted_ending.result.fault in
    subst (λ (s : Result FoundDirectory DirectoryFault). ExportsFrom c.args.edition image c.args.read.now.lost.items c.args.path.now c.args.options c.args.screen both status s)
    (c.in-Err.ensures.exact ∙ ap (begun c.args.options.lost c.args.edition image) c.as_bytes.ensures.value)
    (subst (λ (path : List ℕ). TellsUnstarted c.args.edition image c.args.read.now.lost.items path c.args.options both status c.in-Err.why) c.as_bytes-in-Err.ensures.value
    (subst (λ (lost : List Bool). TellsUnstarted c.args.edition image lost c.as_bytes-in-Err.result.now c.args.options both status c.in-Err.why) c.deref-in-Err.ensures.value
    (c.unstarted_ending.ensures (g.O.Sink.contents c.args.output.now) (g.O.Sink.failed c.args.output.now))))

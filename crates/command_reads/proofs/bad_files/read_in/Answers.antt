use Rattle.std.proofs.Common.{◌∙◌, sym}
use Rattle.command_reads.specs.Unsound.{readable}
use Rattle.command_reads.proofs.KnownFiles.{file_opened, with_losses}
use Rattle.command_reads.proofs.bad_files.read_in.Goals as goal

pub returns : goal.returns
returns g c =
    with_losses c.args.edition c.args.image.now c.args.lost.now c.args.path.now c.args.damaged
    _ c.read_known.result.status
    (sym c.is_empty.ensures ∙ c.if-is_empty.false)
    (c.read_known.ensures (readable c.args.edition c.args.image.now)
    (file_opened c.args.edition c.args.image.now c.args.path.now c.file_at-found.result c.file_at-found.ensures.found c.file_at-found.ensures.fault))

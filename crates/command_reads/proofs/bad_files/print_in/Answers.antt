use Rattle.std.proofs.Common.{◌∙◌, sym}
use Rattle.command_reads.specs.Cat.{file_of}
use Rattle.command_reads.specs.Node.{number_of}
use Rattle.command_reads.proofs.KnownFiles.{cat_whole, cat_with_losses}
use Rattle.command_reads.proofs.bad_files.print_in.Goals as goal

pub returns : goal.returns
returns g c =
    cat_with_losses c.args.edition c.args.image.now c.args.lost.now c.args.node c.args.damaged
    _ c.read_known.result.status
    (sym c.is_empty.ensures ∙ c.if-is_empty.false)
    (c.read_known.ensures (file_of c.args.edition c.args.image.now) c.body_at-found.ensures.opened)

pub returns-then-is_empty : goal.returns-then-is_empty
returns-then-is_empty g c =
    cat_whole c.args.edition c.args.image.now c.args.lost.now c.args.node c.args.damaged
    _ c.print_body.result.status
    (sym c.is_empty.ensures ∙ c.if-is_empty.true)
    (c.print_body.ensures c.args.edition (number_of c.args.edition c.args.image.now c.args.node) c.body_at-found.ensures.opened)

use Rattle.std.proofs.Common.{◌∙◌, sym}
use Rattle.command_reads.specs.Unsound.{listable}
use Rattle.command_reads.proofs.KnownLists.{listed, unlisted}
use Rattle.command_reads.proofs.bad_lists.list_in.Goals as goal

pub returns-in-Ok : goal.returns-in-Ok
returns-in-Ok c =
    listed c.args.edition c.args.image.now c.args.lost.now c.args.path.now c.args.listing c.args.screen c.list_known.result
    (sym c.is_empty.ensures ∙ c.if-is_empty.false) c.list_known.ensures.shown c.list_known.ensures.fault

pub returns-in-Err : goal.returns-in-Err
returns-in-Err c =
    let opened = listable c.args.listing c.args.edition c.args.image.now in
    unlisted c.args.edition c.args.image.now c.args.lost.now c.args.path.now c.args.listing c.args.screen c.unreached.result
    (sym c.is_empty.ensures ∙ c.if-is_empty.false) (c.unreached.ensures.shown opened c.in-Err.ensures.fault) (c.unreached.ensures.fault opened c.in-Err.ensures.fault)

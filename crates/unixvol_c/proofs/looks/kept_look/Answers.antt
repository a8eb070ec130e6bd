use Rattle.std.proofs.Common.{◌∙◌, ap, Some}
use Rattle.vol_listing.specs.declared.options.Screen.TheVariants.{Stream}
use Rattle.command_reads.specs.Look.{Looks}
use Rattle.unixvol_c.proofs.KeptStreams.{kept_shown}
use Rattle.unixvol_c.proofs.looks.kept_look.Goals as goal

pub returns : goal.returns
returns c =
    let seen = c.look-status.ensures in
    kept_shown (λ streams status. Looks c.args.edition c.args.bytes.now Stream streams status c.args.asked) _ _ _ _ _ _ _ _ c.look-status.result
    c.keep.result (c.new-output.ensures.bytes ∙ ap Some c.new.ensures.items) c.new-output.ensures.fresh
    (c.new-errors.ensures.bytes ∙ ap Some c.new-2.ensures.items) c.keep.ensures.working c.keep.ensures.both c.keep.ensures.status seen.1
    (rw c.in_ok-image.ensures.items at seen.2)

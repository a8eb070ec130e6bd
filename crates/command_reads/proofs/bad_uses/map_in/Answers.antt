use Rattle.std.proofs.Common.{◌∙◌, sym}
use Rattle.command_reads.proofs.KnownUses.{map_with_marks, map_without_marks}
use Rattle.command_reads.proofs.bad_uses.map_in.Goals as goal

pub returns : goal.returns
returns c =
    map_with_marks c.args.edition c.args.image.now c.args.lost.now c.args.screen c.args.picture c.known_map.result
    (sym c.is_empty.ensures ∙ c.if-is_empty.false) c.known_map.ensures

pub returns-then-is_empty : goal.returns-then-is_empty
returns-then-is_empty c =
    map_without_marks c.args.edition c.args.image.now c.args.lost.now c.args.screen c.args.picture c.whole_map.result
    (sym c.is_empty.ensures ∙ c.if-is_empty.true) c.whole_map.ensures

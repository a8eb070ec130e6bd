use Rattle.std.proofs.Common.{ap, ◌∙◌, arith}
use Rattle.std.specs.List.{flat_map}
use Rattle.std.proofs.lemmas.List.{take_all}
use Rattle.command_reads.specs.Dump.{row_line, rows_text}
use Rattle.command_reads.proofs.dump.rows_text.Goals as goal

pub returns : goal.returns
unfolding rows_text
returns c =
    c.loop-row.invariant
    ∙ ap (λ rs. flat_map (row_line c.args.geometry.now c.args.roles.now c.args.image.now c.args.radix) rs) (take_all c.loop-row.row-index c.args.rows.now (omega arith))

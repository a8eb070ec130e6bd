use Rattle.std.proofs.Common.{List, [], if◌then◌else◌, ◌++◌, ap, ◌∙◌, arith}
use Rattle.std.specs.List.{flat_map}
use Rattle.std.proofs.lemmas.List.{take_all}
use Rattle.vol_archive.specs.declared.met_entries.MetEntry.{MetEntry}
use Rattle.vol_rescue.specs.Lines.{role_line}
use Rattle.command_reads.specs.Remarks.{is_limited, limit_lines}
use Rattle.command_reads.proofs.remarks.push_limits.Goals as goal

pub returns : goal.returns
unfolding limit_lines
returns c =
    c.founds.invariant
    ∙ ap (λ (fs : List MetEntry). c.args.lines.now.items
    ++ flat_map (λ (found : MetEntry). if is_limited found.role then role_line found.path found.role else []) fs)
    (take_all c.founds.found-index c.args.founds.now (omega arith))

use Rattle.std.proofs.Common.{codes}
use Rattle.vol_archive.proofs.Outputs.{cut_front, handed_on}
use Rattle.command_reads.proofs.PrintedPieces.{writes_then}
use Rattle.command_reads.specs.MapJson.{run_data}
use Rattle.command_reads.specs.Json.{listed_text}
use Rattle.command_reads.proofs.Whole.{run_whole}
use Rattle.command_reads.proofs.map_json.put_rest.Goals as goal

pub put_items-requires : goal.put_items-requires
put_items-requires g c = record { whole = run_whole }

pub returns-in_err-put_items : goal.returns-in_err-put_items
returns-in_err-put_items g c =
    handed_on _ _ _ _ _ _ c.in_err-put_items.field-0.0 c.from_residual.ensures
    (cut_front _ _ _ (listed_text run_data c.args.runs.now) (codes "]}\n") _ c.in_err-put_items.ensures)

pub returns : goal.returns
returns g c =
    writes_then _ _ _ _ _ _ (listed_text run_data c.args.runs.now) (codes "]}\n") _ c.in_ok-put_items.ensures c.put.ensures

use Rattle.std.proofs.Common.{◌++◌, codes, sym}
use Rattle.vol_archive.proofs.Outputs.{cut_front, cut_same, handed_on}
use Rattle.command_reads.proofs.PrintedPieces.{writes_same, writes_then}
use Rattle.command_reads.specs.Json.{listed_text}
use Rattle.command_reads.specs.MapJson.{run_data, runs_json}
use Rattle.command_reads.proofs.ListTexts.{runs_pieces}
use Rattle.command_reads.proofs.map_json.put_runs.Goals as goal

pub returns-in_err-put : goal.returns-in_err-put
returns-in_err-put g c =
    let runs = c.args.runs.now in
    let front = codes "{\"format\":1,\"map\":[" in
    let rest = listed_text run_data runs ++ codes "]}\n" in
    handed_on _ _ _ _ _ _ c.in_err-put.field-0.0 c.from_residual.ensures
    (cut_same _ _ _ (front ++ rest) (runs_json runs) _ (sym (runs_pieces runs)) (cut_front _ _ _ front rest _ c.in_err-put.ensures))

pub returns : goal.returns
returns g c =
    let runs = c.args.runs.now in
    let front = codes "{\"format\":1,\"map\":[" in
    let rest = listed_text run_data runs ++ codes "]}\n" in
    writes_same _ _ _ _ (front ++ rest) (runs_json runs) _ (runs_pieces runs)
    (writes_then _ _ _ _ _ _ front rest _ c.in_ok-put.ensures c.put_rest.ensures)

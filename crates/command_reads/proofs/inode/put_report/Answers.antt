use Rattle.std.proofs.Common.{◌++◌, sym}
use Rattle.vol_archive.proofs.Outputs.{cut_front, cut_same, handed_on}
use Rattle.command_reads.proofs.PrintedPieces.{writes_same, writes_then}
use Rattle.command_reads.specs.Inode.{inode_back, inode_front, inode_json}
use Rattle.command_reads.specs.Json.{extent_data, listed_text}
use Rattle.command_reads.proofs.ListTexts.{inode_pieces}
use Rattle.command_reads.proofs.inode.put_report.Goals as goal

pub returns-in_err-put_front : goal.returns-in_err-put_front
returns-in_err-put_front g c =
    let report = c.args.report.now in
    let rest = listed_text extent_data report.extents.items ++ inode_back report in
    handed_on _ _ _ _ _ _ c.in_err-put_front.field-0.0 c.from_residual.ensures
    (cut_same _ _ _ (inode_front report ++ rest) (inode_json report) _ (sym (inode_pieces report)) (cut_front _ _ _ (inode_front report) rest _ c.in_err-put_front.ensures))

pub returns : goal.returns
returns g c =
    let report = c.args.report.now in
    let rest = listed_text extent_data report.extents.items ++ inode_back report in
    writes_same _ _ _ _ (inode_front report ++ rest) (inode_json report) _ (inode_pieces report)
    (writes_then _ _ _ _ _ _ (inode_front report) rest _ c.in_ok-put_front.ensures c.put_rest.ensures)

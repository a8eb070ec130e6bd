use Rattle.std.proofs.Common.{◌++◌, List, ap, sym}
use Rattle.vol_archive.proofs.Outputs.{cut_front, cut_same, handed_on}
use Rattle.command_reads.proofs.PrintedPieces.{writes_same, writes_then}
use Rattle.command_reads.specs.Inode.{inode_back}
use Rattle.vol_inspect.specs.declared.extent.Extent.{Extent}
use Rattle.command_reads.specs.Json.{extent_data, listed_text}
use Rattle.command_reads.proofs.Whole.{extent_whole}
use Rattle.command_reads.proofs.inode.put_rest.Goals as goal

pub put_items-requires : goal.put_items-requires
put_items-requires g c = record { whole = extent_whole }

pub returns-in_err-put_items : goal.returns-in_err-put_items
returns-in_err-put_items g c =
    let back = inode_back c.args.report.now in
    let items = c.deref.result.now in
    handed_on _ _ _ _ _ _ c.in_err-put_items.field-0.0 c.from_residual.ensures
    (cut_same _ _ _ (listed_text extent_data items ++ back) _ _ (sym (ap (λ (items : List Extent). listed_text extent_data items ++ back) c.deref.ensures.value))
    (cut_front _ _ _ (listed_text extent_data items) back _ c.in_err-put_items.ensures))

pub returns : goal.returns
returns g c =
    let back = inode_back c.args.report.now in
    let items = c.deref.result.now in
    writes_same _ _ _ _ (listed_text extent_data items ++ back) _ _ (ap (λ (items : List Extent). listed_text extent_data items ++ back) c.deref.ensures.value)
    (writes_then _ _ _ _ _ _ (listed_text extent_data items) back _ c.in_ok-put_items.ensures c.put_back.ensures)

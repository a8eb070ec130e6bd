use Rattle.std.proofs.Common.{◌++◌, ap, sym}
use Rattle.std.specs.List.{flat_map}
use Rattle.vol_archive.proofs.Outputs.{cut_front, cut_same, handed_on}
use Rattle.command_reads.proofs.PrintedPieces.{writes_same, writes_then}
use Rattle.command_reads.specs.Json.{item_text, later_text, listed_text}
use Rattle.command_reads.proofs.pieces.put_items.Goals as goal

pub returns-in_err-put_first : goal.returns-in_err-put_first
returns-in_err-put_first g c =
    let shown = g.T.Shown.shown in
    let first = item_text shown c.in-Some.first.now in
    let rest = flat_map (later_text shown) c.in-Some.rest.now in
    handed_on _ _ _ _ _ _ c.in_err-put_first.field-0.0 c.from_residual.ensures
    (cut_same _ _ _ (first ++ rest) (listed_text shown c.args.items.now) _ (ap (listed_text shown) c.in-Some.ensures.cases.0)
    (cut_front _ _ _ first rest _ c.in_err-put_first.ensures))

pub returns : goal.returns
returns g c =
    let shown = g.T.Shown.shown in
    let first = item_text shown c.in-Some.first.now in
    let rest = flat_map (later_text shown) c.in-Some.rest.now in
    writes_same _ _ _ _ (first ++ rest) (listed_text shown c.args.items.now) _ (sym (ap (listed_text shown) c.in-Some.ensures.cases.0))
    (writes_then _ _ _ _ _ _ first rest _ c.in_ok-put_first.ensures c.put_rest.ensures)

use Rattle.std.proofs.Common.{◌≡◌, ◌+◌, ◌++◌, ap, ◌∙◌, arith, get_or, length, refl}
use Rattle.std.specs.List.{flat_map, range_with_len}
use Rattle.std.specs.String.{string_bytes}
use Rattle.vol_reports.proofs.Ranges.{appended_more}
use Rattle.vol_inspect.specs.Pictures.{row_cell, rows_text}
use Rattle.vol_inspect.specs.declared.cell_groups.Cell.TheVariants as cells
use Rattle.vol_inspect.proofs.drawing.push_rows.Goals as goal

pub push_row_cell-requires-clause-place : goal.push_row_cell-requires-clause-place
push_row_cell-requires-clause-place c = c.requires.places c.loop-k.k (omega (arith, c.loop-k-test.true))

pub loop-k-preserved : goal.loop-k-preserved
loop-k-preserved c =
    appended_more (λ k. row_cell c.args.coloured c.args.width c.args.each (get_or c.args.cells.now k cells.Blank) k) (string_bytes c.args.text.now)
    (string_bytes c.loop-k.text) (string_bytes c.push_row_cell.new.text) 0 c.loop-k.k (c.loop-k.k + 1) c.loop-k.k refl (omega arith) c.loop-k.invariant
    c.in_ok-push_row_cell.ensures

pub returns : goal.returns
unfolding rows_text
returns c =
    let end : c.loop-k.k ≡ length c.args.cells.now = omega arith in
    c.loop-k.invariant
    ∙ ap (λ n. string_bytes c.args.text.now
    ++ flat_map (λ k. row_cell c.args.coloured c.args.width c.args.each (get_or c.args.cells.now k cells.Blank) k) (range_with_len 0 n)) end

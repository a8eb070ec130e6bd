use Rattle.std.proofs.Common.{◌≡◌, ◌+◌, ◌*◌, ◌/◌, ◌%◌, ◌++◌, List, Option, ap, ◌∙◌, arith, get_or, length, map, refl}
use Rattle.std.specs.List.{flat_map, range_with_len}
use Rattle.std.specs.String.{string_bytes}
use Rattle.vol_reports.proofs.Ranges.{appended_more}
use Rattle.vol_inspect.specs.Cells.{piece}
use Rattle.vol_inspect.specs.Svg.{squares_text, titled_text}
use Rattle.vol_inspect.specs.declared.cell_groups.Cell.TheVariants as cells
use Rattle.vol_inspect.specs.declared.uses.Use.{Use}
use Rattle.vol_inspect.proofs.svg_picture.push_squares.Goals as goal

pub loop-k-preserved : goal.loop-k-preserved
loop-k-preserved c =
    let k = c.loop-k.k in
    let cell = get_or c.args.cells.now k cells.Blank in
    appended_more (λ k. titled_text (map string_bytes c.args.titles.now) (piece c.args.each c.args.blocks.now k) (k * c.args.each) (get_or c.args.cells.now k cells.Blank) (10 * (k % c.args.width))
    (10 * (k / c.args.width))) (string_bytes c.args.text.now)
    (string_bytes c.loop-k.text) (string_bytes c.push_titled.new.text) 0 k (k + 1) k refl (omega arith) c.loop-k.invariant
    (c.in_ok-push_titled.ensures
    ∙ ap (λ (bs : List (Option Use)). string_bytes c.loop-k.text ++ titled_text (map string_bytes c.args.titles.now) bs (k * c.args.each) cell (10 * (k % c.args.width)) (10 * (k / c.args.width)))
    c.piece.ensures)

pub returns : goal.returns
unfolding squares_text
returns c =
    let end : c.loop-k.k ≡ length c.args.cells.now = omega arith in
    c.loop-k.invariant
    ∙ ap (λ n. string_bytes c.args.text.now
    ++ flat_map (λ k. titled_text (map string_bytes c.args.titles.now) (piece c.args.each c.args.blocks.now k) (k * c.args.each) (get_or c.args.cells.now k cells.Blank) (10 * (k % c.args.width))
    (10 * (k / c.args.width))) (range_with_len 0 n)) end

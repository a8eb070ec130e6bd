use Rattle.std.proofs.Common.{◌≡◌, ◌+◌, ◌*◌, ◌++◌, ap, ◌∙◌, arith, get_or, length, refl}
use Rattle.std.specs.List.{flat_map, range_with_len}
use Rattle.std.specs.String.{string_bytes}
use Rattle.vol_reports.proofs.Ranges.{appended_more}
use Rattle.vol_inspect.specs.Svg.{entry_text, swatches_text}
use Rattle.vol_inspect.specs.declared.cell_groups.Cell.TheVariants as cells
use Rattle.vol_inspect.proofs.svg_picture.push_swatches.Goals as goal

pub loop-k-preserved : goal.loop-k-preserved
loop-k-preserved c =
    appended_more (λ k. entry_text c.args.blocks.now c.args.cells.now (get_or c.args.kinds.now k cells.Blank) (c.args.top + 14 * k)) (string_bytes c.args.text.now)
    (string_bytes c.loop-k.text) (string_bytes c.push_entry.new.text) 0 c.loop-k.k (c.loop-k.k + 1) c.loop-k.k refl (omega arith) c.loop-k.invariant
    c.in_ok-push_entry.ensures

pub returns : goal.returns
unfolding swatches_text
returns c =
    let end : c.loop-k.k ≡ length c.args.kinds.now = omega arith in
    c.loop-k.invariant
    ∙ ap (λ n. string_bytes c.args.text.now
    ++ flat_map (λ k. entry_text c.args.blocks.now c.args.cells.now (get_or c.args.kinds.now k cells.Blank) (c.args.top + 14 * k)) (range_with_len 0 n)) end

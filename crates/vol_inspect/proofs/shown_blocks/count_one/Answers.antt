use Rattle.std.proofs.Common.{◌≡◌, ◌+◌, ◌*◌, ◌∙◌, ap, arith, min, slice_index}
use Rattle.vol_inspect.specs.PlaceCounts.{node_count}
use Rattle.vol_inspect.proofs.shown_blocks.count_one.Goals as goal

pub returns : goal.returns
returns c = λ b e zone low.
    let n = node_count c.args.geometry.now c.args.image.now c.args.i b e in
    let none = c.requires.clear (4 * b + e) in
    let all : slice_index c.args.counts.now (4 * b + e) + n ≡ n = omega (arith, none) in
    c.count_node.ensures.counted b e zone low ∙ ap (min 2) all

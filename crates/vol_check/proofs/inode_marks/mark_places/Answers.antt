use Rattle.std.proofs.Common.{◌≡◌, ◌+◌, sym, ap, arith, ◌∙◌}
use Rattle.vol_layout.specs.Inode.{inode_place, address_at}
use Rattle.vol_layout.specs.BlockPointers.{form_at}
use Rattle.vol_layout.specs.BlockMaps.{form_of, first_count, levels}
use Rattle.vol_file.specs.Changes.{blocks_of}
use Rattle.vol_judge.specs.Marks.{blocks_from}
use Rattle.vol_judge.proofs.FileBlocks.{address_blocks}
use Rattle.count_table.specs.Sums.{total, below}
use Rattle.count_table.proofs.Totals.{below_more, below_none}
use Rattle.vol_check.specs.Pieces.{place_weight}
use Rattle.vol_check.proofs.AddedMarks.{adds_none, adds_then, adds_as}
use Rattle.vol_check.proofs.Weights.{weigh_file}
use Rattle.vol_check.proofs.inode_marks.mark_places.Goals as goal

pub loop-k-init : goal.loop-k-init
loop-k-init c =
    let g = c.args.geometry.now in
    let image = c.args.image.now in
    adds_none c.args.tally.now c.args.seat.now (λ weight. below (λ k. total (place_weight g weight c.args.i) (address_blocks g image c.args.i k)) 0)
    c.requires.own (λ weight. below_none (λ k. total (place_weight g weight c.args.i) (address_blocks g image c.args.i k)))

pub loop-k-preserved : goal.loop-k-preserved
loop-k-preserved c =
    let g = c.args.geometry.now in
    let image = c.args.image.now in
    let i = c.args.i in
    let form : c.of-form.result ≡ form_at g image i = c.of-form.ensures ∙ ap (form_of g.edition) c.mode.ensures in
    let level : levels (form_at g image i) c.loop-k.k ≡ c.levels.result = sym (c.levels.ensures ∙ ap (λ f. levels f c.loop-k.k) form) in
    let same : address_blocks g image i c.loop-k.k ≡ blocks_from g image c.levels.result c.address-b.result =
    ap (λ d. blocks_from g image d (address_at g.edition image (inode_place g.edition i) c.loop-k.k)) level
    ∙ ap (blocks_from g image c.levels.result) (sym c.address-b.ensures) in
    adds_then c.args.tally.now c.args.seat.now c.loop-k.seat c.mark_from.new.seat
    (λ weight. below (λ k. total (place_weight g weight i) (address_blocks g image i k)) c.loop-k.k)
    (λ weight. total (place_weight g weight i) (blocks_from g image c.levels.result c.address-b.result))
    (λ weight. below (λ k. total (place_weight g weight i) (address_blocks g image i k)) (c.loop-k.k + 1))
    c.loop-k.invariant c.in_ok-mark_from.ensures.ok
    (λ weight. below_more (λ k. total (place_weight g weight i) (address_blocks g image i k)) c.loop-k.k
    ∙ ap (λ xs. below (λ k. total (place_weight g weight i) (address_blocks g image i k)) c.loop-k.k + total (place_weight g weight i) xs) same)

pub returns-clause-ok : goal.returns-clause-ok
returns-clause-ok c =
    let g = c.args.geometry.now in
    let image = c.args.image.now in
    let i = c.args.i in
    let form : c.of-form.result ≡ form_at g image i = c.of-form.ensures ∙ ap (form_of g.edition) c.mode.ensures in
    let count : c.address_count-k-end.result ≡ first_count (form_at g image i) = c.address_count-k-end.ensures ∙ ap first_count form in
    let end : c.loop-k.k ≡ first_count (form_at g image i) = omega (arith, count, c.loop-k-test.false, c.loop-k.auto.k-end) in
    adds_as c.args.tally.now c.args.seat.now c.loop-k.seat
    (λ weight. below (λ k. total (place_weight g weight i) (address_blocks g image i k)) c.loop-k.k)
    (λ weight. total (place_weight g weight i) (blocks_of g image i)) c.loop-k.invariant
    (λ weight. weigh_file g image (place_weight g weight i) i c.requires.fits c.requires.first c.requires.last
    ∙ ap (below (λ k. total (place_weight g weight i) (address_blocks g image i k))) (sym end))

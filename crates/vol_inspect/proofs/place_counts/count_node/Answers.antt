use Rattle.std.proofs.Common.{◌≡◌, ◌+◌, ℕ, sym, ap, arith, ◌∙◌, refl}
use Rattle.std.specs.List.{sum_by, range_with_len}
use Rattle.vol_layout.specs.Inode.{inode_place, address_at}
use Rattle.vol_layout.specs.BlockPointers.{form_at}
use Rattle.vol_layout.specs.BlockMaps.{form_of, first_count, levels}
use Rattle.vol_inspect.specs.PlaceCounts.{found_at, node_count}
use Rattle.vol_inspect.proofs.Found.{sum_more}
use Rattle.vol_inspect.proofs.Named.{node_is}
use Rattle.vol_inspect.proofs.Tallies.{counts_then, counts_as, tally_after}
use Rattle.vol_inspect.proofs.place_counts.count_node.Goals as goal

pub loop-k-preserved : goal.loop-k-preserved
loop-k-preserved c =
    let g = c.args.geometry.now in
    let image = c.args.image.now in
    let i = c.args.i in
    let form : c.of-form.result ≡ form_at g image i = c.of-form.ensures ∙ ap (form_of g.edition) c.mode.ensures in
    let level : c.levels.result ≡ levels (form_at g image i) c.loop-k.k = c.levels.ensures ∙ ap (λ f. levels f c.loop-k.k) form in
    let by = λ (b e k : ℕ). found_at g image (levels (form_at g image i) k) (address_at g.edition image (inode_place g.edition i) k) b e in
    record {
      counted = counts_then g (λ b e. sum_by (by b e) (range_with_len 0 c.loop-k.k)) (found_at g image c.levels.result c.address-b.result)
          (λ b e. sum_by (by b e) (range_with_len 0 (c.loop-k.k + 1))) c.args.counts.now c.loop-k.counts c.count_from.new.counts
          c.loop-k.invariant.counted c.count_from.ensures
          (λ b e. sum_more (by b e) 0 c.loop-k.k (c.loop-k.k + 1) c.loop-k.k refl (omega arith)
          ∙ ap (λ x. sum_by (by b e) (range_with_len 0 c.loop-k.k) + x) (λ x. found_at g image (sym level x) (sym c.address-b.ensures x) b e));
      tally = tally_after g image 3 c.levels.result c.address-b.result c.loop-k.counts c.count_from.new.counts (omega arith) c.loop-k.invariant.tally c.count_from.ensures
          c.count_from.auto.counts;
    }

pub returns-clause-counted : goal.returns-clause-counted
returns-clause-counted c =
    let g = c.args.geometry.now in
    let image = c.args.image.now in
    let i = c.args.i in
    let form : c.of-form.result ≡ form_at g image i = c.of-form.ensures ∙ ap (form_of g.edition) c.mode.ensures in
    let count : c.address_count-k-end.result ≡ first_count (form_at g image i) = c.address_count-k-end.ensures ∙ ap first_count form in
    let end : c.loop-k.k ≡ first_count (form_at g image i) = omega (arith, count, c.loop-k-test.false, c.loop-k.auto.k-end) in
    let by = λ (b e k : ℕ). found_at g image (levels (form_at g image i) k) (address_at g.edition image (inode_place g.edition i) k) b e in
    counts_as g (λ b e. sum_by (by b e) (range_with_len 0 c.loop-k.k)) (node_count g image i) c.args.counts.now c.loop-k.counts c.loop-k.invariant.counted
    (λ b e. node_is g image i c.requires.fits b e ∙ ap (λ n. sum_by (by b e) (range_with_len 0 n)) (sym end))

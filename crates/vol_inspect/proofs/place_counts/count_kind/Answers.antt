use Rattle.std.proofs.Common.{◌≡◌, ◌+◌, ◌*◌, ℕ, ap, arith, ◌∙◌, refl, min}
use Rattle.std.specs.List.{sum_by, range_with_len}
use Rattle.vol_inspect.specs.PlaceCounts.{wanted_count, naming_count}
use Rattle.vol_inspect.proofs.Found.{sum_more}
use Rattle.vol_inspect.proofs.Tallies.{counts_then}
use Rattle.vol_inspect.proofs.place_counts.count_kind.Goals as goal

pub loop-before-preserved : goal.loop-before-preserved
loop-before-preserved c =
    let g = c.args.geometry.now in
    let image = c.args.image.now in
    let by = λ (b e i : ℕ). wanted_count g image c.args.wanted i b e in
    record {
      counted = counts_then g (λ b e. sum_by (by b e) (range_with_len 1 c.loop-before.before)) (wanted_count g image c.args.wanted (c.loop-before.before + 1))
          (λ b e. sum_by (by b e) (range_with_len 1 (c.loop-before.before + 1))) c.args.counts.now c.loop-before.counts c.count_wanted.new.counts
          c.loop-before.invariant.counted c.count_wanted.ensures.counted
          (λ b e. sum_more (by b e) 1 c.loop-before.before (c.loop-before.before + 1) (c.loop-before.before + 1) refl (omega arith));
      tally = c.count_wanted.ensures.tally;
    }

pub returns : goal.returns
unfolding naming_count
returns c = λ b e zone lvl.
    let g = c.args.geometry.now in
    let image = c.args.image.now in
    let end : c.loop-before.before ≡ g.last_inode = omega arith in
    let clear = c.requires.clear (4 * b + e) in
    c.loop-before.invariant.counted b e zone lvl
    ∙ ap (min 2) (ap (λ x. x + sum_by (λ i. wanted_count g image c.args.wanted i b e) (range_with_len 1 c.loop-before.before)) clear
    ∙ (omega arith ∙ ap (λ n. sum_by (λ i. wanted_count g image c.args.wanted i b e) (range_with_len 1 n)) end))

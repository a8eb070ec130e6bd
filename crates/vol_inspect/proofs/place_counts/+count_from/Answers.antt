use Rattle.std.proofs.Common.{◌≡◌, ◌+◌, ◌-◌, sym, ap, arith, ◌∙◌, false, true}
use Rattle.vol_layout.specs.Edition.{constants}
use Rattle.vol_layout.specs.Geometry.{in_zone}
use Rattle.vol_layout.specs.BlockPointers.{pointer_in}
use Rattle.vol_layout.proofs.NameLaws.{entry_in}
use Rattle.vol_inspect.specs.PlaceCounts.{found_at}
use Rattle.vol_inspect.proofs.Found.{here_at, below, below_none, below_more, found_out, found_leaf, found_deep}
use Rattle.vol_inspect.proofs.Tallies.{counts_none, counts_then, counts_as, counts_one, tally_one, tally_after}
use Rattle.vol_inspect.proofs.place_counts.+count_from.Goals as goal

pub returns-then-not-in_zone : goal.returns-then-not-in_zone
returns-then-not-in_zone t c =
    let g = c.args.geometry.now in
    let out : in_zone g c.args.b ≡ false = sym c.in_zone.ensures ∙ c.if-not-in_zone.true in
    counts_none g (found_at g c.args.image.now c.args.level c.args.b) c.args.counts.now c.requires.tally.low
    (λ b e. found_out g c.args.image.now c.args.level c.args.b b e c.requires.fits out)

pub returns-then-level-eq0 : goal.returns-then-level-eq0
returns-then-level-eq0 t c =
    let g = c.args.geometry.now in
    let image = c.args.image.now in
    let zone : in_zone g c.args.b ≡ true = sym c.in_zone.ensures ∙ c.if-not-in_zone.false in
    counts_as g (λ b e. here_at c.args.b b e c.args.level) (found_at g image c.args.level c.args.b) c.args.counts.now _
    (counts_one g image c.args.level c.args.b c.args.counts.now c.requires.level c.requires.tally zone (omega (arith, c.if-count-ge2.false)))
    (λ b e. found_leaf g image c.args.level c.args.b b e c.if-level-eq0.true)

pub loop-j-init : goal.loop-j-init
loop-j-init t c =
    let g = c.args.geometry.now in
    let image = c.args.image.now in
    let zone : in_zone g c.args.b ≡ true = sym c.in_zone.ensures ∙ c.if-not-in_zone.false in
    let deep = c.if-level-eq0.false in
    record {
      counted = counts_as g (λ b e. here_at c.args.b b e c.args.level) (λ b e. here_at c.args.b b e c.args.level + below g image (c.args.level - 1) c.args.b b e 0)
          c.args.counts.now _
          (counts_one g image c.args.level c.args.b c.args.counts.now c.requires.level c.requires.tally zone (omega (arith, c.if-count-ge2.false)))
          (λ b e. let none = below_none g image (c.args.level - 1) c.args.b b e in omega (arith, none));
      tally = tally_one g image c.args.level c.args.b c.args.counts.now c.requires.level (omega arith) c.requires.tally zone (omega (arith, c.if-count-ge2.false));
    }

pub loop-j-preserved : goal.loop-j-preserved
loop-j-preserved t c =
    let g = c.args.geometry.now in
    let image = c.args.image.now in
    let d = c.args.level - 1 in
    let zone : in_zone g c.args.b ≡ true = sym c.in_zone.ensures ∙ c.if-not-in_zone.false in
    let is : pointer_in g image c.args.b c.loop-j.j ≡ c.number-entry.result = entry_in g image c.args.b c.loop-j.j zone ∙ sym c.number-entry.ensures in
    let few = c.requires.level in
    record {
      counted = counts_then g (λ b e. here_at c.args.b b e c.args.level + below g image d c.args.b b e c.loop-j.j) (found_at g image d c.number-entry.result)
          (λ b e. here_at c.args.b b e c.args.level + below g image d c.args.b b e (c.loop-j.j + 1)) c.args.counts.now c.loop-j.counts c.count_from.new.counts
          c.loop-j.invariant.counted c.count_from.ensures
          (λ b e. let m = below_more g image d c.args.b b e c.loop-j.j c.number-entry.result is in omega (arith, m));
      tally = tally_after g image d d c.number-entry.result c.loop-j.counts c.count_from.new.counts (omega arith) c.loop-j.invariant.tally c.count_from.ensures
          c.count_from.auto.counts;
    }

pub returns : goal.returns
returns t c =
    let g = c.args.geometry.now in
    let image = c.args.image.now in
    let zone : in_zone g c.args.b ≡ true = sym c.in_zone.ensures ∙ c.if-not-in_zone.false in
    let deep = c.if-level-eq0.false in
    let all : c.constants-j-end.result.pointers ≡ (constants g.edition).pointers = ap (λ k. k.pointers) c.constants-j-end.ensures in
    let end : c.loop-j.j ≡ (constants g.edition).pointers = omega (arith, all, c.loop-j-test.false, c.loop-j.auto.j-end) in
    counts_as g (λ b e. here_at c.args.b b e c.args.level + below g image (c.args.level - 1) c.args.b b e c.loop-j.j) (found_at g image c.args.level c.args.b)
    c.args.counts.now c.loop-j.counts c.loop-j.invariant.counted
    (λ b e. found_deep g image c.args.level c.args.b b e (omega arith)
    ∙ ap (λ n. here_at c.args.b b e c.args.level + below g image (c.args.level - 1) c.args.b b e n) (sym end))

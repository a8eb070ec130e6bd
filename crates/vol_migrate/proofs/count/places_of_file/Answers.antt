-- Each stored logical block adds the new positions on its path; holes add none.
use Rattle.std.proofs.Common.{◌≡◌, ◌∙◌, sym, ap, subst, ◌+◌, ◌-◌, true, arith}
use Rattle.vol_layout.specs.BlockPointers.{form_at}
use Rattle.vol_file.specs.Changes.{whole_blocks}
use Rattle.vol_file.specs.Holes.{IsNextStored}
use Rattle.vol_file.specs.Rules.{size_of}
use Rattle.vol_file.specs.Runs.{LooksUp}
use Rattle.vol_dir.specs.Tree.{shapes}
use Rattle.vol_migrate.specs.Raised.{names_block}
use Rattle.vol_migrate.specs.Stages.{places_for}
use Rattle.vol_migrate.proofs.CarriedBlocks.{none_below, count_holes, count_more}
use Rattle.vol_migrate.proofs.FileShapes.{comes_after, names_some}
use Rattle.vol_migrate.proofs.count.places_of_file.Goals as goal

pub loop-b-init : goal.loop-b-init
loop-b-init c =
    let inode = c.of-numbers.ensures.inode in
    record {
      numbers = subst (λ j. LooksUp c.args.from.now c.args.old.now j c.next_block-b.new.self) inode c.next_block-b.ensures.own;
      next = subst (λ j. IsNextStored c.args.from.now c.args.old.now j (form_at c.args.from.now c.args.old.now j) 0 c.whole_blocks-end.result c.next_block-b.result)
          inode c.next_block-b.ensures.next;
      total = sym (none_below (shapes c.args.from.now c.args.old.now c.args.i));
      last = λ h. absurd (omega (arith, h));
      bound = omega arith;
      within = omega arith;
    }

pub loop-b-preserved : goal.loop-b-preserved
loop-b-preserved c =
    let geometry = c.args.from.now in
    let image = c.args.old.now in
    let i = c.args.i in
    let shape = shapes geometry image i in
    let inv = c.loop-b.invariant in
    let some : names_block shape c.loop-b.b ≡ true =
    names_some geometry image i c.loop-b.b c.requires.sixth c.requires.file (λ none. inv.next.some c.loop-b-test.true none) in
    let after = comes_after geometry image i c.loop-b.passed c.whole_blocks-end.result c.loop-b.b c.requires.sixth c.requires.file inv.next inv.last in
    let more = count_more shape c.loop-b.b some in
    let holes = count_holes shape c.loop-b.passed c.loop-b.b after.order after.holes in
    let fresh = c.new_places-places.ensures.exact shape after in
    let back : c.loop-b.b + 1 - 1 ≡ c.loop-b.b = omega arith in
    record {
      numbers = subst (λ j. LooksUp geometry image j c.next_block-b-in-loop-b.new.self) inv.numbers.inode c.next_block-b-in-loop-b.ensures.own;
      next = subst (λ j. IsNextStored geometry image j (form_at geometry image j) (c.loop-b.b + 1) c.whole_blocks-end.result c.next_block-b-in-loop-b.result)
          inv.numbers.inode c.next_block-b-in-loop-b.ensures.next;
      total = let total = inv.total in omega (arith, total, more, holes, fresh);
      last = λ h. ap (names_block shape) back ∙ some;
      bound = let bound = inv.bound in let order = after.order in omega (arith, bound, order, c.new_places-places.ensures.bound);
      within = omega arith;
    }

pub returns-clause-need : goal.returns-clause-need
returns-clause-need c =
    let geometry = c.args.from.now in
    let image = c.args.old.now in
    let i = c.args.i in
    let inv = c.loop-b.invariant in
    let after = comes_after geometry image i c.loop-b.passed c.whole_blocks-end.result c.loop-b.b c.requires.sixth c.requires.file inv.next inv.last in
    let within = inv.next.within in
    let at : c.loop-b.b ≡ c.whole_blocks-end.result = omega (arith, within, c.loop-b-test.false) in
    let end : c.whole_blocks-end.result ≡ whole_blocks (size_of geometry image i) = c.whole_blocks-end.ensures ∙ ap whole_blocks c.size.ensures in
    inv.total ∙ (sym (count_holes (shapes geometry image i) c.loop-b.passed c.loop-b.b after.order after.holes)
    ∙ ap (places_for (shapes geometry image i)) (at ∙ end))

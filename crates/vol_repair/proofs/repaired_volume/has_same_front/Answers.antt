use Rattle.std.proofs.Common.{◌≡◌, ◌+◌, subst, slice_index, arith}
use Rattle.vol_repair.proofs.repaired_volume.has_same_front.Goals as goal

pub returns-then-is_same_block : goal.returns-then-is_same_block
returns-then-is_same_block c = λ found. record {
  len = omega (arith, c.len.ensures, c.len-2.ensures);
  boot = λ k low.
      let at : 0 + k ≡ k = omega arith in
      subst (λ x. slice_index c.args.new.now x ≡ slice_index c.args.old.now x) at (c.is_same_block.ensures c.if-is_same_block.true k low);
  sizes = c.has_same_sizes.ensures found;
}

-- Each used i-node is written, and no other.
use Rattle.std.proofs.Common.{◌≡◌, subst, refl, ℕ, ◌+◌, arith}
use Rattle.vol_file.proofs.Alone.{fits_len}
use Rattle.vol_migrate.specs.Stages.{HasInodesBelow}
use Rattle.vol_migrate.proofs.FirstInodes.{inodes_none, same_then}
use Rattle.vol_migrate.proofs.i_nodes.put_inodes.Goals as goal

pub loop-i-init : goal.loop-i-init
loop-i-init c = record {
  put = inodes_none c.args.from.now c.args.to.now c.args.old.now c.args.image.now c.args.now c.requires.fits c.requires.zeros;
  others = record { len = refl; below = λ k h. refl; above = λ k h. refl };
}

pub put_next-requires-clause-fits : goal.put_next-requires-clause-fits
put_next-requires-clause-fits c = fits_len c.args.to.now c.args.image.now c.loop-i.image c.loop-i.invariant.others.len c.requires.fits

pub loop-i-preserved : goal.loop-i-preserved
loop-i-preserved c = record {
  put = c.put_next.ensures.put c.loop-i.invariant.put;
  others = same_then c.loop-i.invariant.others c.put_next.ensures.others;
}

pub returns-2-clause-put : goal.returns-2-clause-put
returns-2-clause-put c =
    let at : c.loop-i.i ≡ c.args.from.now.last_inode = omega arith in
    let P : ℕ → Type 0 = λ i. HasInodesBelow c.args.from.now c.args.to.now c.args.old.now c.args.now c.put_next.new.image (i + 1) in
    subst P at (c.put_next.ensures.put c.loop-i.invariant.put)

pub returns-2-clause-others : goal.returns-2-clause-others
returns-2-clause-others c = same_then c.loop-i.invariant.others c.put_next.ensures.others

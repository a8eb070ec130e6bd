use Rattle.std.proofs.Common.{◌≡◌, subst, arith}
use Rattle.vol_repair.specs.Repaired.{TellsUpTo}
use Rattle.vol_repair.proofs.told_lines.push_lines.Goals as goal

pub returns : goal.returns
returns c = λ told.
    let last : c.loop-before.before ≡ c.args.geometry.now.last_inode = omega arith in
    subst (λ n. TellsUpTo c.args.geometry.now c.args.old.now c.args.new.now n c.loop-before.lines.items) last c.loop-before.invariant.told

use Rattle.std.proofs.Common.{not, nat_eq, get_or, refl, arith, eqb-true}
use Rattle.vol_judge.proofs.Decisions.{not_false}
use Rattle.vol_judge.proofs.Reaches.{not_root}
use Rattle.vol_judge.proofs.Upwards.{goes_on, goes_round, goes_nowhere}
use Rattle.vol_judge.proofs.directories.tree.goes_to_root.Goals as goal

pub returns-in_default-clause-unreached : goal.returns-in_default-clause-unreached
returns-in_default-clause-unreached c = λ e reached.
    let walk = c.loop-walks.invariant in
    goes_nowhere c.requires.parents walk (not_root walk c.loop-walks-test.true) (omega (arith, walk.room, walk.directory.last)) c.requires.below c.in_default.is reached

pub loop-walks-preserved : goal.loop-walks-preserved
loop-walks-preserved c =
    let walk = c.loop-walks.invariant in
    goes_on c.in-Some.up c.requires.parents walk (not_root walk c.loop-walks-test.true) (omega (arith, walk.room, walk.directory.last)) c.in-Some.is

pub returns-clause-unreached : goal.returns-clause-unreached
returns-clause-unreached c = λ ring reached.
    let mark = get_or c.loop-walks.walks c.loop-walks.at 0 in
    let same = eqb-true mark c.args.d (not_false (not (nat_eq mark c.args.d)) (nat_eq mark c.args.d) refl ring) in
    goes_round c.requires.parents c.loop-walks.invariant same c.requires.below reached

use Rattle.std.proofs.Common.{subst, arith}
use Rattle.vol_layout.proofs.BodyLaws.{length-body}
use Rattle.vol_compare.specs.Bodies.{IsFirstUnequal, byte_in}
use Rattle.vol_compare.proofs.BodyDifferences.{first_end, first_none, first_some}
use Rattle.vol_compare.proofs.bodies.first_difference.Goals as goal

pub returns-in-Some : goal.returns-in-Some
returns-in-Some c =
    let old_len = length-body c.args.old.geometry.now c.args.old.image.now c.args.old.inode in
    let new_len = length-body c.args.new.geometry.now c.args.new.image.now c.args.new.inode in
    first_some c.args.old c.args.new c.min-common.result c.in-Some.at (omega (arith, old_len)) (omega (arith, new_len))
    (subst (IsFirstUnequal (byte_in c.args.old) (byte_in c.args.new) c.min-common.result) c.in-Some.is c.first_unequal.ensures)

pub returns-in-None : goal.returns-in-None
returns-in-None c =
    let old_len = length-body c.args.old.geometry.now c.args.old.image.now c.args.old.inode in
    let new_len = length-body c.args.new.geometry.now c.args.new.image.now c.args.new.inode in
    first_none c.args.old c.args.new c.min-common.result (omega (arith, old_len, new_len)) (omega (arith, old_len, new_len))
    (subst (IsFirstUnequal (byte_in c.args.old) (byte_in c.args.new) c.min-common.result) c.in-None.is c.first_unequal.ensures)

pub returns-in-None-2 : goal.returns-in-None-2
returns-in-None-2 c =
    let old_len = length-body c.args.old.geometry.now c.args.old.image.now c.args.old.inode in
    let new_len = length-body c.args.new.geometry.now c.args.new.image.now c.args.new.inode in
    first_end c.args.old c.args.new c.min-common.result (omega (arith, old_len, new_len)) (λ e. c.if-old_size-new_size.false (omega (arith, e, old_len, new_len)))
    (subst (IsFirstUnequal (byte_in c.args.old) (byte_in c.args.new) c.min-common.result) c.in-None.is c.first_unequal.ensures)

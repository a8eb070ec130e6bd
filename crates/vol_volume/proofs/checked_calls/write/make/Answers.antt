use Rattle.std.proofs.Common.{◌≡◌, ◌-◌, ◌+◌, ◌^◌, ◌<◌, ◌≤◌, sym, length, arith, refl}
use Rattle.vol_layout.specs.Edition.{constants}
use Rattle.vol_file.specs.Shape.{touched}
use Rattle.vol_dir.specs.Tree.{tree, shapes, state}
use Rattle.vol_change.specs.Edits.{at_time, after_write}
use Rattle.vol_change.specs.Shapes.{need_in}
use Rattle.vol_change.specs.Ready.{free_in}
use Rattle.vol_change.proofs.FreeAfter.{free_after_write}
use Rattle.vol_volume.proofs.Accepted.{write_passed}
use Rattle.vol_volume.proofs.NeedReadings.{greatest_fits}
use Rattle.vol_volume.proofs.KeptInodes.{write_inodes}
use Rattle.vol_volume.proofs.LeftRests.{write_leaves}
use Rattle.vol_volume.proofs.NodeReadings.{used_first, regular_file}
use Rattle.vol_volume.proofs.PerformedCalls.{performed_by, step_write}
use Rattle.vol_volume.specs.declared.calls.Call.TheVariants.{Write}
use Rattle.vol_volume.specs.declared.calls.Done.TheVariants.{Wrote}
use Rattle.vol_volume.proofs.checked_calls.write.make.Goals as goal

pub overflow_cast-result : goal.overflow_cast-result
unfolding tree
overflow_cast-result c =
    let most : c.args.offset + length c.args.bytes.now ≤ (constants c.args.geometry.now.edition).greatest = (write_passed (state c.args.geometry.now c.args.image.now) c.args.caller.cred c.args.path.now c.args.offset (length c.args.bytes.now) c.in_ok-target.target.inode (sym c.in_ok-target.ensures.refusal) c.in_ok-target.ensures.node.walked).greatest in
    let low : (constants c.args.geometry.now.edition).greatest < 2 ^ 32 = greatest_fits c.args.geometry.now.edition in
    omega arith

pub write-requires-clause-regular : goal.write-requires-clause-regular
write-requires-clause-regular c =
    (regular_file c.args.geometry.now c.args.image.now c.in_ok-target.target.inode c.ready_stands.ensures.files c.in_ok-target.ensures.node.used (write_passed (state c.args.geometry.now c.args.image.now) c.args.caller.cred c.args.path.now c.args.offset (length c.args.bytes.now) c.in_ok-target.target.inode (sym c.in_ok-target.ensures.refusal) c.in_ok-target.ensures.node.walked).other (write_passed (state c.args.geometry.now c.args.image.now) c.args.caller.cred c.args.path.now c.args.offset (length c.args.bytes.now) c.in_ok-target.target.inode (sym c.in_ok-target.ensures.refusal) c.in_ok-target.ensures.node.walked).regular)

pub write-requires-clause-greatest : goal.write-requires-clause-greatest
unfolding tree
write-requires-clause-greatest c =
    (write_passed (state c.args.geometry.now c.args.image.now) c.args.caller.cred c.args.path.now c.args.offset (length c.args.bytes.now) c.in_ok-target.target.inode (sym c.in_ok-target.ensures.refusal) c.in_ok-target.ensures.node.walked).greatest

pub write-requires-clause-room : goal.write-requires-clause-room
unfolding tree
write-requires-clause-room c =
    (write_passed (state c.args.geometry.now c.args.image.now) c.args.caller.cred c.args.path.now c.args.offset (length c.args.bytes.now) c.in_ok-target.target.inode (sym c.in_ok-target.ensures.refusal) c.in_ok-target.ensures.node.walked).room

pub overflow_sub-result : goal.overflow_sub-result
unfolding tree
overflow_sub-result c =
    let room : need_in c.args.geometry.now.edition (shapes c.args.geometry.now c.args.image.now c.in_ok-target.target.inode) (touched c.args.offset (length c.args.bytes.now)) ≤ free_in (state c.args.geometry.now c.args.image.now) = (write_passed (state c.args.geometry.now c.args.image.now) c.args.caller.cred c.args.path.now c.args.offset (length c.args.bytes.now) c.in_ok-target.target.inode (sym c.in_ok-target.ensures.refusal) c.in_ok-target.ensures.node.walked).room in
    let count : c.args.free ≡ free_in (state c.args.geometry.now c.args.image.now) = c.requires.count in
    let needed : c.in_ok-target.target.needed ≡ need_in c.args.geometry.now.edition (shapes c.args.geometry.now c.args.image.now c.in_ok-target.target.inode) (touched c.args.offset (length c.args.bytes.now)) =
    c.in_ok-target.ensures.needed in
    omega (arith, room, count, needed)

pub returns-clause-performed : goal.returns-clause-performed
unfolding tree
returns-clause-performed c =
    let count : c.args.free ≡ free_in (state c.args.geometry.now c.args.image.now) = c.requires.count in
    let needed : c.in_ok-target.target.needed ≡ need_in c.args.geometry.now.edition (shapes c.args.geometry.now c.args.image.now c.in_ok-target.target.inode) (touched c.args.offset (length c.args.bytes.now)) =
    c.in_ok-target.ensures.needed in
    let after : free_in (at_time c.args.caller.moment (after_write (state c.args.geometry.now c.args.image.now) c.args.caller.moment c.args.offset c.args.bytes.now c.in_ok-target.target.inode)) ≡ free_in (state c.args.geometry.now c.args.image.now) - need_in c.args.geometry.now.edition (shapes c.args.geometry.now c.args.image.now c.in_ok-target.target.inode) (touched c.args.offset (length c.args.bytes.now)) =
    free_after_write c.args.geometry.now c.args.image.now c.args.caller.moment c.args.offset c.in_ok-target.target.inode c.args.bytes.now (used_first c.args.geometry.now c.args.image.now c.in_ok-target.target.inode c.in_ok-target.ensures.node.used) c.in_ok-target.ensures.node.used.last in
    performed_by c.args.geometry.now c.args.image.now c.write.new.image (Write c.args.caller.cred c.args.caller.moment c.args.path.now c.args.offset c.args.bytes.now) (Wrote (length c.args.bytes.now))
    (at_time c.args.caller.moment (after_write (state c.args.geometry.now c.args.image.now) c.args.caller.moment c.args.offset c.args.bytes.now c.in_ok-target.target.inode))
    (c.args.free - c.in_ok-target.target.needed)
    (step_write (state c.args.geometry.now c.args.image.now) c.args.caller.cred c.args.caller.moment c.args.path.now c.args.offset c.args.bytes.now c.in_ok-target.target.inode (Wrote (length c.args.bytes.now)) c.in_ok-target.ensures.node.walked) refl
    c.write.ensures.changes
    (write_inodes c.args.geometry.now c.args.image.now c.write.new.image c.args.caller.moment c.args.offset c.args.bytes.now c.in_ok-target.target.inode
    c.write.ensures.changes.makes c.write.ensures.unused)
    (write_leaves c.args.geometry.now c.args.image.now c.write.new.image c.args.caller.cred c.args.caller.moment c.args.path.now c.in_ok-target.target.inode
    c.in_ok-target.ensures.node.walked c.args.offset c.args.bytes.now (Wrote (length c.args.bytes.now)) c.write.ensures.list c.write.ensures.files)
    (omega (arith, count, needed, after))

use Rattle.std.proofs.Common.{sym}
use Rattle.vol_dir.specs.Tree.{tree, state}
use Rattle.vol_change.specs.Edits.{at_time}
use Rattle.vol_change.specs.Effects.{after_chown}
use Rattle.vol_volume.proofs.Accepted.{chown_passed}
use Rattle.vol_volume.proofs.KeptInodes.{chown_inodes}
use Rattle.vol_volume.proofs.LeftRests.{chown_leaves}
use Rattle.vol_volume.proofs.PerformedCalls.{performed_by, step_chown}
use Rattle.vol_volume.specs.declared.calls.Call.TheVariants.{Chown}
use Rattle.vol_volume.specs.declared.calls.Done.TheVariants.{Plain}
use Rattle.vol_volume.proofs.checked_calls.chown.make.Goals as goal

pub chown-requires-clause-user : goal.chown-requires-clause-user
unfolding tree
chown-requires-clause-user c =
    (chown_passed (state c.args.geometry.now c.args.image.now) c.args.caller.cred c.args.path.now c.args.owner.uid c.args.owner.gid
    (sym c.in_ok-i.ensures.refusal)).0

pub chown-requires-clause-group : goal.chown-requires-clause-group
unfolding tree
chown-requires-clause-group c =
    (chown_passed (state c.args.geometry.now c.args.image.now) c.args.caller.cred c.args.path.now c.args.owner.uid c.args.owner.gid
    (sym c.in_ok-i.ensures.refusal)).1

pub returns-clause-performed : goal.returns-clause-performed
unfolding tree
returns-clause-performed c =
    performed_by c.args.geometry.now c.args.image.now c.chown.new.image (Chown c.args.caller.cred c.args.caller.moment c.args.path.now c.args.owner.uid c.args.owner.gid) Plain
    (at_time c.args.caller.moment (after_chown (state c.args.geometry.now c.args.image.now) c.args.caller.moment c.args.owner.uid c.args.owner.gid c.in_ok-i.i))
    c.args.free
    (step_chown (state c.args.geometry.now c.args.image.now) c.args.caller.cred c.args.caller.moment c.args.path.now c.args.owner.uid c.args.owner.gid c.in_ok-i.i c.in_ok-i.ensures.node.walked) tt
    c.chown.ensures.changes
    (chown_inodes c.args.geometry.now c.args.image.now c.chown.new.image c.args.caller.moment c.args.owner.uid c.args.owner.gid c.in_ok-i.i
    c.chown.ensures.changes.makes c.chown.ensures.unused)
    (chown_leaves c.args.geometry.now c.args.image.now c.chown.new.image c.args.caller.cred c.args.caller.moment c.args.path.now c.in_ok-i.i
    c.in_ok-i.ensures.node.walked c.args.owner.uid c.args.owner.gid c.chown.ensures.list c.chown.ensures.files c.chown.ensures.inode)
    c.requires.count

use Rattle.vol_dir.specs.Tree.{tree, state}
use Rattle.vol_change.specs.Edits.{at_time}
use Rattle.vol_change.specs.Effects.{after_chmod}
use Rattle.vol_volume.proofs.KeptInodes.{chmod_inodes}
use Rattle.vol_volume.proofs.LeftRests.{chmod_leaves}
use Rattle.vol_volume.proofs.PerformedCalls.{performed_by, step_chmod}
use Rattle.vol_volume.specs.declared.calls.Call.TheVariants.{Chmod}
use Rattle.vol_volume.specs.declared.calls.Done.TheVariants.{Plain}
use Rattle.vol_volume.proofs.checked_calls.chmod.make.Goals as goal

pub returns-clause-performed : goal.returns-clause-performed
unfolding tree
returns-clause-performed c =
    performed_by c.args.geometry.now c.args.image.now c.chmod.new.image (Chmod c.args.caller.cred c.args.caller.moment c.args.path.now c.args.perm) Plain
    (at_time c.args.caller.moment (after_chmod (state c.args.geometry.now c.args.image.now) c.args.caller.moment c.args.perm c.in_ok-i.i))
    c.args.free
    (step_chmod (state c.args.geometry.now c.args.image.now) c.args.caller.cred c.args.caller.moment c.args.path.now c.args.perm c.in_ok-i.i c.in_ok-i.ensures.node.walked) tt
    c.chmod.ensures.changes
    (chmod_inodes c.args.geometry.now c.args.image.now c.chmod.new.image c.args.caller.moment c.args.perm c.in_ok-i.i
    c.chmod.ensures.changes.makes c.chmod.ensures.unused)
    (chmod_leaves c.args.geometry.now c.args.image.now c.chmod.new.image c.args.caller.cred c.args.caller.moment c.args.path.now c.in_ok-i.i
    c.in_ok-i.ensures.node.walked c.args.perm c.chmod.ensures.list c.chmod.ensures.files c.chmod.ensures.inode)
    c.requires.count

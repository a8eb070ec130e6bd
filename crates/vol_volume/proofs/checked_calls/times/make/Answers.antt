use Rattle.vol_dir.specs.Tree.{tree, state}
use Rattle.vol_change.specs.Edits.{at_time}
use Rattle.vol_change.specs.Effects.{after_utime}
use Rattle.vol_volume.proofs.KeptInodes.{times_inodes}
use Rattle.vol_volume.proofs.LeftRests.{times_leaves}
use Rattle.vol_volume.proofs.PerformedCalls.{performed_by, step_times}
use Rattle.vol_volume.specs.declared.calls.Call.TheVariants.{Times}
use Rattle.vol_volume.specs.declared.calls.Done.TheVariants.{Plain}
use Rattle.vol_volume.proofs.checked_calls.times.make.Goals as goal

pub returns-clause-performed : goal.returns-clause-performed
unfolding tree
returns-clause-performed c =
    performed_by c.args.geometry.now c.args.image.now c.utime.new.image (Times c.args.caller.cred c.args.caller.moment c.args.path.now c.args.accessed c.args.modified) Plain
    (at_time c.args.caller.moment (after_utime (state c.args.geometry.now c.args.image.now) c.args.caller.moment c.args.accessed c.args.modified c.in_ok-i.i))
    c.args.free
    (step_times (state c.args.geometry.now c.args.image.now) c.args.caller.cred c.args.caller.moment c.args.path.now c.args.accessed c.args.modified c.in_ok-i.i c.in_ok-i.ensures.node.walked) tt
    c.utime.ensures.changes
    (times_inodes c.args.geometry.now c.args.image.now c.utime.new.image c.args.caller.moment c.args.accessed c.args.modified c.in_ok-i.i
    c.utime.ensures.changes.makes c.utime.ensures.unused)
    (times_leaves c.args.geometry.now c.args.image.now c.utime.new.image c.args.caller.cred c.args.caller.moment c.args.path.now c.in_ok-i.i
    c.in_ok-i.ensures.node.walked c.args.accessed c.args.modified c.utime.ensures.list c.utime.ensures.files c.utime.ensures.inode)
    c.requires.count

use Rattle.std.proofs.Common.{sym, ◌≡◌, ◌-◌, ◌≤◌, arith}
use Rattle.vol_dir.specs.Tree.{tree, state}
use Rattle.vol_change.specs.Edits.{at_time}
use Rattle.vol_change.specs.Effects.{after_link}
use Rattle.vol_change.specs.Ready.{entry_need, free_in}
use Rattle.vol_change.proofs.FreeAfter.{free_after_link}
use Rattle.vol_volume.proofs.Accepted.{link_passed}
use Rattle.vol_volume.proofs.KeptInodes.{link_inodes}
use Rattle.vol_volume.proofs.LeftRests.{link_leaves}
use Rattle.vol_volume.proofs.NodeReadings.{other_kind, used_first}
use Rattle.vol_volume.proofs.PerformedCalls.{performed_by, step_link}
use Rattle.vol_volume.specs.declared.calls.Call.TheVariants.{Link}
use Rattle.vol_volume.specs.declared.calls.Done.TheVariants.{Plain}
use Rattle.vol_volume.proofs.checked_calls.link.make.Goals as goal

pub link-requires-clause-other : goal.link-requires-clause-other
link-requires-clause-other c =
    other_kind c.args.geometry.now c.args.image.now c.in_ok-i.i (used_first c.args.geometry.now c.args.image.now c.in_ok-i.i c.in_ok-i.ensures.node.used) c.in_ok-i.ensures.node.used.last (link_passed (state c.args.geometry.now c.args.image.now) c.args.caller.cred c.args.source.now c.args.target.now c.in_ok-i.i c.in_ok-i.found.dir c.in_ok-i.found.name.now (sym c.in_ok-i.ensures.refusal) c.in_ok-i.ensures.node.walked c.in_ok-i.ensures.leads.walked).other

pub link-requires-clause-takes : goal.link-requires-clause-takes
link-requires-clause-takes c =
    (link_passed (state c.args.geometry.now c.args.image.now) c.args.caller.cred c.args.source.now c.args.target.now c.in_ok-i.i c.in_ok-i.found.dir c.in_ok-i.found.name.now (sym c.in_ok-i.ensures.refusal) c.in_ok-i.ensures.node.walked c.in_ok-i.ensures.leads.walked).takes

pub link-requires-clause-links : goal.link-requires-clause-links
unfolding tree
link-requires-clause-links c =
    (link_passed (state c.args.geometry.now c.args.image.now) c.args.caller.cred c.args.source.now c.args.target.now c.in_ok-i.i c.in_ok-i.found.dir c.in_ok-i.found.name.now (sym c.in_ok-i.ensures.refusal) c.in_ok-i.ensures.node.walked c.in_ok-i.ensures.leads.walked).links

pub link-requires-clause-room : goal.link-requires-clause-room
link-requires-clause-room c =
    (link_passed (state c.args.geometry.now c.args.image.now) c.args.caller.cred c.args.source.now c.args.target.now c.in_ok-i.i c.in_ok-i.found.dir c.in_ok-i.found.name.now (sym c.in_ok-i.ensures.refusal) c.in_ok-i.ensures.node.walked c.in_ok-i.ensures.leads.walked).room

pub overflow_sub-result : goal.overflow_sub-result
overflow_sub-result c =
    let room : entry_need (state c.args.geometry.now c.args.image.now) c.in_ok-i.found.dir ≤ free_in (state c.args.geometry.now c.args.image.now) = (link_passed (state c.args.geometry.now c.args.image.now) c.args.caller.cred c.args.source.now c.args.target.now c.in_ok-i.i c.in_ok-i.found.dir c.in_ok-i.found.name.now (sym c.in_ok-i.ensures.refusal) c.in_ok-i.ensures.node.walked c.in_ok-i.ensures.leads.walked).room in
    let count : c.args.free ≡ free_in (state c.args.geometry.now c.args.image.now) = c.requires.count in
    let needed : c.in_ok-i.found.place.needed ≡ entry_need (state c.args.geometry.now c.args.image.now) c.in_ok-i.found.dir = c.in_ok-i.ensures.place.needed in
    omega (arith, room, count, needed)

pub returns-clause-performed : goal.returns-clause-performed
returns-clause-performed c =
    let count : c.args.free ≡ free_in (state c.args.geometry.now c.args.image.now) = c.requires.count in
    let needed : c.in_ok-i.found.place.needed ≡ entry_need (state c.args.geometry.now c.args.image.now) c.in_ok-i.found.dir = c.in_ok-i.ensures.place.needed in
    let after : free_in (at_time c.args.caller.moment (after_link (state c.args.geometry.now c.args.image.now) c.args.caller.moment c.in_ok-i.i c.in_ok-i.found.dir c.in_ok-i.found.name.now)) ≡ free_in (state c.args.geometry.now c.args.image.now) - entry_need (state c.args.geometry.now c.args.image.now) c.in_ok-i.found.dir =
    free_after_link c.args.geometry.now c.args.image.now c.args.caller.moment c.in_ok-i.i c.in_ok-i.found.dir c.in_ok-i.found.name.now c.in_ok-i.ensures.leads.directory in
    performed_by c.args.geometry.now c.args.image.now c.link.new.image (Link c.args.caller.cred c.args.caller.moment c.args.source.now c.args.target.now) Plain
    (at_time c.args.caller.moment (after_link (state c.args.geometry.now c.args.image.now) c.args.caller.moment c.in_ok-i.i c.in_ok-i.found.dir c.in_ok-i.found.name.now))
    (c.args.free - c.in_ok-i.found.place.needed)
    (step_link (state c.args.geometry.now c.args.image.now) c.args.caller.cred c.args.caller.moment c.args.source.now c.args.target.now c.in_ok-i.i c.in_ok-i.found.dir c.in_ok-i.found.name.now c.in_ok-i.ensures.node.walked c.in_ok-i.ensures.leads.walked) tt
    c.link.ensures.changes
    (link_inodes c.args.geometry.now c.args.image.now c.link.new.image c.args.caller.moment c.in_ok-i.i c.in_ok-i.found.dir c.in_ok-i.found.name.now
    c.link.ensures.changes.makes c.link.ensures.unused)
    (link_leaves c.args.geometry.now c.args.image.now c.link.new.image c.args.caller.cred c.args.caller.moment c.args.target.now c.in_ok-i.found.dir c.in_ok-i.found.name.now
    c.in_ok-i.ensures.leads.walked c.in_ok-i.found.place.slot c.args.source.now c.in_ok-i.i c.in_ok-i.ensures.node.walked c.in_ok-i.ensures.place.slot
    c.link.ensures.list c.link.ensures.files c.link.ensures.bytes)
    (omega (arith, count, needed, after))

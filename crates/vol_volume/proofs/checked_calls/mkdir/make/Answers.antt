use Rattle.std.proofs.Common.{sym, ◌≡◌, ◌-◌, ◌+◌, ◌≤◌, arith}
use Rattle.vol_dir.specs.Tree.{tree, state}
use Rattle.vol_change.specs.Edits.{at_time}
use Rattle.vol_change.specs.Effects.{after_mkdir}
use Rattle.vol_change.specs.Ready.{entry_need, free_in}
use Rattle.vol_change.proofs.FreeAfter.{free_after_mkdir}
use Rattle.vol_volume.proofs.Accepted.{mkdir_passed}
use Rattle.vol_volume.proofs.FreeNumbers.{number_free, some_free, recorded_free, number_none}
use Rattle.vol_volume.proofs.KeptInodes.{mkdir_inodes}
use Rattle.vol_volume.proofs.LeftRests.{mkdir_leaves}
use Rattle.vol_volume.proofs.PerformedCalls.{performed_by, step_mkdir}
use Rattle.vol_volume.specs.declared.calls.Call.TheVariants.{Mkdir}
use Rattle.vol_volume.specs.declared.calls.Done.TheVariants.{Made}
use Rattle.vol_volume.proofs.checked_calls.mkdir.make.Goals as goal

pub mkdir-made-requires-clause-user : goal.mkdir-made-requires-clause-user
unfolding tree
mkdir-made-requires-clause-user c =
    (mkdir_passed (state c.args.geometry.now c.args.image.now) c.args.new.owner c.args.path.now c.in_ok-found.found.dir c.in_ok-found.found.name.now (sym c.in_ok-found.ensures.refusal) c.in_ok-found.ensures.leads.walked).0.user

pub mkdir-made-requires-clause-group : goal.mkdir-made-requires-clause-group
unfolding tree
mkdir-made-requires-clause-group c =
    (mkdir_passed (state c.args.geometry.now c.args.image.now) c.args.new.owner c.args.path.now c.in_ok-found.found.dir c.in_ok-found.found.name.now (sym c.in_ok-found.ensures.refusal) c.in_ok-found.ensures.leads.walked).0.group

pub mkdir-made-requires-clause-takes : goal.mkdir-made-requires-clause-takes
mkdir-made-requires-clause-takes c =
    (mkdir_passed (state c.args.geometry.now c.args.image.now) c.args.new.owner c.args.path.now c.in_ok-found.found.dir c.in_ok-found.found.name.now (sym c.in_ok-found.ensures.refusal) c.in_ok-found.ensures.leads.walked).0.takes

pub mkdir-made-requires-clause-room : goal.mkdir-made-requires-clause-room
mkdir-made-requires-clause-room c =
    (mkdir_passed (state c.args.geometry.now c.args.image.now) c.args.new.owner c.args.path.now c.in_ok-found.found.dir c.in_ok-found.found.name.now (sym c.in_ok-found.ensures.refusal) c.in_ok-found.ensures.leads.walked).0.room

pub mkdir-made-requires-clause-some : goal.mkdir-made-requires-clause-some
mkdir-made-requires-clause-some c =
    some_free c.args.geometry.now c.args.image.now c.ready_stands.ensures.files (mkdir_passed (state c.args.geometry.now c.args.image.now) c.args.new.owner c.args.path.now c.in_ok-found.found.dir c.in_ok-found.found.name.now (sym c.in_ok-found.ensures.refusal) c.in_ok-found.ensures.leads.walked).1

pub mkdir-made-requires-clause-recorded : goal.mkdir-made-requires-clause-recorded
mkdir-made-requires-clause-recorded c =
    recorded_free c.args.geometry.now c.args.image.now c.ready_stands.ensures.files c.args.recorded c.requires.recorded

pub overflow_sub-result : goal.overflow_sub-result
overflow_sub-result c =
    let room : (entry_need (state c.args.geometry.now c.args.image.now) c.in_ok-found.found.dir + 1) ≤ free_in (state c.args.geometry.now c.args.image.now) = (mkdir_passed (state c.args.geometry.now c.args.image.now) c.args.new.owner c.args.path.now c.in_ok-found.found.dir c.in_ok-found.found.name.now (sym c.in_ok-found.ensures.refusal) c.in_ok-found.ensures.leads.walked).0.room in
    let count : c.args.free ≡ free_in (state c.args.geometry.now c.args.image.now) = c.requires.count in
    let needed : c.in_ok-found.found.place.needed ≡ entry_need (state c.args.geometry.now c.args.image.now) c.in_ok-found.found.dir = c.in_ok-found.ensures.place.needed in
    omega (arith, room, count, needed)

pub mkdir-made-requires-clause-links : goal.mkdir-made-requires-clause-links
unfolding tree
mkdir-made-requires-clause-links c =
    (mkdir_passed (state c.args.geometry.now c.args.image.now) c.args.new.owner c.args.path.now c.in_ok-found.found.dir c.in_ok-found.found.name.now (sym c.in_ok-found.ensures.refusal) c.in_ok-found.ensures.leads.walked).2

pub overflow_sub-result-2 : goal.overflow_sub-result-2
overflow_sub-result-2 c =
    let room : (entry_need (state c.args.geometry.now c.args.image.now) c.in_ok-found.found.dir + 1) ≤ free_in (state c.args.geometry.now c.args.image.now) = (mkdir_passed (state c.args.geometry.now c.args.image.now) c.args.new.owner c.args.path.now c.in_ok-found.found.dir c.in_ok-found.found.name.now (sym c.in_ok-found.ensures.refusal) c.in_ok-found.ensures.leads.walked).0.room in
    let count : c.args.free ≡ free_in (state c.args.geometry.now c.args.image.now) = c.requires.count in
    let needed : c.in_ok-found.found.place.needed ≡ entry_need (state c.args.geometry.now c.args.image.now) c.in_ok-found.found.dir = c.in_ok-found.ensures.place.needed in
    omega (arith, room, count, needed)

pub returns-clause-performed : goal.returns-clause-performed
returns-clause-performed c =
    let count : c.args.free ≡ free_in (state c.args.geometry.now c.args.image.now) = c.requires.count in
    let needed : c.in_ok-found.found.place.needed ≡ entry_need (state c.args.geometry.now c.args.image.now) c.in_ok-found.found.dir = c.in_ok-found.ensures.place.needed in
    let after : free_in (at_time c.args.new.moment (after_mkdir (state c.args.geometry.now c.args.image.now) c.args.new.owner c.args.new.moment c.args.new.permissions c.mkdir-made.result c.in_ok-found.found.dir c.in_ok-found.found.name.now)) ≡ free_in (state c.args.geometry.now c.args.image.now) - (entry_need (state c.args.geometry.now c.args.image.now) c.in_ok-found.found.dir + 1) =
    free_after_mkdir c.args.geometry.now c.args.image.now c.args.new.owner c.args.new.moment c.args.new.permissions c.mkdir-made.result c.in_ok-found.found.dir c.in_ok-found.found.name.now c.mkdir-made.ensures.free c.in_ok-found.ensures.leads.directory in
    performed_by c.args.geometry.now c.args.image.now c.mkdir-made.new.image (Mkdir c.args.new.owner c.args.new.moment c.args.path.now c.args.new.permissions) (Made c.mkdir-made.result)
    (at_time c.args.new.moment (after_mkdir (state c.args.geometry.now c.args.image.now) c.args.new.owner c.args.new.moment c.args.new.permissions c.mkdir-made.result c.in_ok-found.found.dir c.in_ok-found.found.name.now))
    (c.args.free - 1 - c.in_ok-found.found.place.needed)
    (step_mkdir (state c.args.geometry.now c.args.image.now) c.args.new.owner c.args.new.moment c.args.path.now c.args.new.permissions c.mkdir-made.result c.in_ok-found.found.dir c.in_ok-found.found.name.now c.in_ok-found.ensures.leads.walked)
    (number_free c.args.geometry.now c.args.image.now c.ready_stands.ensures.files c.mkdir-made.result c.mkdir-made.ensures.free)
    c.mkdir-made.ensures.changes
    (mkdir_inodes c.args.geometry.now c.args.image.now c.mkdir-made.new.image c.args.new.owner c.args.new.moment c.args.new.permissions c.mkdir-made.result
    c.in_ok-found.found.dir c.in_ok-found.found.name.now c.mkdir-made.ensures.changes.makes
    (number_none c.args.geometry.now c.args.image.now c.ready_stands.ensures.files c.mkdir-made.result c.mkdir-made.ensures.free)
    c.mkdir-made.ensures.unused c.mkdir-made.ensures.others)
    (mkdir_leaves c.args.geometry.now c.args.image.now c.mkdir-made.new.image c.args.new.owner c.args.new.moment c.args.path.now c.in_ok-found.found.dir c.in_ok-found.found.name.now
    c.in_ok-found.ensures.leads.walked c.in_ok-found.found.place.slot c.args.new.permissions c.mkdir-made.result c.in_ok-found.ensures.place.slot
    c.mkdir-made.ensures.list c.mkdir-made.ensures.files c.mkdir-made.ensures.bytes)
    (omega (arith, count, needed, after))

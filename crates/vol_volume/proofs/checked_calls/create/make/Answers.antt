use Rattle.std.proofs.Common.{sym, ◌≡◌, ◌-◌, ◌≤◌, arith}
use Rattle.vol_dir.specs.Tree.{tree, state}
use Rattle.vol_change.specs.Edits.{at_time}
use Rattle.vol_change.specs.Effects.{after_create}
use Rattle.vol_change.specs.Ready.{entry_need, free_in}
use Rattle.vol_change.proofs.FreeAfter.{free_after_create}
use Rattle.vol_volume.proofs.Accepted.{create_passed}
use Rattle.vol_volume.proofs.FreeNumbers.{number_free, some_free, recorded_free, number_none}
use Rattle.vol_volume.proofs.KeptInodes.{create_inodes}
use Rattle.vol_volume.proofs.LeftRests.{create_leaves}
use Rattle.vol_volume.proofs.PerformedCalls.{create_answered, performed_by, step_create}
use Rattle.vol_volume.specs.Verdict.{creation}
use Rattle.vol_volume.specs.declared.calls.Done.TheVariants.{Made}
use Rattle.vol_volume.proofs.checked_calls.create.make.Goals as goal

pub create-made-requires-clause-user : goal.create-made-requires-clause-user
unfolding tree
create-made-requires-clause-user c =
    (create_passed c.args.file (state c.args.geometry.now c.args.image.now) c.args.new.owner c.args.path.now c.in_ok-found.found.dir c.in_ok-found.found.name.now (sym c.in_ok-found.ensures.refusal) c.in_ok-found.ensures.leads.walked).0.user

pub create-made-requires-clause-group : goal.create-made-requires-clause-group
unfolding tree
create-made-requires-clause-group c =
    (create_passed c.args.file (state c.args.geometry.now c.args.image.now) c.args.new.owner c.args.path.now c.in_ok-found.found.dir c.in_ok-found.found.name.now (sym c.in_ok-found.ensures.refusal) c.in_ok-found.ensures.leads.walked).0.group

pub create-made-requires-clause-takes : goal.create-made-requires-clause-takes
create-made-requires-clause-takes c =
    (create_passed c.args.file (state c.args.geometry.now c.args.image.now) c.args.new.owner c.args.path.now c.in_ok-found.found.dir c.in_ok-found.found.name.now (sym c.in_ok-found.ensures.refusal) c.in_ok-found.ensures.leads.walked).0.takes

pub create-made-requires-clause-room : goal.create-made-requires-clause-room
create-made-requires-clause-room c =
    (create_passed c.args.file (state c.args.geometry.now c.args.image.now) c.args.new.owner c.args.path.now c.in_ok-found.found.dir c.in_ok-found.found.name.now (sym c.in_ok-found.ensures.refusal) c.in_ok-found.ensures.leads.walked).0.room

pub create-made-requires-clause-some : goal.create-made-requires-clause-some
create-made-requires-clause-some c =
    some_free c.args.geometry.now c.args.image.now c.ready_stands.ensures.files (create_passed c.args.file (state c.args.geometry.now c.args.image.now) c.args.new.owner c.args.path.now c.in_ok-found.found.dir c.in_ok-found.found.name.now (sym c.in_ok-found.ensures.refusal) c.in_ok-found.ensures.leads.walked).1

pub create-made-requires-clause-recorded : goal.create-made-requires-clause-recorded
create-made-requires-clause-recorded c =
    recorded_free c.args.geometry.now c.args.image.now c.ready_stands.ensures.files c.args.recorded c.requires.recorded

pub overflow_sub-result : goal.overflow_sub-result
overflow_sub-result c =
    let room : entry_need (state c.args.geometry.now c.args.image.now) c.in_ok-found.found.dir ≤ free_in (state c.args.geometry.now c.args.image.now) = (create_passed c.args.file (state c.args.geometry.now c.args.image.now) c.args.new.owner c.args.path.now c.in_ok-found.found.dir c.in_ok-found.found.name.now (sym c.in_ok-found.ensures.refusal) c.in_ok-found.ensures.leads.walked).0.room in
    let count : c.args.free ≡ free_in (state c.args.geometry.now c.args.image.now) = c.requires.count in
    let needed : c.in_ok-found.found.place.needed ≡ entry_need (state c.args.geometry.now c.args.image.now) c.in_ok-found.found.dir = c.in_ok-found.ensures.place.needed in
    omega (arith, room, count, needed)

pub returns-clause-performed : goal.returns-clause-performed
returns-clause-performed c =
    let count : c.args.free ≡ free_in (state c.args.geometry.now c.args.image.now) = c.requires.count in
    let needed : c.in_ok-found.found.place.needed ≡ entry_need (state c.args.geometry.now c.args.image.now) c.in_ok-found.found.dir = c.in_ok-found.ensures.place.needed in
    let after : free_in (at_time c.args.new.moment (after_create (state c.args.geometry.now c.args.image.now) c.args.new.owner c.args.new.moment c.args.new.permissions c.args.file c.create-made.result c.in_ok-found.found.dir c.in_ok-found.found.name.now)) ≡ free_in (state c.args.geometry.now c.args.image.now) - entry_need (state c.args.geometry.now c.args.image.now) c.in_ok-found.found.dir =
    free_after_create c.args.geometry.now c.args.image.now c.args.new.owner c.args.new.moment c.args.new.permissions c.args.file c.create-made.result c.in_ok-found.found.dir c.in_ok-found.found.name.now c.create-made.ensures.free c.in_ok-found.ensures.leads.directory in
    performed_by c.args.geometry.now c.args.image.now c.create-made.new.image (creation c.args.file c.args.new.owner c.args.new.moment c.args.path.now c.args.new.permissions) (Made c.create-made.result)
    (at_time c.args.new.moment (after_create (state c.args.geometry.now c.args.image.now) c.args.new.owner c.args.new.moment c.args.new.permissions c.args.file c.create-made.result c.in_ok-found.found.dir c.in_ok-found.found.name.now))
    (c.args.free - c.in_ok-found.found.place.needed)
    (step_create (state c.args.geometry.now c.args.image.now) c.args.new.owner c.args.new.moment c.args.path.now c.args.file c.args.new.permissions c.create-made.result c.in_ok-found.found.dir c.in_ok-found.found.name.now c.in_ok-found.ensures.leads.walked)
    (create_answered (state c.args.geometry.now c.args.image.now) c.args.new.owner c.args.new.moment c.args.path.now c.args.file c.args.new.permissions c.create-made.result
    (number_free c.args.geometry.now c.args.image.now c.ready_stands.ensures.files c.create-made.result c.create-made.ensures.free))
    c.create-made.ensures.changes
    (create_inodes c.args.geometry.now c.args.image.now c.create-made.new.image c.args.new.owner c.args.new.moment c.args.new.permissions c.args.file c.create-made.result
    c.in_ok-found.found.dir c.in_ok-found.found.name.now c.create-made.ensures.changes.makes
    (number_none c.args.geometry.now c.args.image.now c.ready_stands.ensures.files c.create-made.result c.create-made.ensures.free)
    c.create-made.ensures.unused c.create-made.ensures.others)
    (create_leaves c.args.geometry.now c.args.image.now c.create-made.new.image c.args.new.owner c.args.new.moment c.args.path.now c.in_ok-found.found.dir c.in_ok-found.found.name.now
    c.in_ok-found.ensures.leads.walked c.in_ok-found.found.place.slot c.args.file c.args.new.permissions c.create-made.result c.in_ok-found.ensures.place.slot
    c.create-made.ensures.list c.create-made.ensures.files c.create-made.ensures.bytes)
    (omega (arith, count, needed, after))

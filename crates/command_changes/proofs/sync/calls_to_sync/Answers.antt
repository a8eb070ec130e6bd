use Rattle.std.proofs.Common.{◌≡◌, [], rules}
use Rattle.std.proofs.lemmas.Result.{err_from_is_err_and}
use Rattle.vol_volume.specs.Volume.{reads_as}
use Rattle.command_changes.specs.Sync.{member_line, member_onto}
use Rattle.command_changes.proofs.PutFiles.{line_end, line_on, on_end, on_fault, on_item}
use Rattle.command_changes.proofs.sync.calls_to_sync.Goals as goal

pub returns-in_err-push_member-clause-fault : goal.returns-in_err-push_member-clause-fault
returns-in_err-push_member-clause-fault c =
    let p = err_from_is_err_and c.from_residual.result c.from_residual.ensures.1 in
    rw (p.1, p.2)
    (λ other. on_fault (member_onto (reads_as c.args.volume.now.edition c.args.volume.now.image).tree c.args.syncing) _ _ _ _ _ _
    c.members.invariant.0 c.in-Some.ensures.items (c.in_err-push_member.ensures.fault other))

pub members-preserved : goal.members-preserved
members-preserved c = (
  on_item (member_onto (reads_as c.args.volume.now.edition c.args.volume.now.image).tree c.args.syncing) _ _ _ _ _ _
      c.members.invariant.0 c.in-Some.ensures.items c.in_ok-push_member.ensures.calls,
  rw c.in_ok-push_member.ensures.lines
      (line_on (member_line (reads_as c.args.volume.now.edition c.args.volume.now.image).tree c.args.syncing) _ _ _ _ _
      c.members.invariant.1 c.in-Some.ensures.items),
)

pub returns-clause-calls : goal.returns-clause-calls
returns-clause-calls c =
    let none : c.members.left.items ≡ [] = search rules in
    on_end (member_onto (reads_as c.args.volume.now.edition c.args.volume.now.image).tree c.args.syncing) _ _ _ c.members.invariant.0 none

pub returns-clause-lines : goal.returns-clause-lines
returns-clause-lines c =
    let none : c.members.left.items ≡ [] = search rules in
    line_end (member_line (reads_as c.args.volume.now.edition c.args.volume.now.image).tree c.args.syncing) _ _ _ c.members.invariant.1 none

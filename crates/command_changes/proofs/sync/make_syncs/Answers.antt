use Rattle.std.proofs.Common.{◌≡◌, ◌==◌, ◌∙◌, ap, arith, inl, length, subst, vec_len}
use Rattle.std.proofs.lemmas.Result.{err_from_is_err_and}
use Rattle.vol_dir.specs.Tree.{Tree}
use Rattle.vol_volume.specs.Volume.{Mounted, reads_as}
use Rattle.command_changes.specs.Extras.{calls_after, lines_after}
use Rattle.command_changes.specs.Sync.{IsSame}
use Rattle.command_changes.proofs.PutFiles.{all_put}
use Rattle.command_changes.proofs.SyncedTrees.{met_here, not_planned, not_synced}
use Rattle.command_changes.proofs.sync.make_syncs.Goals as goal

pub returns-in_err-volume-clause-fault : goal.returns-in_err-volume-clause-fault
returns-in_err-volume-clause-fault c =
    let p = err_from_is_err_and c.from_residual.result c.from_residual.ensures.1 in rw (p.1, p.2) (inl c.in_err-volume.ensures.fault)

pub returns-in-Err-clause-fault : goal.returns-in-Err-clause-fault
returns-in-Err-clause-fault c =
    not_planned _ _ c.args.syncing c.args.extra c.args.members.items _ _ _ c.in_ok-volume.ensures.sound c.in_ok-volume.ensures.mounted c.in-Err.ensures.fault c.unplanned.ensures

pub returns-in_err-make-clause-fault : goal.returns-in_err-make-clause-fault
returns-in_err-make-clause-fault c =
    let p = err_from_is_err_and c.from_residual-in_err-make.result c.from_residual-in_err-make.ensures.1 in
    rw (p.1, p.2)
    (not_synced _ _ c.args.syncing c.args.extra c.args.members.items _ _ c.in-Ok.plan _ c.in_ok-volume.ensures.sound c.in_ok-volume.ensures.mounted c.in-Ok.ensures.plan
    c.in_err-make.ensures.fault)

pub returns-clause-synced : goal.returns-clause-synced
returns-clause-synced c =
    let planned = c.in-Ok.ensures.plan in
    let size : vec_len c.in-Ok.plan.calls ≡ length c.in-Ok.plan.calls.items = omega (arith, c.in-Ok.plan.calls.ok.0) in
    record {
      founds = planned.founds;
      met = met_here _ _ c.args.syncing.directory.now c.args.extra planned.founds _ c.in_ok-volume.ensures.mounted planned.met;
      made = all_put _ _ (λ (tree : Tree). calls_after tree c.args.syncing c.args.members.items planned.founds) _ _ _
          c.in_ok-volume.ensures.sound c.in_ok-volume.ensures.mounted planned.calls c.in_ok-make.ensures.made c.check.ensures;
      lines = subst (λ (v : Mounted). c.in-Ok.plan.lines.items ≡ lines_after (reads_as v.edition v.image).tree c.args.syncing c.args.members.items planned.founds)
          c.in_ok-volume.ensures.mounted planned.lines;
      same = subst (λ (v : Mounted). IsSame (calls_after (reads_as v.edition v.image).tree c.args.syncing c.args.members.items planned.founds) c.is_empty-is_same.result)
          c.in_ok-volume.ensures.mounted (rw planned.calls (c.is_empty-is_same.ensures ∙ ap (λ n. n == 0) size));
    }

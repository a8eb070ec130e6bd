use Rattle.std.proofs.Common.{arith}
use Rattle.vol_file.proofs.StoredNames.{root_first}
use Rattle.vol_dir.specs.Tree.{state}
use Rattle.vol_change.specs.Effects.{after_chown}
use Rattle.vol_change.proofs.CallSteps.{changed, no_step, step_more}
use Rattle.vol_change.proofs.OneNode.{content_then}
use Rattle.vol_change.proofs.ReadyLaws.{ready_whole}
use Rattle.vol_change.proofs.UnusedBytes.{unused_then}
use Rattle.vol_change.proofs.UnusedNodes.{time_unused, inode_alone}
use Rattle.vol_change.proofs.image_changes.chown.chown.Goals as goal

pub put_owner-requires-clause-node : goal.put_owner-requires-clause-node
put_owner-requires-clause-node c =
    let one = root_first c.args.geometry.now.edition in
    record {
      rules = ready_whole c.args.geometry.now c.args.image.now c.requires.ready;
      first = omega (arith, one, c.requires.used.first);
      last = c.requires.used.last;
      used = c.requires.used.allocated;
    }

pub put_time-requires : goal.put_time-requires
put_time-requires c = record { rules = c.put_owner.ensures.changed.keeps.rules }

pub returns : goal.returns
returns c =
    let geometry = c.args.geometry.now in
    let old = c.args.image.now in
    let mid = c.put_owner.new.image in
    let new = c.put_time.new.image in
    record {
      changes = changed _ _ _ _ _ c.args.moment c.requires.ready
          (step_more geometry old old mid (state geometry old) (λ before. after_chown before c.args.moment c.args.uid c.args.gid c.args.i)
          (no_step geometry old c.requires.ready) c.put_owner.ensures.changed c.put_owner.ensures.graph)
          c.put_time.ensures.changed c.put_time.ensures.graph;
      list = λ blocks free. c.put_time.ensures.changed.free _ (c.put_owner.ensures.changed.free blocks free);
      files = λ j low high.
          content_then geometry old mid new j (c.put_owner.ensures.changed.content j low high tt) (c.put_time.ensures.changed.content j low high tt);
      unused = λ j low high.
          unused_then geometry old mid new j (c.put_owner.ensures.unused j low high) (time_unused geometry mid new j c.put_time.ensures.others);
      inode = inode_alone geometry old mid new c.args.i c.put_owner.ensures.others c.put_time.ensures.others;
    }

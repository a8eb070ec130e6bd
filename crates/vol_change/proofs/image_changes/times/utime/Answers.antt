use Rattle.std.proofs.Common.{arith}
use Rattle.vol_file.proofs.StoredNames.{root_first}
use Rattle.vol_dir.specs.Tree.{state}
use Rattle.vol_change.specs.Effects.{after_utime}
use Rattle.vol_change.proofs.CallSteps.{changed, no_step, step_more}
use Rattle.vol_change.proofs.OneNode.{content_then}
use Rattle.vol_change.proofs.ReadyLaws.{ready_whole}
use Rattle.vol_change.proofs.UnusedBytes.{unused_then}
use Rattle.vol_change.proofs.UnusedNodes.{time_unused, inode_alone}
use Rattle.vol_change.proofs.image_changes.times.utime.Goals as goal

pub put_times-requires : goal.put_times-requires
put_times-requires c =
    let one = root_first c.args.geometry.now.edition in
    record {
      node = record {
        rules = ready_whole c.args.geometry.now c.args.image.now c.requires.ready;
        first = omega (arith, one, c.requires.used.first);
        last = c.requires.used.last;
        used = c.requires.used.allocated;
      };
    }

pub put_time-requires : goal.put_time-requires
put_time-requires c = record { rules = c.put_times.ensures.changed.keeps.rules }

pub returns : goal.returns
returns c =
    let geometry = c.args.geometry.now in
    let old = c.args.image.now in
    let mid = c.put_times.new.image in
    let new = c.put_time.new.image in
    record {
      changes = changed _ _ _ _ _ c.args.moment c.requires.ready
          (step_more geometry old old mid (state geometry old) (λ before. after_utime before c.args.moment c.args.accessed c.args.modified c.args.i)
          (no_step geometry old c.requires.ready) c.put_times.ensures.changed c.put_times.ensures.graph)
          c.put_time.ensures.changed c.put_time.ensures.graph;
      list = λ blocks free. c.put_time.ensures.changed.free _ (c.put_times.ensures.changed.free blocks free);
      files = λ j low high.
          content_then geometry old mid new j (c.put_times.ensures.changed.content j low high tt) (c.put_time.ensures.changed.content j low high tt);
      unused = λ j low high.
          unused_then geometry old mid new j (c.put_times.ensures.unused j low high) (time_unused geometry mid new j c.put_time.ensures.others);
      inode = inode_alone geometry old mid new c.args.i c.put_times.ensures.others c.put_time.ensures.others;
    }

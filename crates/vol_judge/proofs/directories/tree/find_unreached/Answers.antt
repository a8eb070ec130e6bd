use Rattle.std.proofs.Common.{◌≡◌, ◌+◌, ◌++◌, take, drop, length, arith, rules}
use Rattle.std.proofs.lemmas.Grind.{common_steps}
use Rattle.vol_judge.specs.Directories.{root_of, IsReached, at_root}
use Rattle.vol_judge.proofs.Decisions.{fails}
use Rattle.vol_judge.proofs.EachDirectory.{directories_more}
use Rattle.vol_judge.proofs.Once.{marks_written}
use Rattle.vol_judge.proofs.Reaches.{walked_first, walked_later}
use Rattle.vol_judge.proofs.directories.tree.find_unreached.Goals as goal
use Rattle.vol_judge.proofs.directories.tree.find_unreached.Goals.{else-d-root-via-then-d-root+then-is_directory+else-not-goes_to_root, else-d-root-via-then-d-root+else-is_directory, else-d-root-via-else-d-root}

pub loop-d-init : goal.loop-d-init
loop-d-init c =
    let items = c.in_ok-walks.walks.items in
    let number : c.constants-root.result.root ≡ root_of c.args.geometry.now = rw c.constants-root.ensures in
    let len : length items ≡ c.args.geometry.now.last_inode + 1 = search rules in
    record {
      walked = rw number (walked_first c.args.geometry.now c.args.image.now items len (λ i. grind (arith, common_steps)) (omega (arith, len, c.requires.fits.root)));
      reached = λ e low is. absurd (omega (arith, low, is.first));
    }

pub loop-d-preserved : goal.loop-d-preserved
loop-d-preserved c =
    let known = c.loop-d.invariant in
    let more = directories_more (λ e. IsReached c.args.geometry.now c.args.image.now e) c.loop-d.d known.reached in
    let number : c.constants-root.result.root ≡ root_of c.args.geometry.now = rw c.constants-root.ensures in
    elim c.else-d-root.branch [
      | else-d-root-via-then-d-root+then-is_directory+else-not-goes_to_root w ↦
          let new = w.goes_to_root.new.walks in
          let kept : take c.loop-d.walks.len (new ++ drop (length new) c.loop-d.walks.items) ≡ new =
          marks_written c.loop-d.walks.len new c.loop-d.walks.items (omega (arith, w.goes_to_root.auto.walks, w.deref_mut.ensures.len)) in
          record {
            walked = rw (w.walks-is, kept) (w.goes_to_root.ensures.walked w.if-not-goes_to_root.false);
            reached = more (λ is. w.goes_to_root.ensures.reached w.if-not-goes_to_root.false);
          }
      | else-d-root-via-then-d-root+else-is_directory w ↦ record {
        walked = rw w.walks-is (walked_later known.walked);
        reached = more (λ is. absurd (fails w.is_directory.result w.is_directory.ensures w.if-is_directory.false is));
      }
      | else-d-root-via-else-d-root w ↦ record {
        walked = rw w.walks-is (walked_later known.walked);
        reached = more (λ is. rw (w.if-d-root.false, number) at_root);
      }
    ]

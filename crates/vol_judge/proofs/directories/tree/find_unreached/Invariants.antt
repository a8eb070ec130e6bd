use Rattle.std.proofs.Common.{ℕ, ◌<◌}
use Rattle.vol_dir.specs.Entries.{IsDirectory}
use Rattle.vol_judge.specs.Directories.{IsReached}
use Rattle.vol_judge.specs.Reach.{AreWalked}
use Rattle.vol_judge.proofs.directories.tree.find_unreached.Given as goal

-- Invariant: the directories before d can be reached from the root.
abbrev pub invariant-loop-d : goal.invariant-loop-d
invariant-loop-d l = record {
  walked : AreWalked l.geometry l.image l.d l.walks.items;
  reached : (e : ℕ) → e < l.d → IsDirectory l.geometry l.image e → IsReached l.geometry l.image e;
}

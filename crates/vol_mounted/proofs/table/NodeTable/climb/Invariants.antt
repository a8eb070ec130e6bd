-- Invariant of `climb`: the path of node `i` is that of node `at` followed by `path`, with `step` steps fewer left.
use Rattle.std.proofs.Common.{◌≡◌, ◌-◌, [], length}
use Rattle.vol_mounted.specs.Paths.{climb}
use Rattle.vol_mounted.proofs.table.NodeTable.climb.Given as goal

abbrev pub invariant-steps : goal.invariant-steps
invariant-steps l = climb l.self l.root (length l.self) l.i [] ≡ climb l.self l.root (length l.self - l.step) l.at l.path.items

-- Invariant: no i-number before passes the test.
use Rattle.std.proofs.Common.{◌≡◌, ◌-◌, false}
use Rattle.std.specs.List.{list_any, range_with_len}
use Rattle.vol_dir.specs.Tree.{tree}
use Rattle.vol_migrate.specs.Refuse.{is_refused_at}
use Rattle.vol_migrate.proofs.refuse.has_refused.Given as goal

abbrev pub invariant-loop-i : goal.invariant-loop-i
invariant-loop-i l = list_any (is_refused_at l.fn.devices (tree l.fn.geometry l.fn.image)) (range_with_len 1 (l.i - 1)) ≡ false

use Rattle.std.proofs.Common.{◌≡◌, ◌≤◌}
use Rattle.std.specs.List.{count_by, range_with_len}
use Rattle.vol_layout.specs.declared.mode.Kind.TheVariants as kinds
use Rattle.vol_file.specs.Rules.{kind_at}
use Rattle.vol_judge.specs.Directories.{root_of}
use Rattle.vol_reports.specs.Icheck.{is_kind}
use Rattle.vol_inspect.proofs.super_report.free_inodes.Given as goal

-- Invariant: the free i-nodes so far are counted.
abbrev pub invariant-loop-past : goal.invariant-loop-past
invariant-loop-past l = record {
  counted : l.count ≡ count_by (λ i. is_kind kinds.Free (kind_at l.geometry l.image i)) (range_with_len (root_of l.geometry) l.past);
  few : l.count ≤ l.past;
}

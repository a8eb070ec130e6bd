use Rattle.std.proofs.Common.{◌≡◌, ◌≤◌}
use Rattle.std.specs.List.{count_by, range_with_len}
use Rattle.vol_file.specs.Rules.{kind_at}
use Rattle.vol_layout.specs.declared.mode.Kind.TheVariants as kinds
use Rattle.vol_reports.specs.Icheck.{is_kind}
use Rattle.vol_catalogue.proofs.facts.file_count.Given as goal

-- Invariant: the files so far are counted.
abbrev pub invariant-loop-before : goal.invariant-loop-before
invariant-loop-before l = record {
  counted : l.count ≡ count_by (λ i. is_kind kinds.Regular (kind_at l.geometry l.image i)) (range_with_len 1 l.before);
  few : l.count ≤ l.before;
}

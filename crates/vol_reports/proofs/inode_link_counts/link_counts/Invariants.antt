use Rattle.std.proofs.Common.{◌≡◌, ℕ, ◌+◌, ◌<◌, length, get_or}
use Rattle.vol_reports.specs.Dcheck.{link_count, wants_entry}
use Rattle.vol_reports.specs.declared.inode_link_counts.LinkCount.{LinkCount}
use Rattle.vol_reports.proofs.inode_link_counts.link_counts.Given as goal

-- Invariant: the link counts of the i-numbers up to `before` have been added.
abbrev pub invariant-loop-before : goal.invariant-loop-before
invariant-loop-before l = record {
  wide : length l.links.items ≡ l.before;
  counts : (k : ℕ) (d : LinkCount) → k < l.before → (get_or l.links.items k d).links ≡ link_count l.geometry l.image (k + 1);
  wanted : (k : ℕ) (d : LinkCount) → k < l.before → (get_or l.links.items k d).wants_entry ≡ wants_entry l.geometry l.image (k + 1);
}

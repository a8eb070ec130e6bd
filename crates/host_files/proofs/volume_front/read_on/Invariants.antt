-- Invariant of `read_on`: the list has its old bytes, followed by those consumed from the source, and the source hasn't failed.
use Rattle.std.proofs.Common.{◌≡◌, ◌-◌, ◌++◌, ◌≤◌, List, ℕ, length, max, false, vec_len}
use Rattle.std.specs.Io.KnownBytes.{Consumes}
use Rattle.host_files.proofs.volume_front.read_on.Given as goal

abbrev pub invariant-pieces : goal.invariant-pieces
invariant-pieces g l = record {
  read : (more : List ℕ) × Consumes (g.S.Source.remaining l.initial.source) (g.S.Source.remaining l.source) more × (l.bytes.items ≡ l.initial.bytes.items ++ more);
  bound : length l.bytes.items ≤ max l.most (length l.initial.bytes.items);
  working : g.S.Source.failed l.source ≡ false;
}

abbrev pub decreases-pieces : goal.decreases-pieces
decreases-pieces g l = l.most - vec_len l.bytes

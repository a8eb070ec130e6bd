-- Invariant of `skip`: the number of bytes dropped so far plus `left` is `most`.
use Rattle.std.proofs.Common.{◌≡◌, ◌+◌, ℕ, List, length}
use Rattle.std.specs.Io.KnownBytes.{Consumes}
use Rattle.host_files.proofs.volume_front.skip.Given as goal

abbrev pub invariant-pieces : goal.invariant-pieces
invariant-pieces g l = record {
  lost : (lost : List ℕ) × Consumes (g.S.Source.remaining l.initial.source) (g.S.Source.remaining l.source) lost × (length lost + l.left ≡ l.most);
  kept : g.S.Source.failed l.source ≡ g.S.Source.failed l.initial.source;
}

abbrev pub decreases-pieces : goal.decreases-pieces
decreases-pieces g l = l.left

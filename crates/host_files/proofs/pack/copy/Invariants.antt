-- Invariant of `copy`: the bytes read so far were written, and with the `left` ones they are `most`.
use Rattle.std.proofs.Common.{◌≡◌, ◌+◌, ℕ, List, length}
use Rattle.std.specs.Io.KnownBytes.{Appends, Consumes}
use Rattle.host_files.proofs.pack.copy.Given as goal

abbrev pub invariant-pieces : goal.invariant-pieces
invariant-pieces g l = record {
  copied : (bytes : List ℕ) × Consumes (g.S.Source.remaining l.initial.source) (g.S.Source.remaining l.source) bytes
      × Appends (g.W.Sink.contents l.initial.sink) (g.W.Sink.contents l.sink) bytes × (length bytes + l.left ≡ l.most);
}

abbrev pub decreases-pieces : goal.decreases-pieces
decreases-pieces g l = l.left

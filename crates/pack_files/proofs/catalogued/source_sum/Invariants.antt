-- Invariant: the hasher has the bytes read so far, and with the `left` ones they are as many as wanted.
use Rattle.std.proofs.Common.{◌≡◌, ◌+◌, ℕ, List, length, false}
use Rattle.std.specs.Io.KnownBytes.{Consumes}
use Rattle.sha2.specs.Hashers.{Holds256}
use Rattle.pack_files.proofs.catalogued.source_sum.Given as goal

abbrev pub invariant-pieces : goal.invariant-pieces
invariant-pieces g l = record {
  read : (bytes : List ℕ) × Consumes (g.S.Source.remaining l.initial.source) (g.S.Source.remaining l.source) bytes
      × Holds256 l.hasher bytes × (length bytes + l.left ≡ l.size);
  working : g.S.Source.failed l.source ≡ false;
}

abbrev pub decreases-pieces : goal.decreases-pieces
decreases-pieces g l = l.left

-- Invariant of `scan_pack`: the bytes read so far were given to the scan, and with the `left` ones they are the pack.
use Rattle.std.proofs.Common.{◌≡◌, ◌+◌, ◌*◌, ℕ, List, length, false}
use Rattle.std.specs.Io.KnownBytes.{Consumes}
use Rattle.vol_identify.specs.Packs.{HasScanned}
use Rattle.vol_identify.proofs.pack_scan.scan_pack.Given as goal

abbrev pub invariant-pieces : goal.invariant-pieces
invariant-pieces g l = record {
  given : (bytes : List ℕ) × Consumes (g.S.Source.remaining l.initial.source) (g.S.Source.remaining l.source) bytes
      × HasScanned bytes l.scan × (length bytes + l.left ≡ 512 * l.blocks);
  blocks : l.scan.blocks ≡ l.blocks;
  working : g.S.Source.failed l.source ≡ false;
}

abbrev pub decreases-pieces : goal.decreases-pieces
decreases-pieces g l = l.left

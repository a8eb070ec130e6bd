use Rattle.std.proofs.Common.{◌≡◌}
use Rattle.vol_layout.specs.BlockPointers.{named}
use Rattle.vol_layout.specs.BlockMaps.{place_to}
use Rattle.vol_file.proofs.repeats.passed_end.Given as goal

-- Invariant: `block` is the block reached by the first `d` entries.
abbrev pub invariant-loop-d : goal.invariant-loop-d
invariant-loop-d l = l.block ≡ named l.geometry l.image l.i (place_to l.way.address l.way.entries l.d)

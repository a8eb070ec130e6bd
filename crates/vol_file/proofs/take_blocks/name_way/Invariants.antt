use Rattle.std.proofs.Common.{ℕ, Bool, List}
use Rattle.vol_layout.specs.BlockMaps.{place_to}
use Rattle.vol_file.specs.Steps.{Reaches, WantsWay}
use Rattle.vol_file.proofs.take_blocks.name_way.Given as goal

-- Invariant: all positions on the path down to the one reached by the first `d` entries point to blocks.
abbrev pub invariant-loop-d : goal.invariant-loop-d
invariant-loop-d l = (wanted : List ℕ → Bool) (blocks : List ℕ) → WantsWay l.geometry l.fn.image l.i wanted l.b blocks
    → Reaches l.geometry l.fn.image l.image l.i wanted (place_to l.way.address l.way.entries l.d) blocks l.block

use Rattle.std.proofs.Common.{arith}
use Rattle.vol_layout.proofs.InodeLaws.{place_manual, place_from, place_apart, place_room}
use Rattle.vol_layout.proofs.laws.inodes_stand_apart.Goals as goal

pub returns-clause-formula : goal.returns-clause-formula
returns-clause-formula c = place_manual

pub returns-clause-apart : goal.returns-clause-apart
returns-clause-apart c geometry image i j fits first less last =
    (place_from geometry.edition i, place_apart geometry.edition i j first less, place_room geometry image j fits (omega arith) last)

use Rattle.std.proofs.Common.{refl, ap}
use Rattle.vol_identify.proofs.PackScans.{begun, with_parts}
use Rattle.vol_identify.proofs.pack_scan.PackScan.new.Goals as goal

pub returns-clause-begun : goal.returns-clause-begun
returns-clause-begun c = begun _ (ap with_parts c.new-2.ensures.items) refl c.new.ensures.items

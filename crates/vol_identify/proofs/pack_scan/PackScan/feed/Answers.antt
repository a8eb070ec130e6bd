use Rattle.std.proofs.Common.{refl, rules}
use Rattle.vol_identify.proofs.PackScans.{fed}
use Rattle.vol_identify.proofs.pack_scan.PackScan.feed.Goals as goal

pub returns-clause-fed : goal.returns-clause-fed
returns-clause-fed c = λ before has room.
    fed before c.args.bytes.now c.from_bytes-window.result c.args.self _ c.ready_blocks-ready.result has room refl (search rules)
    c.ready_blocks-ready.ensures.ready refl c.in_ok-bytes_after.ensures c.in_ok-found.ensures

use Rattle.std.proofs.Common.{rules, ◌≡◌}
use Rattle.vol_views.proofs.Versions.{made_of}
use Rattle.vol_views.proofs.version.Version.new.Goals as goal

pub invariant_of-result : goal.invariant_of-result
invariant_of-result c =
    let same : c.from_bytes.result ≡ c.args.volume.now.image = search rules in
    made_of c.args.volume.now c.geometry.result.now c.from_bytes.result c.free_blocks.result c.list_of.result.log c.check.ensures c.geometry.ensures.sizes same
    c.free_blocks.ensures c.list_of.ensures

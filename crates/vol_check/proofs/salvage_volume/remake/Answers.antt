use Rattle.vol_check.proofs.Remade.{rules_zoned, rules_apart, salvaged}
use Rattle.vol_check.proofs.salvage_volume.remake.Goals as goal

pub named_blocks-requires-clause-zoned : goal.named_blocks-requires-clause-zoned
named_blocks-requires-clause-zoned c =
    rules_zoned c.args.edition c.args.image.now c.whole_geometry-geometry.result c.whole_geometry-geometry.ensures.value c.requires

pub named_blocks-requires-clause-apart : goal.named_blocks-requires-clause-apart
named_blocks-requires-clause-apart c =
    rules_apart c.args.edition c.args.image.now c.whole_geometry-geometry.result c.whole_geometry-geometry.ensures.value c.requires

pub returns-clause-salvaged : goal.returns-clause-salvaged
returns-clause-salvaged c =
    let same = c.whole_geometry-geometry.ensures.value in
    salvaged c.args.edition c.args.image.now c.rebuild.new.image c.in_ok-used.used.items c.requires
    (rw same at c.whole_geometry-geometry.ensures.fits) (rw same at c.rebuild.ensures.fits) (rw same at c.in_ok-used.ensures.named)
    (rw (same, c.deref.ensures.value) at c.rebuild.ensures.others) (rw (same, c.deref.ensures.value) at c.rebuild.ensures.free)

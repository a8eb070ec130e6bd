use Rattle.std.proofs.Common.{ap, ◌∙◌, get_or}
use Rattle.vol_mkfs.proofs.BlankVolumes.{blank_stands}
use Rattle.vol_layout.proofs.NewInodes.{zeros_at}
use Rattle.vol_mkfs.proofs.blank.BlankVolume.new.Goals as goal

pub fill-requires-clause-zeros : goal.fill-requires-clause-zeros
fill-requires-clause-zeros c k = ap (λ xs. get_or xs k 0) (c.from_bytes-first.ensures ∙ c.in-Ok.ensures.items_if_clones_equal (λ y e. e)) ∙ zeros_at 2048 k

pub invariant_of-result : goal.invariant_of-result
invariant_of-result c =
    blank_stands c.volume_of-geometry.result c.args.volume.uid c.args.volume.gid c.args.volume.now c.fill.new.image c.volume_of-geometry.ensures.makeable c.fill.ensures

use Rattle.vol_volume.proofs.StandingImages.{counts}
use Rattle.vol_volume.proofs.volume.Volume.mount.Goals as goal

pub mount_sound-requires-clause-count : goal.mount_sound-requires-clause-count
mount_sound-requires-clause-count c =
    let examined = c.in-Ok-Ok.examined in
    counts c.args.edition examined.geometry c.from_bytes-image.result examined.free (rw c.in-Ok-Ok.field-0-is at c.in-Ok-Ok.ensures.sizes)
    (rw c.in-Ok-Ok.field-0-is at c.in-Ok-Ok.ensures.fits) (rw c.in-Ok-Ok.field-0-is at c.in-Ok-Ok.ensures.judged)
    (rw c.in-Ok-Ok.field-0-is at c.in-Ok-Ok.ensures.count)

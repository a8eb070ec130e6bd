use Rattle.vol_volume.proofs.StandingImages.{stands}
use Rattle.vol_volume.proofs.checked_calls.ready_stands.Goals as goal

pub returns : goal.returns
returns c = stands c.args.geometry.now c.args.image.now c.requires.sizes c.requires.fits c.requires.sound

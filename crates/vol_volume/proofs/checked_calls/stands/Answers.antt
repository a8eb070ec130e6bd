use Rattle.std.proofs.Common.{arith}
use Rattle.vol_volume.proofs.StandingImages.{sound_length, sound_geometry_fits, stands}
use Rattle.vol_volume.proofs.checked_calls.stands.Goals as goal

pub word-requires : goal.word-requires
word-requires c = let long = sound_length c.args.geometry.now.edition c.args.image.now c.requires.sound in omega (arith, long)

pub returns : goal.returns
returns c =
    stands c.args.geometry.now c.args.image.now c.requires.sizes
    (sound_geometry_fits c.args.geometry.now c.args.image.now c.requires.sizes c.requires.sound (omega (arith, c.word.ensures)))
    c.requires.sound

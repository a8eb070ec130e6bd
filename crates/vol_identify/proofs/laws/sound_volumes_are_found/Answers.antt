use Rattle.vol_identify.proofs.FoundVolumes.{finds_sound}
use Rattle.vol_identify.proofs.laws.sound_volumes_are_found.Goals as goal

pub returns : goal.returns
returns c = λ edition pack blocks k volume has. finds_sound edition pack blocks k volume has

use Rattle.std.proofs.Common.{refl}
use Rattle.vol_dir.specs.Walk.{walk, components}
use Rattle.vol_volume.proofs.laws.the_empty_path_is_the_root.Goals as goal

pub returns : goal.returns
unfolding walk components
returns c tree cred = (refl, refl)

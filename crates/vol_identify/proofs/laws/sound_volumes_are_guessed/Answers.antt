use Rattle.vol_identify.proofs.FoundVolumes.{guesses_sound}
use Rattle.vol_identify.proofs.laws.sound_volumes_are_guessed.Goals as goal

pub returns : goal.returns
returns c = λ edition image volume after whole size sound. guesses_sound edition image volume after whole size sound

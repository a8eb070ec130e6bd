use Rattle.vol_shared.specs.Plays.{cut}
use Rattle.vol_shared.proofs.lock.give_cut.Given as goal

abbrev pub ghosts-give : goal.ghosts-give
ghosts-give a = record { event = cut }

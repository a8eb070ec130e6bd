use Rattle.vol_shared.specs.Plays.{receipt}
use Rattle.vol_shared.proofs.lock.give_answered.Given as goal

abbrev pub ghosts-give_as : goal.ghosts-give_as
ghosts-give_as a = record { event = receipt a.receipt.now }

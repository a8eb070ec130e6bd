use Rattle.vol_archive.proofs.MetOnce.{met_once}
use Rattle.vol_archive.proofs.laws.directories_are_met_once.Goals as goal

pub returns : goal.returns
returns c = met_once

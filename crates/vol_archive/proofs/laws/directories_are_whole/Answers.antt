use Rattle.vol_archive.proofs.WholeDirectories.{directories_whole}
use Rattle.vol_archive.proofs.laws.directories_are_whole.Goals as goal

pub returns : goal.returns
returns c = directories_whole

use Rattle.vol_identify.proofs.texts.IdentifiedDisplay.fmt.Goals as goal

pub returns-in-CutOff-clause-writes : goal.returns-in-CutOff-clause-writes
returns-in-CutOff-clause-writes g c plain done = rw c.in-CutOff.is (c.write-in-CutOff.ensures.writes plain done)

use Rattle.unixvol.proofs.save.save_made.Goals as goal

pub returns-in-Part-clause-saved : goal.returns-in-Part-clause-saved
returns-in-Part-clause-saved g c = rw c.in-Part.is (rw c.in-Some.is c.save_made_part.ensures.saved)

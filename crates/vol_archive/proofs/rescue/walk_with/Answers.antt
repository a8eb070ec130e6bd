use Rattle.vol_archive.proofs.rescue.walk_with.Goals as goal

pub walk_lost-requires-clause-firsts : goal.walk_lost-requires-clause-firsts
walk_lost-requires-clause-firsts c = c.in_ok-walked-2.ensures.firsts c.args.geometry.now c.in_ok-walked.ensures.firsts

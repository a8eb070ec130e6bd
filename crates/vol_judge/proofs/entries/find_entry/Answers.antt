use Rattle.vol_judge.proofs.entries.find_entry.Goals as goal

pub find_marked-requires-clause-marks : goal.find_marked-requires-clause-marks
find_marked-requires-clause-marks c = rw c.deref_mut.ensures.value c.in_ok-marks.ensures

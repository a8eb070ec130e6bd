use Rattle.vol_judge.proofs.directories.entered.find_entered.Goals as goal

pub note_entries-requires-clause-marks : goal.note_entries-requires-clause-marks
note_entries-requires-clause-marks c = rw c.deref_mut.ensures.value c.in_ok-marks.ensures

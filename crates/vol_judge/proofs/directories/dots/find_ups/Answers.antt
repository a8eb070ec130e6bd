use Rattle.vol_judge.proofs.directories.dots.find_ups.Goals as goal

pub note_ups-requires-clause-marks : goal.note_ups-requires-clause-marks
note_ups-requires-clause-marks c = rw c.deref_mut.ensures.value c.in_ok-marks.ensures

-- The result of a run of the program, from the contents of its two streams before.
use Rattle.std.proofs.Common.{◌≡◌, ◌∙◌, Bool, false, ℕ, List, Option, inl, inr, sym}
use Rattle.command_faults.specs.Streams.{Gets, Streams}
use Rattle.unixvol.specs.Exits.{Exits, ExitsAfterSaving, ToEnd}

-- a run that starts with the contents of its two writers, of which that of standard output has not failed, and whose lines are written to the other, runs
-- to its end
pub to_end : (runs ends : Streams → ℕ → Type 0) (exits : ℕ → ℕ → Type 0) (output errors old was : Option (List ℕ)) (had_failed : Bool) (new told : Option (List ℕ)) (failed untold : Bool)
    (lines : List ℕ) (status end : ℕ) → old ≡ output → was ≡ errors → had_failed ≡ false
    → runs (record { old = old; new = new; had_failed = had_failed; failed = failed; lines = lines }) status
    → ends (record { old = old; new = new; had_failed = had_failed; failed = failed; lines = lines }) status → Gets untold was told lines → exits status end
    → ToEnd output errors runs ends exits end
to_end runs ends exits output errors old was had_failed new told failed untold lines status end held heard fresh ran ended gets exit =
    (new, failed, told, untold, lines, status, rw (held, fresh) at ran, rw (held, fresh) at ended, rw heard at gets, exit)

-- if a run ends with the status of `finish_printed`, given its own, this is the run's own status or 3
pub ended_printed : (status own finished end : ℕ) → own ≡ status → end ≡ finished → Exits own finished → Exits status end
ended_printed status own finished end told is (inl same) = inl (is ∙ same ∙ told)
ended_printed status own finished end told is (inr file) = inr (is ∙ file)

-- if a run ends with the status of `finish`, given its own, this is the run's own status, or 3 instead of 0
pub ended : (status own finished end : ℕ) → own ≡ status → end ≡ finished → ExitsAfterSaving own finished → ExitsAfterSaving status end
ended status own finished end told is (inl same) = inl (is ∙ same ∙ told)
ended status own finished end told is (inr kept) = inr (sym told ∙ kept.0, is ∙ kept.1)

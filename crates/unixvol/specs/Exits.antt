-- The end of a run of the program: its two output streams, and the exit status.
use Rattle.std.specs.Prelude.{◌≡◌, ◌⊎◌, ℕ, Bool, false, List, Option}
use Rattle.command_faults.specs.Streams.{Gets, Streams}

-- the exit status is the status of the run, or 3 (this project)
abbrev pub Exits : ℕ → ℕ → Type 0
Exits status end = (end ≡ status) ⊎ (end ≡ 3)

-- the exit status is the status of the run, or 3 in place of 0 (this project)
abbrev pub ExitsAfterSaving : ℕ → ℕ → Type 0
ExitsAfterSaving status end = (end ≡ status) ⊎ ((status ≡ 0) × (end ≡ 3))

-- a command runs to its end, from the contents of the program's two streams: for their contents afterwards, whether they failed, its lines, which were
-- written to standard error, and the status of the run, it runs and ends like this; and the exit status follows from that of the run (this project)
abbrev pub ToEnd : Option (List ℕ) → Option (List ℕ) → (Streams → ℕ → Type 0) → (Streams → ℕ → Type 0) → (ℕ → ℕ → Type 0) → ℕ → Type 0
ToEnd output errors runs ends exits end =
    (new : Option (List ℕ)) × (failed : Bool) × (told : Option (List ℕ)) × (untold : Bool) × (lines : List ℕ) × (status : ℕ)
    × runs (record { old = output; new = new; had_failed = false; failed = failed; lines = lines }) status
    × ends (record { old = output; new = new; had_failed = false; failed = failed; lines = lines }) status
    × Gets untold errors told lines × exits status end

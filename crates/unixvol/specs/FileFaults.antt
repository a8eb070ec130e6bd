-- Faults of host files, and the runs that they end.
use Rattle.std.specs.Prelude.{ℕ, Option, None, Result, Ok, Err}
use Rattle.command_faults.specs.declared.answer.Ending.{Ending}
use Rattle.command_faults.specs.declared.fault.Fault.{Fault}
use Rattle.unixvol.specs.declared.file_fault.FailedRun.{FailedRun}
use Rattle.unixvol.specs.declared.file_fault.FileFault.{FileFault}
use Rattle.unixvol.specs.declared.file_fault.FileFault.TheVariants as faults

-- the status of a file's fault: 4 if memory ran out; 2 and 1 if the words of the command line leave open which file or which edition is meant; else 3
-- (this project)
abbrev pub file_status : FileFault → ℕ
file_status (faults.Unread file why) = 3
file_status (faults.UnreadBelow path why) = 3
file_status (faults.Short path block) = 3
file_status (faults.Unwritten file why) = 3
file_status (faults.Uncopied place why) = 3
file_status (faults.Small path blocks) = 3
file_status (faults.Taken path part) = 3
file_status (faults.Ambiguous volume verdicts) = 1
file_status (faults.Moment word) = 2
file_status faults.NoMemory = 4
file_status (faults.NoMemoryFor path) = 4

-- a run that a file's fault ended, and that has nothing else to report (this project)
abbrev pub failed_by : FileFault → FailedRun
failed_by file = record { file = file; fault = None }

-- the status of a run (this project)
abbrev pub run_status : Result Ending FailedRun → ℕ
run_status (Ok ending) = ending.status
run_status (Err failed) = file_status failed.file

-- the fault of the volume that a run reports, or the lines about its bytes, if there are any (this project)
abbrev pub run_fault : Result Ending FailedRun → Option Fault
run_fault (Ok ending) = ending.fault
run_fault (Err failed) = failed.fault

-- the status of a command with this status of its own, once its bytes were to be saved: its own, or that of the fault (this project)
abbrev pub saved_status : ℕ → Result (Unit {0}) FileFault → ℕ
saved_status own (Ok done) = own
saved_status own (Err fault) = file_status fault

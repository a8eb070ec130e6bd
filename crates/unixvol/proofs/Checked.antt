-- The end of a checker's run.
use Rattle.std.proofs.Common.{ℕ, ◌≤◌, Bool, true, false, if◌then◌else◌, List, Option, inl, inr, sym, subst, arith}
use Rattle.command_reads.specs.Checkers.{findings}
use Rattle.command_terms.specs.declared.looks.OutputForm.{OutputForm}
use Rattle.command_faults.specs.Streams.{Streams}
use Rattle.vol_check.specs.declared.checker.Checker.{Checker}
use Rattle.vol_layout.specs.declared.edition.Edition.{Edition}
use Rattle.vol_listing.specs.declared.options.Screen.{Screen}
use Rattle.vol_reports.specs.Reports.{has_faults}
use Rattle.unixvol.specs.Runs.{IsEnd, IsUnread, RunsCheck, host_files}
use Rattle.host_files.specs.declared.image_file.Stamp.{Stamp}
use Rattle.unixvol.proofs.Looked.{AreFew, ends_in}

-- a run whose status is 3 or 4 ends as `IsEnd` requires
ends_badly : (streams : Streams) (status : ℕ) → (3 ≤ status) → (status ≤ 4) → IsEnd streams status
ends_badly streams status least most = record { within = most; whole = λ e. absurd (omega (arith, least, e)) }

-- the status of a report is at most 4
status_short : (faults : Bool) → (if faults then 1 else 0) ≤ 4
status_short true = omega arith
status_short false = omega arith

-- what a checker may come to has a status of at most 4, and no lines about it
findings_few : (checker : Checker) (edition : Edition) (image : List ℕ) (form : OutputForm) (screen : Screen) → AreFew 4 (findings checker edition image form screen)
findings_few checker edition image form screen = λ text wanted lines is. (subst (λ n. n ≤ 4) (sym is.0.3) (status_short (has_faults is.0.0)), λ e. is.1)

ends_unread : {F : Type 0} (remaining : F → Option (List ℕ)) (streams : Streams) (status : ℕ) → IsUnread remaining status → IsEnd streams status
ends_unread remaining streams status (inl is) = ends_badly streams status (omega (arith, is)) (omega (arith, is))
ends_unread remaining streams status (inr memory) = ends_badly streams status (omega (arith, memory.0)) (omega (arith, memory.0))

-- a checker's run ends with a status of at most 4, and with 0 only if everything was printed and no fault was reported
pub ends_checked : {F : Type 0} (at : ℕ) (remaining contents : F → Option (List ℕ)) (had : F → Stamp → Type 0) (stood : Stamp → Type 0) (streams : Streams)
    (screen : Screen) (edition : Edition) (checker : Checker) (form : OutputForm) (status : ℕ)
    → RunsCheck streams (host_files at remaining contents had stood) screen edition checker form status → IsEnd streams status
ends_checked at remaining contents had stood streams screen edition checker form status (inl nothing) = ends_unread remaining streams status nothing.0
ends_checked at remaining contents had stood streams screen edition checker form status (inr (image, given, checks)) =
    ends_in 4 form (findings checker edition image form screen) streams status (omega arith) (findings_few checker edition image form screen) checks

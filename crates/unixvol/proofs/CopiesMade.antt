-- The end of `salvage -n`, of `salvage -o` and of `repair`.
use Rattle.std.proofs.Common.{ℕ, ◌≤◌, true, List, Option, None, Some, inl, inr, refl, sym, subst, arith}
use Rattle.std.specs.Option.{is_some}
use Rattle.std.specs.Io.KnownBytes.{Keeps}
use Rattle.command_faults.proofs.Concluded.{fault_few}
use Rattle.command_faults.specs.Streams.{Streams}
use Rattle.command_faults.specs.declared.fault.Fault.{Fault}
use Rattle.command_reads.specs.Print.{IsTold, Prints}
use Rattle.host_files.specs.Save.{IsTaken}
use Rattle.host_files.specs.declared.image_file.Stamp.{Stamp}
use Rattle.vol_layout.specs.declared.edition.Edition.{Edition}
use Rattle.unixvol.proofs.Concluded.{ends_remarked, ends_unread}
use Rattle.unixvol.specs.Reports.{IsReportTold}
use Rattle.unixvol.specs.Runs.{Ends, IsStatusOfFileOrMemory, ReportsCopy, RunsCopying, SavesCopy, but_remarks, host_files}

-- the end of a run that reports a fault
pub ends_told : (streams : Streams) (fault : Fault) (status : ℕ) → IsTold streams fault status → Ends streams status
ends_told streams fault status told =
    let one : 1 ≤ status = subst (λ n. 1 ≤ n) (sym told.status) (fault_few fault).0 in
    let four : status ≤ 4 = subst (λ n. n ≤ 4) (sym told.status) (fault_few fault).1 in
    record { within = four; silent = λ _ _. told.kept; whole = λ e. absurd (omega (arith, one, e)) }

-- the end of a run that prints a text
pub ends_printed : (streams : Streams) (text : List ℕ) (status : ℕ) → Prints streams text status → Ends streams status
ends_printed streams text status (inl printed) = record {
  within = omega (arith, printed.status);
  silent = λ some _. absurd (some printed.status);
  whole = λ _. (printed.working, printed.said);
}
ends_printed streams text status (inr broken) = record {
  within = omega (arith, broken.status);
  silent = λ _ other. absurd (other broken.status);
  whole = λ e. absurd (omega (arith, broken.status, e));
}

-- the end of a run that saves nothing
pub ends_unsaved : (streams : Streams) (status : ℕ) → IsStatusOfFileOrMemory status → Keeps streams.old streams.new → Ends streams status
ends_unsaved streams status (inl three) kept =
    record { within = omega (arith, three); silent = λ _ _. kept; whole = λ e. absurd (omega (arith, three, e)) }
ends_unsaved streams status (inr four) kept =
    record { within = omega (arith, four); silent = λ _ _. kept; whole = λ e. absurd (omega (arith, four, e)) }

-- the end of a run that succeeds with a report on standard error
ends_reporting : (streams : Streams) (report : List ℕ) (status : ℕ) → IsReportTold streams report status → Ends (but_remarks true streams) status
ends_reporting streams report status told =
    record { within = omega (arith, told.status); silent = λ some _. absurd (some told.status); whole = λ _. (told.working, refl) }

ends_copy : (streams : Streams) (taken : List ℕ → Type 0) (stood : Stamp → Type 0) (bytes report : List ℕ) (status : ℕ)
    → SavesCopy streams taken stood bytes report status → Ends (but_remarks true streams) status
ends_copy streams taken stood bytes report status (inl saved) = ends_remarked true streams status (ends_printed streams report status saved.1)
ends_copy streams taken stood bytes report status (inr (inl (one, saved, told))) = ends_reporting streams report status told
ends_copy streams taken stood bytes report status (inr (inr unsaved)) =
    ends_remarked true streams status (ends_unsaved streams status unsaved.0 unsaved.1)

ends_reported : {A : Type 0} (copy : Option A) (streams : Streams) (taken : List ℕ → Type 0) (stood : Stamp → Type 0) (bytes report : List ℕ) (status : ℕ)
    → ReportsCopy copy streams taken stood bytes report status → Ends (but_remarks (is_some copy) streams) status
ends_reported None streams taken stood bytes report status prints = ends_printed streams report status prints
ends_reported (Some copy) streams taken stood bytes report status saves = ends_copy streams taken stood bytes report status saves

-- a command that makes a volume from an image, and reports on it, ends as a plain command does, except that it may report on standard error if a file is
-- named for the volume
pub ends_copying : {F A : Type 0} (at : ℕ) (remaining contents : F → Option (List ℕ)) (had : F → Stamp → Type 0) (stood : Stamp → Type 0) (streams : Streams)
    (edition : Edition) (fails : List ℕ → Fault → Type 0) (makes : List ℕ → List ℕ → List ℕ → Type 0) (copy : Option A) (status : ℕ)
    → RunsCopying streams (host_files at remaining contents had stood) edition fails makes copy status → Ends (but_remarks (is_some copy) streams) status
ends_copying at remaining contents had stood streams edition fails makes copy status (inl nothing) =
    ends_remarked (is_some copy) streams status (ends_unread remaining streams status nothing.0 nothing.1)
ends_copying at remaining contents had stood streams edition fails makes copy status (inr (image, given, inl (fault, why, told))) =
    ends_remarked (is_some copy) streams status (ends_told streams fault status told)
ends_copying at remaining contents had stood streams edition fails makes copy status (inr (image, given, inr (bytes, report, is, reports))) =
    ends_reported copy streams (IsTaken contents) stood bytes report status reports

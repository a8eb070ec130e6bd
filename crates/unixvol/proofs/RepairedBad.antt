-- The end of `repair` of an image of which some blocks couldn't be read.
use Rattle.std.proofs.Common.{ℕ, ◌≤◌, Bool, true, false, List, Option, None, Some, inl, inr, refl, sym, subst, arith}
use Rattle.std.specs.Option.{is_some}
use Rattle.command_changes.specs.RepairLosses.{losses_status}
use Rattle.command_terms.specs.declared.options.Repairing.{Repairing}
use Rattle.command_faults.specs.Faults.{no_memory}
use Rattle.command_faults.specs.Streams.{Streams}
use Rattle.command_reads.specs.BadImages.{TellsBadUnread}
use Rattle.command_reads.specs.declared.bad_looks.BadBlocks.{BadBlocks}
use Rattle.command_reads.specs.declared.bad_looks.BadBlocks.TheVariants as reads
use Rattle.command_words.specs.declared.invocation.BadImage.{BadImage}
use Rattle.command_words.specs.declared.invocation.VolumeFile.{VolumeFile}
use Rattle.host_files.specs.declared.image_file.Stamp.{Stamp}
use Rattle.vol_layout.specs.declared.edition.Edition.{Edition}
use Rattle.vol_losses.specs.declared.given_sizes.VolumeSizes.{VolumeSizes}
use Rattle.unixvol.specs.RepairBad.{PrintsLosses, RepairsRescued, ReportsRescued, RunsRepairBad, SavesRescued}
use Rattle.unixvol.specs.Runs.{HostFiles, IsEndWithin, IsStatusOfFileOrMemory, but_remarks, host_files}
use Rattle.unixvol.proofs.BadLooks.{ends_unrescued}
use Rattle.unixvol.proofs.Looked.{ends_badly, ends_telling, ends_told, ends_unread, lines_few}

-- nothing more is required of a run that may report something
ends_remarked : (remarks : Bool) (streams : Streams) (status : ℕ) → IsEndWithin 6 streams status → IsEndWithin 6 (but_remarks remarks streams) status
ends_remarked true streams status end = record { within = end.within; whole = λ e. ((end.whole e).0, refl) }
ends_remarked false streams status end = end

ends_bad_unread : (edition : Edition) (bytes : List ℕ) (sizes : Option VolumeSizes) (streams : Streams) (status : ℕ) (bad : BadBlocks)
    → TellsBadUnread edition bytes sizes streams status bad → IsEndWithin 6 streams status
ends_bad_unread edition bytes sizes streams status (reads.Outside ranges) told = ends_unrescued edition ranges.items 0 sizes bytes streams status told
ends_bad_unread edition bytes sizes streams status (reads.Map map) (inl (ranges, is, told)) = ends_unrescued edition ranges map.at sizes bytes streams status told
ends_bad_unread edition bytes sizes streams status (reads.Map map) (inr (inl (number, flaw, fault, is, line, told))) =
    ends_badly 6 streams status (omega (arith, told.status)) (omega (arith, told.status))
ends_bad_unread edition bytes sizes streams status (reads.Map map) (inr (inr told)) = ends_told 6 streams no_memory status (omega arith) told

ends_printed : (streams : Streams) (report losses : List ℕ) (status : ℕ) → PrintsLosses streams false report losses status → IsEndWithin 6 streams status
ends_printed streams report losses status prints =
    let few = lines_few 6 5 (losses_status losses) losses (omega arith) (omega arith) refl in
    ends_telling 6 (losses_status losses) losses streams report status (omega arith) few.0 few.1 prints

ends_losses : (streams : Streams) (is_output : Bool) (report losses : List ℕ) (status : ℕ) → PrintsLosses streams is_output report losses status
    → IsEndWithin 6 (but_remarks true streams) status
ends_losses streams false report losses status prints = ends_remarked true streams status (ends_printed streams report losses status prints)
ends_losses streams true report losses status (inl printed) =
    let few = lines_few 6 5 (losses_status losses) losses (omega arith) (omega arith) refl in
    record { within = subst (λ n. n ≤ 6) (sym printed.status) few.0; whole = λ e. (printed.working, refl) }
ends_losses streams true report losses status (inr broken) =
    ends_remarked true streams status (ends_badly 6 streams status (omega (arith, broken.status)) (omega (arith, broken.status)))

ends_unsaved : (streams : Streams) (status : ℕ) → IsStatusOfFileOrMemory status → IsEndWithin 6 streams status
ends_unsaved streams status (inl three) = ends_badly 6 streams status (omega (arith, three)) (omega (arith, three))
ends_unsaved streams status (inr four) = ends_badly 6 streams status (omega (arith, four)) (omega (arith, four))

ends_saved : (streams : Streams) (taken : List ℕ → Type 0) (stood : Stamp → Type 0) (bytes report losses : List ℕ) (status : ℕ)
    → SavesRescued streams taken stood bytes report losses status → IsEndWithin 6 (but_remarks true streams) status
ends_saved streams taken stood bytes report losses status (inl (is_output, one, saved, prints)) = ends_losses streams is_output report losses status prints
ends_saved streams taken stood bytes report losses status (inr (inl unsaved)) = ends_remarked true streams status (ends_unsaved streams status unsaved.0)
ends_saved streams taken stood bytes report losses status (inr (inr told)) =
    ends_remarked true streams status (ends_told 6 streams no_memory status (omega arith) told)

ends_reported : {A : Type 0} (copy : Option A) (streams : Streams) (taken : List ℕ → Type 0) (stood : Stamp → Type 0) (bytes report losses : List ℕ) (status : ℕ)
    → ReportsRescued copy streams taken stood bytes report losses status → IsEndWithin 6 (but_remarks (is_some copy) streams) status
ends_reported None streams taken stood bytes report losses status prints = ends_printed streams report losses status prints
ends_reported (Some copy) streams taken stood bytes report losses status saves = ends_saved streams taken stood bytes report losses status saves

ends_repaired : {A : Type 0} (copy : Option A) (streams : Streams) (files : HostFiles) (volume : VolumeFile) (image : List ℕ) (lost : List Bool) (repairing : Repairing)
    (status : ℕ) → RepairsRescued streams files volume image lost copy repairing status → IsEndWithin 6 (but_remarks (is_some copy) streams) status
ends_repaired copy streams files volume image lost repairing status (inl (fault, why, told)) =
    ends_remarked (is_some copy) streams status (ends_told 6 streams fault status (omega arith) told)
ends_repaired copy streams files volume image lost repairing status (inr (bytes, report, losses, is, reports)) =
    ends_reported copy streams files.taken files.stood bytes report losses status reports

-- `repair` of an image of which some blocks couldn't be read ends with a status of at most 6, and with 0 only if all was printed, and nothing was reported,
-- unless a file is named for the copy
pub ends_repair_bad : {F A : Type 0} (at : ℕ) (remaining contents : F → Option (List ℕ)) (had : F → Stamp → Type 0) (stood : Stamp → Type 0) (streams : Streams)
    (volume : VolumeFile) (image : BadImage) (copy : Option A) (repairing : Repairing) (status : ℕ)
    → RunsRepairBad streams (host_files at remaining contents had stood) volume image copy repairing status → IsEndWithin 6 (but_remarks (is_some copy) streams) status
ends_repair_bad at remaining contents had stood streams volume image copy repairing status (inl nothing) =
    ends_remarked (is_some copy) streams status (ends_unread remaining 6 streams status (omega arith) nothing.0)
ends_repair_bad at remaining contents had stood streams volume image copy repairing status (inr (bytes, bad, known, given, inl told)) =
    ends_remarked (is_some copy) streams status (ends_bad_unread volume.edition bytes image.sizes streams status bad told)
ends_repair_bad at remaining contents had stood streams volume image copy repairing status (inr (bytes, bad, known, given, inr (read, lost, is, repairs))) =
    ends_repaired copy streams (host_files at remaining contents had stood) volume read lost repairing status repairs

-- The end of a command that shows part of an image of which some blocks couldn't be read.
use Rattle.std.proofs.Common.{◌≡◌, ◌≤◌, ◌==◌, ℕ, Bool, true, false, if◌then◌else◌, List, [], ◌∷◌, length, Option, inl, inr, arith, subst, sym}
use Rattle.std.specs.Prelude.{option_map}
use Rattle.std.specs.Result.{is_ok}
use Rattle.bad_maps.specs.declared.maps.ReadRange.{ReadRange}
use Rattle.command_faults.specs.Faults.{no_memory}
use Rattle.command_faults.specs.Streams.{Streams}
use Rattle.command_reads.specs.BadFiles.{cat_sights, get_sights}
use Rattle.command_reads.specs.BadLists.{list_sights}
use Rattle.command_reads.specs.BadLooks.{LooksBad, LooksRescued, ShowsRescued, TellsUnrescued}
use Rattle.command_reads.specs.BadOwners.{block_sights}
use Rattle.command_reads.specs.BadUses.{map_sights, uses_sights}
use Rattle.command_reads.specs.Check.{check_sights, verdict_status}
use Rattle.command_reads.specs.Export.{begun, told_status}
use Rattle.command_reads.specs.Find.{found_sights}
use Rattle.command_reads.specs.Losses.{TellsIncomplete, is_graded}
use Rattle.command_reads.specs.Sums.{sums_sights}
use Rattle.command_reads.specs.Unreached.{IsUnreached}
use Rattle.command_reads.specs.declared.bad_looks.BadBlocks.{BadBlocks}
use Rattle.command_reads.specs.declared.bad_looks.BadBlocks.TheVariants as reads
use Rattle.command_terms.specs.declared.bad_looks.BadLook.{BadLook}
use Rattle.command_terms.specs.declared.bad_looks.BadLook.TheVariants as bad_looks
use Rattle.command_words.specs.declared.invocation.BadImage.{BadImage}
use Rattle.command_words.specs.declared.invocation.VolumeFile.{VolumeFile}
use Rattle.host_files.specs.declared.image_file.Stamp.{Stamp}
use Rattle.vol_layout.specs.Geometry.{geometry_read}
use Rattle.vol_layout.specs.declared.edition.Edition.{Edition}
use Rattle.vol_listing.specs.declared.options.Screen.{Screen}
use Rattle.vol_losses.specs.declared.given_sizes.VolumeSizes.{VolumeSizes}
use Rattle.unixvol.specs.LookBad.{RunsLookBad}
use Rattle.unixvol.specs.Runs.{IsEndWithin, host_files}
use Rattle.unixvol.proofs.Looked.{ends_badly, ends_from, ends_pieces, ends_shows, ends_told, ends_unread, lines_few, most_six, told_few}

ends_incomplete : (edition : Edition) (bytes : List ℕ) (streams : Streams) (status : ℕ) → TellsIncomplete edition bytes streams status → IsEndWithin 6 streams status
ends_incomplete edition bytes streams status (inl (there, blocks, fault, is, line, told)) =
    ends_badly 6 streams status (omega (arith, told.status)) (omega (arith, told.status))
ends_incomplete edition bytes streams status (inr told) = ends_told 6 streams no_memory status (omega arith) told

pub ends_unrescued : (edition : Edition) (ranges : List ReadRange) (at : ℕ) (sizes : Option VolumeSizes) (bytes : List ℕ) (streams : Streams) (status : ℕ)
    → TellsUnrescued edition ranges at sizes bytes streams status → IsEndWithin 6 streams status
ends_unrescued edition ranges at sizes bytes streams status (inl (cleared, stated, zeros, sized, told)) = ends_incomplete edition stated streams status told
ends_unrescued edition ranges at sizes bytes streams status (inr (inl (image, lost, fault, rescued, none, line, told))) =
    ends_badly 6 streams status (omega (arith, told.status)) (omega (arith, told.status))
ends_unrescued edition ranges at sizes bytes streams status (inr (inr (inl (wrong, fault, is, invalid, line, told)))) =
    ends_badly 6 streams status (omega (arith, told.status)) (omega (arith, told.status))
ends_unrescued edition ranges at sizes bytes streams status (inr (inr (inr told))) = ends_told 6 streams no_memory status (omega arith) told

-- a look whose path isn't reached has status 5
unreached_few : (orphans : Bool) (edition : Edition) (image : List ℕ) (lost : List Bool) (path text : List ℕ) (wanted : ℕ) (lines : List ℕ)
    → IsUnreached orphans edition image lost path text wanted lines → (wanted ≤ 6) × (wanted ≡ 0 → lines ≡ [])
unreached_few orphans edition image lost path text wanted lines (why, begins, told, none, is) =
    (omega (arith, is), λ e. absurd (omega (arith, is, e)))

-- the status of a check is at most 6
verdict_six : (graded measured sound : Bool) → verdict_status graded measured sound ≤ 6
verdict_six graded measured true = omega arith
verdict_six true true false = omega arith
verdict_six true false false = omega arith
verdict_six false measured false = omega arith

-- so has a look at a node of which something is lost, or on the way to which something is; otherwise its status is that of the lines
known_few : (short : Bool) (wanted : ℕ) (lines : List ℕ) → wanted ≡ (if length lines == 0 then 0 else told_status true short)
    → (wanted ≤ 6) × (wanted ≡ 0 → lines ≡ [])
known_few short wanted lines is =
    let told = told_few true short in
    lines_few 6 (told_status true short) wanted lines told.0 told.1 is

ends_rescued : (edition : Edition) (image : List ℕ) (lost : List Bool) (screen : Screen) (streams : Streams) (status : ℕ) (look : BadLook)
    → ShowsRescued edition image lost screen streams status look → IsEndWithin 6 streams status
ends_rescued edition image lost screen streams status (bad_looks.Export path options) shows =
    ends_from 6 edition image lost path.now options screen streams status (begun options.lost edition image path.now) (most_six options.graded lost) shows
ends_rescued edition image lost screen streams status (bad_looks.Find path name orphans form) shows =
    ends_shows 6 (found_sights edition image lost path.now (option_map (λ word. word.now) name) orphans form screen) streams status (omega arith)
    (λ text wanted lines is. elim is [
      | inl found ↦
          let told = told_few true found.0 in
          lines_few 6 (told_status true found.0) wanted lines told.0 told.1 found.2
      | inr unreached ↦ unreached_few orphans edition image lost path.now text wanted lines unreached
    ]) shows
ends_rescued edition image lost screen streams status (bad_looks.Sums path form orphans) shows =
    ends_shows 6 (sums_sights edition image lost path.now form orphans) streams status (omega arith)
    (λ text wanted lines is. elim is [
      | inl summed ↦
          let graded = is_graded false lost in
          let told = told_few graded summed.0.short in
          lines_few 6 (told_status graded summed.0.short) wanted lines told.0 told.1 summed.1
      | inr unreached ↦ unreached_few orphans edition image lost path.now text wanted lines unreached
    ]) shows
ends_rescued edition image [] screen streams status (bad_looks.Check graded form) shows =
    ends_shows 6 (check_sights edition image [] graded form) streams status (omega arith)
    (λ text wanted lines is. (subst (λ n. n ≤ 6) (sym is.0.2) (verdict_six graded (is_ok (geometry_read edition image)) is.0.0), λ e. is.1)) shows
ends_rescued edition image (mark ∷ lost) screen streams status (bad_looks.Check graded form) shows =
    ends_shows 6 (check_sights edition image (mark ∷ lost) graded form) streams status (omega arith)
    (λ text wanted lines is. (subst (λ n. n ≤ 6) (sym is.0.3) (verdict_six graded (is_ok (geometry_read edition image)) false), λ e. is.1)) shows
ends_rescued edition image [] screen streams status (bad_looks.Block block form) shows =
    ends_shows 6 (block_sights edition image [] block form) streams status (omega arith) (λ text wanted lines is. (omega (arith, is.0.1), λ e. is.1)) shows
ends_rescued edition image (mark ∷ lost) screen streams status (bad_looks.Block block form) shows =
    ends_shows 6 (block_sights edition image (mark ∷ lost) block form) streams status (omega arith)
    (λ text wanted lines is. known_few is.2.short wanted lines is.2.graded) shows
ends_rescued edition image [] screen streams status (bad_looks.Map form) shows =
    ends_shows 6 (map_sights edition image [] screen form) streams status (omega arith) (λ text wanted lines is. (omega (arith, is.0.1), λ e. is.1)) shows
ends_rescued edition image (mark ∷ lost) screen streams status (bad_looks.Map form) shows =
    ends_shows 6 (map_sights edition image (mark ∷ lost) screen form) streams status (omega arith)
    (λ text wanted lines is. lines_few 6 5 wanted lines (omega arith) (omega arith) is.1) shows
ends_rescued edition image [] screen streams status bad_looks.Uses shows =
    ends_pieces 6 (uses_sights edition image []) streams status (omega arith) (λ text wanted lines is. (omega (arith, is.0.1), λ e. is.1)) shows
ends_rescued edition image (mark ∷ lost) screen streams status bad_looks.Uses shows =
    ends_pieces 6 (uses_sights edition image (mark ∷ lost)) streams status (omega arith)
    (λ text wanted lines is. lines_few 6 5 wanted lines (omega arith) (omega arith) is.1) shows
ends_rescued edition image [] screen streams status (bad_looks.List path listing) shows =
    ends_shows 6 (list_sights edition image [] path.now listing screen) streams status (omega arith)
    (λ text wanted lines is. lines_few 6 1 wanted lines (omega arith) (omega arith) is.1) shows
ends_rescued edition image (mark ∷ lost) screen streams status (bad_looks.List path listing) shows =
    ends_shows 6 (list_sights edition image (mark ∷ lost) path.now listing screen) streams status (omega arith)
    (λ text wanted lines is. elim is [
      | inl known ↦ known_few known.0.short wanted lines known.1
      | inr (why, found, way, none, five) ↦ (omega (arith, five), λ e. absurd (omega (arith, five, e)))
    ]) shows
ends_rescued edition image [] screen streams status (bad_looks.Read path damaged) shows =
    ends_shows 6 (get_sights edition image [] path.now damaged) streams status (omega arith) (λ text wanted lines is. lines_few 6 1 wanted lines (omega arith) (omega arith) is.1) shows
ends_rescued edition image (mark ∷ lost) screen streams status (bad_looks.Read path damaged) shows =
    ends_shows 6 (get_sights edition image (mark ∷ lost) path.now damaged) streams status (omega arith)
    (λ text wanted lines is. elim is [
      | inl known ↦ known_few known.0.short wanted lines known.1
      | inr (why, found, way, none, five) ↦ (omega (arith, five), λ e. absurd (omega (arith, five, e)))
    ]) shows
ends_rescued edition image [] screen streams status (bad_looks.Body node damaged) shows =
    ends_shows 6 (cat_sights edition image [] node damaged) streams status (omega arith) (λ text wanted lines is. (omega (arith, is.0.1), λ e. is.1)) shows
ends_rescued edition image (mark ∷ lost) screen streams status (bad_looks.Body node damaged) shows =
    ends_shows 6 (cat_sights edition image (mark ∷ lost) node damaged) streams status (omega arith)
    (λ text wanted lines is. elim is [
      | inl known ↦ known_few known.0.short wanted lines known.1
      | inr (why, found, way, none, five) ↦ (omega (arith, five), λ e. absurd (omega (arith, five, e)))
    ]) shows

ends_read : (edition : Edition) (bytes : List ℕ) (ranges : List ReadRange) (at : ℕ) (sizes : Option VolumeSizes) (look : BadLook) (screen : Screen) (streams : Streams)
    (status : ℕ) → LooksRescued edition bytes ranges at sizes look screen streams status → IsEndWithin 6 streams status
ends_read edition bytes ranges at sizes look screen streams status (inl (image, lost, rescued, shows)) = ends_rescued edition image lost screen streams status look shows
ends_read edition bytes ranges at sizes look screen streams status (inr told) = ends_unrescued edition ranges at sizes bytes streams status told

ends_bad : (edition : Edition) (bytes : List ℕ) (sizes : Option VolumeSizes) (look : BadLook) (screen : Screen) (streams : Streams) (status : ℕ) (bad : BadBlocks)
    → LooksBad edition bytes sizes look screen streams status bad → IsEndWithin 6 streams status
ends_bad edition bytes sizes look screen streams status (reads.Outside ranges) looks = ends_read edition bytes ranges.items 0 sizes look screen streams status looks
ends_bad edition bytes sizes look screen streams status (reads.Map map) (inl (ranges, is, looks)) =
    ends_read edition bytes ranges map.at sizes look screen streams status looks
ends_bad edition bytes sizes look screen streams status (reads.Map map) (inr (inl (number, flaw, fault, is, line, told))) =
    ends_badly 6 streams status (omega (arith, told.status)) (omega (arith, told.status))
ends_bad edition bytes sizes look screen streams status (reads.Map map) (inr (inr told)) = ends_told 6 streams no_memory status (omega arith) told

-- a look at an image of which some blocks couldn't be read ends with a status of at most 6, and with 0 only if everything was printed and no fault was
-- reported
pub ends_bad_look : {F : Type 0} (at : ℕ) (remaining contents : F → Option (List ℕ)) (had : F → Stamp → Type 0) (stood : Stamp → Type 0) (streams : Streams)
    (screen : Screen) (volume : VolumeFile) (image : BadImage) (look : BadLook) (status : ℕ)
    → RunsLookBad streams (host_files at remaining contents had stood) screen volume image look status → IsEndWithin 6 streams status
ends_bad_look at remaining contents had stood streams screen volume image look status (inl nothing) = ends_unread remaining 6 streams status (omega arith) nothing.0
ends_bad_look at remaining contents had stood streams screen volume image look status (inr done) =
    ends_bad volume.edition done.0 image.sizes look screen streams status done.1 done.4

-- Looks at an image of which some blocks couldn't be read, as a map of GNU ddrescue or a list says.
use Rattle.std.specs.Prelude.{◌≡◌, ◌⊎◌, ℕ, List, ◌++◌, Bool, false, codes, decimal, true, Option, None, Some, Ok, Err, option_map}
use Rattle.escaped_text.specs.Escape.{escaped}
use Rattle.bad_maps.specs.Lines.{fault_text}
use Rattle.bad_maps.specs.Maps.{ranges_in}
use Rattle.bad_maps.specs.declared.lines.LineFault.{LineFault}
use Rattle.bad_maps.specs.declared.maps.MapFault.{MapFault}
use Rattle.bad_maps.specs.declared.maps.MapFault.TheVariants as maps
use Rattle.bad_maps.specs.declared.maps.ReadRange.{ReadRange}
use Rattle.vol_layout.specs.declared.edition.Edition.{Edition}
use Rattle.vol_listing.specs.declared.options.Screen.{Screen}
use Rattle.vol_losses.specs.BadImages.{IsCleared, IsRescued}
use Rattle.vol_losses.specs.GivenSizes.{IsSized, are_sizes}
use Rattle.vol_losses.specs.Losses.{is_lost}
use Rattle.vol_losses.specs.declared.bad_images.RescueFault.{RescueFault}
use Rattle.vol_losses.specs.declared.bad_images.RescueFault.TheVariants as rescues
use Rattle.vol_losses.specs.declared.given_sizes.VolumeSizes.{VolumeSizes}
use Rattle.command_faults.specs.Faults.{fault_line, no_memory}
use Rattle.command_faults.specs.Streams.{Streams}
use Rattle.command_faults.specs.declared.fault.Fault.{Fault}
use Rattle.command_reads.specs.BadFiles.{cat_sights, get_sights}
use Rattle.command_reads.specs.BadLists.{list_sights}
use Rattle.command_reads.specs.BadOwners.{block_sights}
use Rattle.command_reads.specs.BadUses.{map_sights, uses_sights}
use Rattle.command_reads.specs.Check.{check_sights}
use Rattle.command_reads.specs.Export.{ExportsFrom, begun}
use Rattle.command_reads.specs.Find.{found_sights}
use Rattle.command_reads.specs.Losses.{IsUnreadEnding, TellsIncomplete}
use Rattle.command_reads.specs.Print.{IsTold, IsToldWith, Shows, ShowsInPieces}
use Rattle.command_reads.specs.Sums.{sums_sights}
use Rattle.command_reads.specs.declared.bad_looks.BadBlocks.{BadBlocks}
use Rattle.command_reads.specs.declared.bad_looks.BadBlocks.TheVariants as bads
use Rattle.command_terms.specs.declared.bad_looks.BadLook.{BadLook}
use Rattle.command_terms.specs.declared.bad_looks.BadLook.TheVariants as bad_looks
use Rattle.command_reads.specs.declared.bad_looks.BadMap.{BadMap}

-- the words for a line by its number (this project)
unfoldable pub line_start : ℕ → List ℕ
line_start number = codes ": line " ++ (decimal number ++ codes ": ")

-- the line about a map in which a line can't be read (this project)
abbrev pub map_line : List ℕ → ℕ → LineFault → List ℕ
map_line name number fault = codes "unixvol: " ++ (escaped name ++ (line_start number ++ (fault_text fault ++ codes "\n")))

-- the line about sizes that no volume of the edition has (this project)
unfoldable pub sizes_line : ℕ → ℕ → List ℕ
sizes_line blocks list_blocks =
    codes "unixvol: no volume has " ++ (decimal blocks ++ (codes " blocks with an i-list of " ++ (decimal list_blocks ++ codes "\n")))

-- the ending of a look whose map can't be read for this reason: the line that can't be read, with status 3, or out of memory (this project)
abbrev pub IsMisreadEnding : List ℕ → MapFault → ℕ → Option Fault → Type 0
IsMisreadEnding name maps.NoMemory status fault = (status ≡ 4) × (fault ≡ Some no_memory)
IsMisreadEnding name (maps.Line number flaw) status fault =
    ((told : Fault) × (fault ≡ Some told) × (fault_line told ≡ map_line name number flaw) × (status ≡ 3)) ⊎ ((status ≡ 4) × (fault ≡ Some no_memory))

-- the ending of a look at an image that isn't rescued for this reason: the line about wrong sizes, with status 2, or that of an image that isn't completed
-- (this project)
abbrev pub IsUnrescuedEnding : RescueFault → ℕ → Option Fault → Type 0
IsUnrescuedEnding (rescues.Cut why) status fault = IsUnreadEnding why status fault
IsUnrescuedEnding (rescues.Sizes sizes) status fault =
    ((told : Fault) × (fault ≡ Some told) × (fault_line told ≡ sizes_line sizes.blocks sizes.list_blocks) × (status ≡ 2))
    ⊎ ((status ≡ 4) × (fault ≡ Some no_memory))

-- a map can't be read, which is reported: its first line that can't be read and what is wrong with it, with status 3; or memory ran out (this project)
abbrev pub TellsMisread : BadMap → Streams → ℕ → Type 0
TellsMisread map streams status =
    ((number : ℕ) × (flaw : LineFault) × (fault : Fault) × (ranges_in map.text.items ≡ Err (number, flaw))
    × (fault_line fault ≡ map_line map.name.now number flaw) × IsToldWith 3 streams fault status)
    ⊎ IsTold streams no_memory status

-- no volume of the edition has the given sizes, which is reported, with status 2 (this project)
abbrev pub TellsWrongSizes : Edition → Option VolumeSizes → Streams → ℕ → Type 0
TellsWrongSizes edition sizes streams status =
    (wrong : VolumeSizes) × (fault : Fault) × (sizes ≡ Some wrong) × (are_sizes edition wrong ≡ false)
    × (fault_line fault ≡ sizes_line wrong.blocks wrong.list_blocks) × IsToldWith 2 streams fault status

-- true if the super-block is lost and no sizes are given: nothing says how large the volume and its i-list are (filsys.h)
abbrev pub is_unsized : Option VolumeSizes → List Bool → Bool
is_unsized None lost = is_lost lost 1
is_unsized (Some sizes) lost = false

-- the line about an image whose super-block is lost, if no sizes are given (this project)
abbrev pub unsized_line : List ℕ
unsized_line = codes "unixvol: the super-block is lost: give --sizes or --like\n"

-- the ending of a look at such an image: this line, with status 6, or out of memory (this project)
abbrev pub IsUnsizedEnding : ℕ → Option Fault → Type 0
IsUnsizedEnding status fault =
    ((told : Fault) × (fault ≡ Some told) × (fault_line told ≡ unsized_line) × (status ≡ 6)) ⊎ ((status ≡ 4) × (fault ≡ Some no_memory))

-- the image and its lost blocks, from the bytes in the ranges; the sizes of its volume are known (this project)
abbrev pub IsSizedRescue : Edition → List ReadRange → ℕ → Option VolumeSizes → List ℕ → List ℕ → List Bool → Type 0
IsSizedRescue edition ranges at sizes bytes image lost = IsRescued edition ranges at sizes bytes image lost × (is_unsized sizes lost ≡ false)

-- the super-block is lost and no sizes are given, which is reported, with status 6 (this project)
abbrev pub TellsUnsized : Edition → List ReadRange → ℕ → Option VolumeSizes → List ℕ → Streams → ℕ → Type 0
TellsUnsized edition ranges at sizes bytes streams status =
    (image : List ℕ) × (lost : List Bool) × (fault : Fault) × IsRescued edition ranges at sizes bytes image lost × (is_unsized sizes lost ≡ true)
    × (fault_line fault ≡ unsized_line) × IsToldWith 6 streams fault status

-- an image isn't rescued, which is reported: too many of its blocks are missing, with status 6; its super-block is lost and no sizes are given, with the
-- same status; no volume has the given sizes; or memory ran out (this project)
abbrev pub TellsUnrescued : Edition → List ReadRange → ℕ → Option VolumeSizes → List ℕ → Streams → ℕ → Type 0
TellsUnrescued edition ranges at sizes bytes streams status =
    ((cleared : List ℕ) × (stated : List ℕ) × IsCleared sizes ranges at bytes cleared × IsSized sizes edition cleared stated
    × TellsIncomplete edition stated streams status)
    ⊎ (TellsUnsized edition ranges at sizes bytes streams status ⊎ (TellsWrongSizes edition sizes streams status ⊎ IsTold streams no_memory status))

-- part of an image that was rescued is shown (this project)
abbrev pub ShowsRescued : Edition → List ℕ → List Bool → Screen → Streams → ℕ → BadLook → Type 0
ShowsRescued edition image lost screen streams status (bad_looks.Export path options) =
    ExportsFrom edition image lost path.now options screen streams status (begun options.lost edition image path.now)
ShowsRescued edition image lost screen streams status (bad_looks.Find path name orphans form) =
    Shows (found_sights edition image lost path.now (option_map (λ word. word.now) name) orphans form screen) streams status
ShowsRescued edition image lost screen streams status (bad_looks.Sums path form orphans) =
    Shows (sums_sights edition image lost path.now form orphans) streams status
ShowsRescued edition image lost screen streams status (bad_looks.Check graded form) =
    Shows (check_sights edition image lost graded form) streams status
ShowsRescued edition image lost screen streams status (bad_looks.Block block form) = Shows (block_sights edition image lost block form) streams status
ShowsRescued edition image lost screen streams status (bad_looks.Map form) = Shows (map_sights edition image lost screen form) streams status
ShowsRescued edition image lost screen streams status bad_looks.Uses = ShowsInPieces (uses_sights edition image lost) streams status
ShowsRescued edition image lost screen streams status (bad_looks.List path listing) =
    Shows (list_sights edition image lost path.now listing screen) streams status
ShowsRescued edition image lost screen streams status (bad_looks.Read path damaged) =
    Shows (get_sights edition image lost path.now damaged) streams status
ShowsRescued edition image lost screen streams status (bad_looks.Body node damaged) = Shows (cat_sights edition image lost node damaged) streams status

-- part of the image of which only the bytes in the ranges were read is shown, or a fault is reported (this project)
abbrev pub LooksRescued : Edition → List ℕ → List ReadRange → ℕ → Option VolumeSizes → BadLook → Screen → Streams → ℕ → Type 0
LooksRescued edition bytes ranges at sizes look screen streams status =
    ((image : List ℕ) × (lost : List Bool) × IsSizedRescue edition ranges at sizes bytes image lost × ShowsRescued edition image lost screen streams status look)
    ⊎ TellsUnrescued edition ranges at sizes bytes streams status

-- part of an image is shown of which only the bytes were read that a map or ranges say, or a fault is reported (this project)
abbrev pub LooksBad : Edition → List ℕ → Option VolumeSizes → BadLook → Screen → Streams → ℕ → BadBlocks → Type 0
LooksBad edition bytes sizes look screen streams status (bads.Outside ranges) = LooksRescued edition bytes ranges.items 0 sizes look screen streams status
LooksBad edition bytes sizes look screen streams status (bads.Map map) =
    ((ranges : List ReadRange) × (ranges_in map.text.items ≡ Ok ranges) × LooksRescued edition bytes ranges map.at sizes look screen streams status)
    ⊎ TellsMisread map streams status

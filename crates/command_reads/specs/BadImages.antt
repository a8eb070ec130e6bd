-- Images of which some blocks couldn't be read, for commands that make something from them.
use Rattle.std.specs.Prelude.{◌≡◌, ◌⊎◌, ℕ, List, Bool, Option, Ok}
use Rattle.bad_maps.specs.Maps.{ranges_in}
use Rattle.bad_maps.specs.declared.maps.ReadRange.{ReadRange}
use Rattle.vol_layout.specs.declared.edition.Edition.{Edition}
use Rattle.vol_losses.specs.declared.given_sizes.VolumeSizes.{VolumeSizes}
use Rattle.command_faults.specs.Streams.{Streams}
use Rattle.command_reads.specs.BadLooks.{IsSizedRescue, TellsMisread, TellsUnrescued}
use Rattle.command_reads.specs.declared.bad_looks.BadBlocks.{BadBlocks}
use Rattle.command_reads.specs.declared.bad_looks.BadBlocks.TheVariants as bads

-- the image, and its lost blocks, from the bytes that were read as a map or ranges say; the sizes of its volume are known (this project)
abbrev pub IsBadRescued : Edition → List ℕ → Option VolumeSizes → List ℕ → List Bool → BadBlocks → Type 0
IsBadRescued edition bytes sizes image lost (bads.Outside ranges) = IsSizedRescue edition ranges.items 0 sizes bytes image lost
IsBadRescued edition bytes sizes image lost (bads.Map map) =
    (ranges : List ReadRange) × (ranges_in map.text.items ≡ Ok ranges) × IsSizedRescue edition ranges map.at sizes bytes image lost

-- there is no such image, which is reported: it isn't rescued, or the map can't be read (this project)
abbrev pub TellsBadUnread : Edition → List ℕ → Option VolumeSizes → Streams → ℕ → BadBlocks → Type 0
TellsBadUnread edition bytes sizes streams status (bads.Outside ranges) = TellsUnrescued edition ranges.items 0 sizes bytes streams status
TellsBadUnread edition bytes sizes streams status (bads.Map map) =
    ((ranges : List ReadRange) × (ranges_in map.text.items ≡ Ok ranges) × TellsUnrescued edition ranges map.at sizes bytes streams status)
    ⊎ TellsMisread map streams status

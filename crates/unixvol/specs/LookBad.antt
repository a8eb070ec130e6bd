-- Commands that show part of an image of which some blocks couldn't be read: the files that they read, and their result.
use Rattle.std.specs.Prelude.{◌≡◌, ◌⊎◌, ◌*◌, ℕ, List, Option, None, Some}
use Rattle.command_faults.specs.Streams.{Streams}
use Rattle.command_reads.specs.BadLooks.{LooksBad}
use Rattle.command_reads.specs.declared.bad_looks.BadBlocks.{BadBlocks}
use Rattle.command_reads.specs.declared.bad_looks.BadBlocks.TheVariants as reads
use Rattle.command_terms.specs.declared.bad_looks.BadLook.{BadLook}
use Rattle.command_words.specs.declared.invocation.BadImage.{BadImage}
use Rattle.command_words.specs.declared.invocation.GivenBad.{GivenBad}
use Rattle.command_words.specs.declared.invocation.GivenBad.TheVariants as bads
use Rattle.command_words.specs.declared.invocation.VolumeFile.{VolumeFile}
use Rattle.vol_listing.specs.declared.options.Screen.{Screen}
use Rattle.vol_losses.specs.declared.given_sizes.VolumeSizes.{VolumeSizes}
use Rattle.unixvol.specs.Exits.{Exits, ToEnd}
use Rattle.unixvol.specs.Runs.{HostFiles, IsEndWithin, RunsNothing}

-- what says which blocks couldn't be read is read: the map from its file, or the ranges as they are (this project)
abbrev pub IsBadRead : HostFiles → VolumeFile → GivenBad → BadBlocks → Type 0
IsBadRead files volume (bads.Map name) (reads.Map map) = files.given map.text.items × (map.name.now ≡ name.now) × (map.at ≡ volume.at)
IsBadRead files volume (bads.Outside ranges) (reads.Outside others) = others ≡ ranges
IsBadRead files volume (bads.Map name) (reads.Outside others) = ⊥
IsBadRead files volume (bads.Outside ranges) (reads.Map map) = ⊥

-- the image of the volume is read: up to the end that its super-block states, or that the given sizes state; or as much of it as the file has (this project)
abbrev pub IsKnownRead : HostFiles → VolumeFile → List ℕ → Option VolumeSizes → Type 0
IsKnownRead files volume bytes None = files.shown volume.edition bytes
IsKnownRead files volume bytes (Some sizes) = files.front (512 * sizes.blocks) bytes

-- a command that shows part of an image of which some blocks couldn't be read runs: nothing is done, as one of the files can't be read; or the map, if
-- there is one, and the image are read, and what was read of the image is shown (this project)
abbrev pub RunsLookBad : Streams → HostFiles → Screen → VolumeFile → BadImage → BadLook → ℕ → Type 0
RunsLookBad streams files screen volume image look status =
    RunsNothing streams files status
    ⊎ ((bytes : List ℕ) × (bad : BadBlocks) × IsKnownRead files volume bytes image.sizes × IsBadRead files volume image.bad bad
    × LooksBad volume.edition bytes image.sizes look screen streams status bad)

-- it runs to its end, as another command that shows part of an image does; its status is at most 6 (this project)
abbrev pub LooksBadToEnd : HostFiles → Screen → Option (List ℕ) → Option (List ℕ) → VolumeFile → BadImage → BadLook → ℕ → Type 0
LooksBadToEnd files screen output errors volume image look end =
    ToEnd output errors (λ streams status. RunsLookBad streams files screen volume image look status) (λ streams status. IsEndWithin 6 streams status)
    Exits end

-- Statements on what `find`, `sums`, `ls`, `get`, `cat`, `check`, `block` and `map` print of an image of which some blocks couldn't be read, and on where its paths lead.
use Rattle.std.specs.Prelude.{◌≡◌, ◌≢◌, ◌⊎◌, ◌<◌, ◌≤◌, ℕ, Bool, false, true, List, Option, All, None, Some, Ok}
use Rattle.std.specs.List.{Any}
use Rattle.bad_maps.specs.declared.maps.ReadRange.{ReadRange}
use Rattle.vol_archive.specs.Laws.{members_of}
use Rattle.vol_dir.specs.declared.directories.FoundDirectory.{FoundDirectory}
use Rattle.vol_archive.specs.declared.met_entries.MetEntry.{MetEntry}
use Rattle.vol_change.specs.Nodes.{names_at, node_at}
use Rattle.vol_dir.specs.Access.{user}
use Rattle.vol_dir.specs.Directories.{directory_at}
use Rattle.vol_dir.specs.Entries.{HasEntries, IsDirectory}
use Rattle.vol_dir.specs.Tree.{tree}
use Rattle.vol_dir.specs.Walk.{components, walk_from}
use Rattle.vol_file.specs.Rules.{HasKinds, HasSizes}
use Rattle.vol_findings.specs.Outcomes.{Tells}
use Rattle.vol_findings.specs.declared.outcome.RuleOutcome.TheVariants.{Broken}
use Rattle.vol_findings.specs.declared.outcome.RuleOutcomes.{RuleOutcomes}
use Rattle.vol_inspect.specs.Extents.{holdings}
use Rattle.vol_inspect.specs.Owners.{naming}
use Rattle.vol_inspect.specs.Uses.{use_of}
use Rattle.vol_inspect.specs.declared.extent.Extent.{Extent}
use Rattle.vol_inspect.specs.declared.uses.Use.TheVariants as uses
use Rattle.vol_judge.specs.declared.finding.Finding.{Finding}
use Rattle.vol_layout.specs.BlockPointers.{form_at}
use Rattle.vol_layout.specs.Body.{body}
use Rattle.vol_layout.specs.Geometry.{Fits, geometry_read}
use Rattle.vol_layout.specs.declared.edition.Edition.{Edition}
use Rattle.vol_layout.specs.declared.geometry.Geometry.{Geometry}
use Rattle.vol_listing.specs.KnownSums.{known_sum}
use Rattle.vol_listing.specs.Sums.{sum_at}
use Rattle.vol_losses.specs.BadImages.{HasRead, IsRescued}
use Rattle.vol_listing.specs.Rows.{row_of}
use Rattle.vol_losses.specs.Losses.{is_lost, is_whole, node_block}
use Rattle.vol_losses.specs.declared.given_sizes.VolumeSizes.{VolumeSizes}
use Rattle.vol_rescue.specs.KnownOutcomes.{known_outcomes}
use Rattle.vol_rescue.specs.Paths.{AreSoundAbove}
use Rattle.command_reads.specs.BadUses.{known_use}
use Rattle.command_reads.specs.Cat.{file_of}
use Rattle.command_reads.specs.Export.{AreFound}
use Rattle.command_reads.specs.Unsound.{IsFileAt}
use Rattle.command_reads.specs.Ways.{unsure_on}

-- the path of each entry that `find` prints without `--lost`, and that an archive can hold, leads from the directory that was asked for to the entry's i-number
-- in every volume that has the bytes of the known blocks, if there is no line about this directory or one between them; whatever the lost blocks held (this project)
abbrev pub FoundPathsLeadRight : Type 0
FoundPathsLeadRight = (edition : Edition) (ranges : List ReadRange) (at : ℕ) (sizes : Option VolumeSizes) (bytes volume image : List ℕ) (lost : List Bool)
    (start : FoundDirectory) (founds : List MetEntry) → IsRescued edition ranges at sizes bytes image lost → HasRead sizes ranges at bytes volume → Fits start.geometry image
    → IsDirectory start.geometry image start.inode → AreFound false start.geometry image start.inode founds
    → All (λ (found : MetEntry). AreSoundAbove start.geometry image lost start.inode founds found.path
    → walk_from (tree start.geometry volume) user start.inode (components found.path) ≡ Ok found.inode) (members_of founds)

-- each sum that `sums` prints is that of the file's bytes in every volume that has the bytes of the known blocks, whatever the lost blocks held (this
-- project)
abbrev pub BadSumsAreRight : Type 0
BadSumsAreRight = (edition : Edition) (ranges : List ReadRange) (at : ℕ) (sizes : Option VolumeSizes) (bytes volume image : List ℕ) (lost : List Bool)
    (geometry : Geometry) (i : ℕ) (sum : List ℕ) → IsRescued edition ranges at sizes bytes image lost → HasRead sizes ranges at bytes volume → Fits geometry image
    → known_sum geometry image lost i ≡ Some sum → sum_at (tree geometry volume) i ≡ Some sum

-- what `ls` lists of a node whose i-node isn't lost is what it is in every volume that has the bytes of the known blocks, and a directory of which nothing is
-- lost has the same names there; whatever the lost blocks held (this project)
abbrev pub BadRowsAreRight : Type 0
BadRowsAreRight = (edition : Edition) (ranges : List ReadRange) (at : ℕ) (sizes : Option VolumeSizes) (bytes volume image : List ℕ) (lost : List Bool)
    (geometry : Geometry) (i : ℕ) → IsRescued edition ranges at sizes bytes image lost → HasRead sizes ranges at bytes volume → Fits geometry image
    → (is_lost lost (node_block geometry.edition i) ≡ false → row_of i (node_at (tree geometry volume) i) ≡ row_of i (node_at (tree geometry image) i))
    × (is_whole geometry image lost i ≡ true → names_at (tree geometry volume) i ≡ names_at (tree geometry image) i)

-- the bytes that `get` prints of a file of which nothing is lost are those of the file in every volume that has the bytes of the known blocks, whatever
-- the lost blocks held (this project)
abbrev pub BadFilesAreRight : Type 0
BadFilesAreRight = (edition : Edition) (ranges : List ReadRange) (at : ℕ) (sizes : Option VolumeSizes) (bytes volume image path : List ℕ) (lost : List Bool)
    (geometry : Geometry) (i : ℕ) → IsRescued edition ranges at sizes bytes image lost → HasRead sizes ranges at bytes volume → Fits geometry image
    → IsFileAt edition image path geometry i → is_whole geometry image lost i ≡ true → body geometry volume i ≡ body geometry image i

-- a violation of rule 3, 4 or 9 that `check` names breaks the rule in every volume that has the bytes of the known blocks, whatever the lost blocks held (this
-- project)
abbrev pub BadFindingsAreRight : Type 0
BadFindingsAreRight = (edition : Edition) (ranges : List ReadRange) (at : ℕ) (sizes : Option VolumeSizes) (bytes volume image : List ℕ) (lost : List Bool)
    (geometry : Geometry) (found : RuleOutcomes) (finding : Finding) → IsRescued edition ranges at sizes bytes image lost → HasRead sizes ranges at bytes volume
    → geometry_read edition image ≡ Ok geometry → Fits geometry image → Tells edition image found
    → let known = known_outcomes edition image lost found in
    (known.kinds ≡ Broken finding → HasKinds geometry volume → ⊥)
    × (known.sizes ≡ Broken finding → HasSizes geometry volume → ⊥)
    × (known.entries ≡ Broken finding → HasEntries geometry volume → ⊥)

-- an i-node that `block` prints as an owner of block b has that block at the position that is printed in every volume that has the bytes of the known blocks,
-- whatever the lost blocks held (this project)
abbrev pub BadOwnersAreRight : Type 0
BadOwnersAreRight = (edition : Edition) (ranges : List ReadRange) (at : ℕ) (sizes : Option VolumeSizes) (bytes volume image : List ℕ) (lost : List Bool)
    (geometry : Geometry) (b i : ℕ) (e : Extent) → IsRescued edition ranges at sizes bytes image lost → HasRead sizes ranges at bytes volume → Fits geometry image
    → 1 ≤ i → i ≤ geometry.last_inode → naming geometry image b i ≡ Some e
    → (e.block ≡ b) × (form_at geometry volume i ≡ form_at geometry image i) × Any (λ held. held ≡ e) (holdings geometry volume i)

-- the use that `map` shows of a block, if that is neither unreadable nor unknown, is its use in every volume that has the bytes of the known blocks, or the
-- block is named twice there; whatever the lost blocks held (this project)
abbrev pub BadUsesAreRight : Type 0
BadUsesAreRight = (edition : Edition) (ranges : List ReadRange) (at : ℕ) (sizes : Option VolumeSizes) (bytes volume image : List ℕ) (lost : List Bool)
    (geometry : Geometry) (b : ℕ) → IsRescued edition ranges at sizes bytes image lost → HasRead sizes ranges at bytes volume → Fits geometry image
    → b < geometry.zone_end → known_use geometry image lost b ≢ uses.Unreadable → known_use geometry image lost b ≢ uses.Unknown
    → (use_of geometry volume b ≡ known_use geometry image lost b) ⊎ (use_of geometry volume b ≡ uses.Twice)

-- the bytes that `cat` prints of an i-node of which nothing is lost, by its number or a path, are those of the i-node in every volume that has the bytes of the
-- known blocks, whatever the lost blocks held (this project)
abbrev pub BadBodiesAreRight : Type 0
BadBodiesAreRight = (edition : Edition) (ranges : List ReadRange) (at : ℕ) (sizes : Option VolumeSizes) (bytes volume image : List ℕ) (lost : List Bool)
    (geometry : Geometry) (i : ℕ) → IsRescued edition ranges at sizes bytes image lost → HasRead sizes ranges at bytes volume → Fits geometry image
    → file_of edition image i ≡ Ok geometry → is_whole geometry image lost i ≡ true → body geometry volume i ≡ body geometry image i

-- a path on which nothing is lost leads to the same directory, or to none for the same reason, in every volume that has the bytes of the known blocks;
-- whatever the lost blocks held (this project)
abbrev pub PathsAreRight : Type 0
PathsAreRight = (edition : Edition) (ranges : List ReadRange) (at : ℕ) (sizes : Option VolumeSizes) (bytes volume image : List ℕ) (lost : List Bool)
    (geometry : Geometry) (path : List ℕ) → IsRescued edition ranges at sizes bytes image lost → HasRead sizes ranges at bytes volume → Fits geometry image
    → unsure_on geometry image lost path ≡ None → directory_at geometry volume path ≡ directory_at geometry image path

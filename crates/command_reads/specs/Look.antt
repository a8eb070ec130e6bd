-- What a command that shows part of an image may come to.
use Rattle.std.specs.Prelude.{ℕ, List, [], true, option_map}
use Rattle.vol_layout.specs.declared.edition.Edition.{Edition}
use Rattle.command_faults.specs.Streams.{Streams}
use Rattle.command_reads.specs.Block.{IsBlockFault, IsBlockText}
use Rattle.command_reads.specs.Check.{checked}
use Rattle.command_reads.specs.Dump.{IsDumpFault, IsDumpText}
use Rattle.command_reads.specs.Export.{Exports}
use Rattle.command_reads.specs.Free.{IsChainFault, IsChainText}
use Rattle.command_reads.specs.Find.{AreFound}
use Rattle.command_reads.specs.Ls.{IsListing, question_of}
use Rattle.command_reads.specs.Map.{IsMap, IsMapFault, IsPictureFault}
use Rattle.command_reads.specs.MapJson.{AreUses}
use Rattle.command_reads.specs.Inode.{found}
use Rattle.command_reads.specs.Node.{number_of}
use Rattle.command_reads.specs.Print.{Sights, Shows, ShowsIn, ShowsInPieces, nothing, plainly, telling}
use Rattle.command_reads.specs.Queries.{IsObstacle}
use Rattle.command_reads.specs.Slots.{IsSlotsFault, IsSlotsText}
use Rattle.command_reads.specs.Sums.{IsManifest, IsManifestFault}
use Rattle.command_reads.specs.SuperBlock.{IsSuperFault, IsSuperText}
use Rattle.command_reads.specs.Unsound.{IsUnshown, IsUnsoundFile, IsUnsoundListing, listable, readable}
use Rattle.command_terms.specs.declared.looks.Look.{Look}
use Rattle.command_terms.specs.declared.looks.Look.TheVariants as looks
use Rattle.command_reads.specs.declared.super_block.SuperPart.TheVariants as parts
use Rattle.vol_listing.specs.declared.options.Screen.{Screen}

-- what a look may come to, for all but an export, of which `Exports` says it (this project)
abbrev pub seen : Edition → List ℕ → Screen → Look → Sights
seen edition image screen (looks.Export path options) = nothing
seen edition image screen (looks.Sums path form lost) = telling 1 (IsManifest edition image [] path.now form lost) (IsManifestFault edition image path.now lost)
seen edition image screen (looks.Block block form) = plainly (IsBlockText edition image block form) (IsBlockFault edition image block)
seen edition image screen (looks.Dump target form) = plainly (IsDumpText edition image target form) (IsDumpFault edition image target)
seen edition image screen (looks.Free form) = plainly (IsChainText edition image form) (IsChainFault edition image)
seen edition image screen (looks.Find path name lost form) =
    telling 5 (AreFound edition image [] path.now (option_map (λ word. word.now) name) lost form screen true) (IsManifestFault edition image path.now lost)
seen edition image screen (looks.Inode node form) = found edition image form (number_of edition image node)
seen edition image screen (looks.Super form) = plainly (IsSuperText edition image parts.Fields form) (IsSuperFault edition image)
seen edition image screen (looks.Df form) = plainly (IsSuperText edition image parts.Space form) (IsSuperFault edition image)
seen edition image screen (looks.Map picture file) =
    plainly (IsMap edition image screen picture (option_map (λ word. word.now) file)) (IsPictureFault edition image (option_map (λ word. word.now) file))
seen edition image screen looks.Uses = plainly (AreUses edition image) (IsMapFault edition image)
seen edition image screen (looks.Check graded form) = checked edition image graded form
seen edition image screen (looks.List path listing) =
    plainly (IsListing edition image path.now listing screen) (IsObstacle edition image (question_of listing path.now))
seen edition image screen (looks.ListUnsound path listing) =
    telling 1 (IsUnsoundListing edition image path.now listing screen) (IsUnshown edition image path.now (listable listing edition image))
seen edition image screen (looks.ReadUnsound path) =
    telling 1 (IsUnsoundFile edition image path.now) (IsUnshown edition image path.now (readable edition image))
seen edition image screen (looks.Slots path form) = plainly (IsSlotsText edition image path.now form screen) (IsSlotsFault edition image path.now)

-- the part that the command names is shown: an export, the uses of the blocks, the slots of a directory and an i-node as JSON piece by piece, all
-- others as a whole (this project)
abbrev pub Looks : Edition → List ℕ → Screen → Streams → ℕ → Look → Type 0
Looks edition image screen streams status (looks.Export path options) = Exports edition image path.now options screen streams status
Looks edition image screen streams status (looks.Inode node form) = ShowsIn form (seen edition image screen (looks.Inode node form)) streams status
Looks edition image screen streams status looks.Uses = ShowsInPieces (seen edition image screen looks.Uses) streams status
Looks edition image screen streams status (looks.Slots path form) = ShowsInPieces (seen edition image screen (looks.Slots path form)) streams status
Looks edition image screen streams status look = Shows (seen edition image screen look) streams status

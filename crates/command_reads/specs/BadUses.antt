-- What `map` shows of an image with lost blocks.
use Rattle.std.specs.Prelude.{◌≡◌, ◌*◌, ℕ, Bool, if◌then◌else◌, List, [], ◌∷◌, length, map, true, Option, None, Some, Ok}
use Rattle.std.specs.List.{range_with_len}
use Rattle.vol_inspect.specs.Svg.{picture}
use Rattle.vol_inspect.specs.Uses.{use_of}
use Rattle.vol_inspect.specs.declared.uses.Use.{Use}
use Rattle.vol_inspect.specs.declared.uses.Use.TheVariants as uses
use Rattle.vol_layout.specs.Geometry.{geometry_read}
use Rattle.vol_layout.specs.declared.edition.Edition.{Edition}
use Rattle.vol_layout.specs.declared.geometry.Geometry.{Geometry}
use Rattle.vol_listing.specs.declared.options.Screen.{Screen}
use Rattle.vol_losses.specs.Losses.{is_lost}
use Rattle.vol_rescue.specs.Lines.{TellsNamed}
use Rattle.command_reads.specs.Export.{told_status}
use Rattle.command_reads.specs.Map.{IsMap, IsMapFault, IsPictureFault, blocks_for, cells_text, is_coloured, width_on}
use Rattle.command_reads.specs.MapJson.{AreUses, runs, runs_json}
use Rattle.command_reads.specs.Print.{Sights, plainly, telling}
use Rattle.command_terms.specs.declared.looks.Picture.{Picture}
use Rattle.command_terms.specs.declared.looks.Picture.TheVariants as pictures

-- the use of a block, given its use by what is left: if nothing that is left uses it, its use isn't known, since a lost block may be what names it (this
-- project)
abbrev pub or_unknown : Use → Use
or_unknown uses.Boot = uses.Boot
or_unknown uses.SuperBlock = uses.SuperBlock
or_unknown uses.IList = uses.IList
or_unknown uses.Directory = uses.Directory
or_unknown uses.File = uses.File
or_unknown uses.Pointer = uses.Pointer
or_unknown uses.Free = uses.Free
or_unknown uses.Chain = uses.Chain
or_unknown uses.Lost = uses.Unknown
or_unknown uses.Twice = uses.Twice
or_unknown uses.Unreadable = uses.Unreadable
or_unknown uses.Unknown = uses.Unknown

-- the use of a block, given whether it is lost, and its use by what is left (this project)
abbrev pub known_as : Bool → Use → Use
known_as unread u = if unread then uses.Unreadable else or_unknown u

-- what is known of the use of block b: the image has zeros in place of its lost blocks, which name no block (this project)
abbrev pub known_use : Geometry → List ℕ → List Bool → ℕ → Use
known_use g image lost b = known_as (is_lost lost b) (use_of g image b)

-- what is known of the use of each block (this project)
abbrev pub known_uses : Geometry → List ℕ → List Bool → List Use
known_uses g image lost = map (known_use g image lost) (range_with_len 0 g.zone_end)

-- a picture of blocks with these uses: rows of letters, or squares, each with the uses of its blocks as its tool-tip (this project)
abbrev pub uses_text : List (Option Use) → Screen → Picture → List ℕ
uses_text blocks screen pictures.Cells = cells_text blocks (width_on screen) (is_coloured screen) (blocks_for (32 * width_on screen) (length blocks))
uses_text blocks screen pictures.Svg = picture (blocks_for 16384 (length blocks)) [] blocks

-- a picture of what is known of the use of each block (this project)
abbrev pub known_picture : Geometry → List ℕ → List Bool → Screen → Picture → List ℕ
known_picture g image lost screen form = uses_text (map (λ u. Some u) (known_uses g image lost)) screen form

-- the line with the number of lost blocks (this project)
abbrev pub IsCountLine : Geometry → List ℕ → List Bool → List ℕ → Type 0
IsCountLine g image lost lines = (left : Bool) × TellsNamed g image lost [] lines left

-- the block map of an image with lost blocks, and the line with their number (this project)
abbrev pub IsKnownMap : Edition → List ℕ → List Bool → Screen → Picture → List ℕ → List ℕ → Type 0
IsKnownMap edition image lost screen form text lines =
    (g : Geometry) × (geometry_read edition image ≡ Ok g) × (text ≡ known_picture g image lost screen form) × IsCountLine g image lost lines

-- what `map` may come to of an image with lost blocks: the picture and the line, with status 5; or a fault (this project)
abbrev pub known_map_sights : Edition → List ℕ → List Bool → Screen → Picture → Sights
known_map_sights edition image lost screen form = telling (told_status true true) (IsKnownMap edition image lost screen form) (IsMapFault edition image)

-- what `map` may come to of an image of which blocks may be lost: if none is, the picture of all blocks and no line, or a fault (this project)
abbrev pub map_sights : Edition → List ℕ → List Bool → Screen → Picture → Sights
map_sights edition image [] screen form = plainly (IsMap edition image screen form None) (IsPictureFault edition image None)
map_sights edition image (mark ∷ lost) screen form = known_map_sights edition image (mark ∷ lost) screen form

-- what is known of the use of each block as JSON, on one line (RFC 8259)
abbrev pub known_uses_json : Geometry → List ℕ → List Bool → List ℕ
known_uses_json g image lost = runs_json (runs (known_uses g image lost))

-- the uses of the blocks of an image with lost blocks, and the line with their number (this project)
abbrev pub AreKnownUses : Edition → List ℕ → List Bool → List ℕ → List ℕ → Type 0
AreKnownUses edition image lost text lines =
    (g : Geometry) × (geometry_read edition image ≡ Ok g) × (text ≡ known_uses_json g image lost) × IsCountLine g image lost lines

-- what `map --json` may come to of an image with lost blocks: the uses and the line, with status 5; or a fault (this project)
abbrev pub known_uses_sights : Edition → List ℕ → List Bool → Sights
known_uses_sights edition image lost = telling (told_status true true) (AreKnownUses edition image lost) (IsMapFault edition image)

-- what `map --json` may come to of an image of which blocks may be lost: if none is, the uses and no line, or a fault (this project)
abbrev pub uses_sights : Edition → List ℕ → List Bool → Sights
uses_sights edition image [] = plainly (AreUses edition image) (IsMapFault edition image)
uses_sights edition image (mark ∷ lost) = known_uses_sights edition image (mark ∷ lost)

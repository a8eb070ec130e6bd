-- Statements of the laws about the members of an archive of an image with lost blocks.
use Rattle.std.specs.Prelude.{◌≡◌, ℕ, Bool, false, List, ◌++◌, All}
use Rattle.vol_layout.specs.Geometry.{Fits, block_count}
use Rattle.vol_layout.specs.declared.geometry.Geometry.{Geometry}
use Rattle.vol_losses.specs.CutImages.{IsCompleted}
use Rattle.vol_losses.specs.Losses.{AgreesOutside}
use Rattle.vol_archive.specs.Members.{archive_bytes, member_bytes}
use Rattle.vol_archive.specs.declared.met_entries.MetEntry.{MetEntry}
use Rattle.vol_rescue.specs.Damage.{kept_entries}

-- each entry that is kept without the damaged ones has the same bytes in the archive of every image that agrees outside the lost blocks: the header of
-- its i-node, and for a regular file all bytes (this project's law)
abbrev pub MembersAreRight : Type 0
MembersAreRight = (geometry : Geometry) (lost : List Bool) (old new : List ℕ) (founds : List MetEntry) → Fits geometry old → AgreesOutside geometry lost old new
    → All (λ (found : MetEntry). member_bytes geometry new (kept_entries geometry old lost false founds) found
    ≡ member_bytes geometry old (kept_entries geometry old lost false founds) found) (kept_entries geometry old lost false founds)

-- the archive of these entries is the same in every image that agrees outside the lost blocks (this project's law)
abbrev pub ArchivesAreRight : Type 0
ArchivesAreRight = (geometry : Geometry) (lost : List Bool) (old new : List ℕ) (founds : List MetEntry) → Fits geometry old → AgreesOutside geometry lost old new
    → archive_bytes geometry new (kept_entries geometry old lost false founds) ≡ archive_bytes geometry old (kept_entries geometry old lost false founds)

-- the archive of what is kept of an image that was cut off is the archive of these entries of the image as it was, whatever was cut off (this project's
-- law)
abbrev pub CutArchivesAreRight : Type 0
CutArchivesAreRight = (geometry : Geometry) (bytes rest image : List ℕ) (lost : List Bool) (founds : List MetEntry) → Fits geometry image
    → geometry.zone_end ≡ block_count geometry.edition bytes → IsCompleted geometry.edition bytes image lost
    → archive_bytes geometry (bytes ++ rest) (kept_entries geometry image lost false founds)
    ≡ archive_bytes geometry image (kept_entries geometry image lost false founds)

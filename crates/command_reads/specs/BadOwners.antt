-- What `block` shows of an image with lost blocks.
use Rattle.std.specs.Prelude.{◌≡◌, ◌==◌, ◌||◌, ℕ, Bool, false, true, if◌then◌else◌, List, [], ◌∷◌, ◌++◌, length, codes, decimal, map, Ok}
use Rattle.std.specs.List.{list_any}
use Rattle.serde_json.specs.Data.{Data, array, boolean, member, no_members, object, string}
use Rattle.serde_json.specs.View.{items_of}
use Rattle.serde_json.specs.Written.{compact_text}
use Rattle.vol_inspect.specs.OwnerTexts.{owners_text}
use Rattle.vol_inspect.specs.Owners.{owners_of}
use Rattle.vol_inspect.specs.declared.owners.Owner.{Owner}
use Rattle.vol_inspect.specs.declared.owners.Owner.TheVariants as owners
use Rattle.vol_layout.specs.Geometry.{geometry_read}
use Rattle.vol_layout.specs.declared.edition.Edition.{Edition}
use Rattle.vol_layout.specs.declared.geometry.Geometry.{Geometry}
use Rattle.vol_listing.specs.Json.{count}
use Rattle.vol_losses.specs.Losses.{is_lost}
use Rattle.vol_rescue.specs.Lines.{TellsNamed}
use Rattle.command_reads.specs.Block.{IsBlockFault, IsBlockText, owner_data}
use Rattle.command_reads.specs.Export.{told_status}
use Rattle.command_reads.specs.Print.{Sights, plainly}
use Rattle.command_terms.specs.declared.looks.OutputForm.{OutputForm}
use Rattle.command_terms.specs.declared.looks.OutputForm.TheVariants as forms

-- true if this says that nothing uses a data block (icheck)
abbrev pub is_nobody : Owner → Bool
is_nobody owners.Outside = false
is_nobody owners.Boot = false
is_nobody owners.SuperBlock = false
is_nobody (owners.IList first last) = false
is_nobody (owners.Free link index) = false
is_nobody (owners.Node ino form e) = false
is_nobody owners.Lost = true

-- true if the use of a block isn't known, given its owners by what is left: a lost block may be one that names it (this project)
abbrev pub is_unknown : List Owner → Bool
is_unknown found = list_any is_nobody found

-- the line of block b, if it couldn't be read (this project)
unfoldable pub unread_line : ℕ → Bool → List ℕ
unread_line b unread = if unread then codes "block " ++ (decimal b ++ codes ": unreadable\n") else []

-- the line of a block that nothing uses by what is left (this project)
unfoldable pub unknown_line : ℕ → List ℕ
unknown_line b = codes "block " ++ (decimal b ++ codes ": use unknown, nothing that is left uses it\n")

-- the lines of the owners of block b that are known, or the line that none is (this project)
abbrev pub known_lines : ℕ → List Owner → List ℕ
known_lines b found = if is_unknown found then unknown_line b else owners_text b found

-- the use of a block that isn't known (this project)
abbrev pub unknown_data : Data
unknown_data = object (member (codes "use") (string (codes "unknown")) no_members)

-- the owners of a block that are known, or one use that isn't (this project)
abbrev pub known_uses : List Owner → Data
known_uses found = if is_unknown found then array (items_of (unknown_data ∷ [])) else array (items_of (map owner_data found))

-- a block, whether it couldn't be read, and its owners that are known (this project)
abbrev pub known_data : ℕ → Bool → List Owner → Data
known_data b unread found =
    object (member (codes "block") (count b)
    (member (codes "format") (count 1)
    (member (codes "unreadable") (boolean unread)
    (member (codes "uses") (known_uses found) no_members))))

-- a block and its owners that are known as JSON, on one line (RFC 8259)
abbrev pub known_json : ℕ → Bool → List Owner → List ℕ
known_json b unread found = compact_text (known_data b unread found) ++ codes "\n"

-- what is known of a block in this format: whether it couldn't be read, and its owners (this project)
abbrev pub known_in : ℕ → Bool → List Owner → OutputForm → List ℕ
known_in b unread found forms.Text = unread_line b unread ++ known_lines b found
known_in b unread found forms.Json = known_json b unread found

-- what is known of a block of an image with lost blocks, given its owners by what is left, and the line with the number of these blocks; the status is 5 if
-- the block is one of them or its use isn't known, else 1 (this project)
pub record TellsOwners (geometry : Geometry) (image : List ℕ) (lost : List Bool) (b : ℕ) (form : OutputForm) (found : List Owner) (text : List ℕ) (status : ℕ)
    (lines : List ℕ) : Type 0 where
  pub shown : text ≡ known_in b (is_lost lost b) found form
  pub short : Bool
  pub unsure : short ≡ (is_lost lost b || is_unknown found)
  pub told : (left : Bool) × TellsNamed geometry image lost [] lines left
  pub graded : status ≡ (if length lines == 0 then 0 else told_status true short)

-- what is known of a block of an image with lost blocks: the image has zeros in place of these, which name no block, so each owner rests on blocks that are
-- known (this project)
abbrev pub IsKnownBlock : Edition → List ℕ → List Bool → ℕ → OutputForm → List ℕ → ℕ → List ℕ → Type 0
IsKnownBlock edition image lost b form text status lines =
    (geometry : Geometry) × (geometry_read edition image ≡ Ok geometry)
    × TellsOwners geometry image lost b form (owners_of geometry image b) text status lines

-- what `block` may come to of an image with lost blocks: what is known of the block, or a fault (this project)
abbrev pub known_block_sights : Edition → List ℕ → List Bool → ℕ → OutputForm → Sights
known_block_sights edition image lost b form = record {
  shows = λ text status lines. IsKnownBlock edition image lost b form text status lines;
  fails = IsBlockFault edition image b;
}

-- what `block` may come to of an image of which blocks may be lost: if none is, its owners and no line, or a fault (this project)
abbrev pub block_sights : Edition → List ℕ → List Bool → ℕ → OutputForm → Sights
block_sights edition image [] b form = plainly (IsBlockText edition image b form) (IsBlockFault edition image b)
block_sights edition image (mark ∷ lost) b form = known_block_sights edition image (mark ∷ lost) b form

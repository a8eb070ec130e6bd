-- The command that shows the owners of a block.
use Rattle.std.specs.Prelude.{◌≡◌, ℕ, List, ◌++◌, codes, map, Ok, Err}
use Rattle.serde_json.specs.Data.{Data, array, member, no_members, object, string}
use Rattle.serde_json.specs.View.{items_of}
use Rattle.serde_json.specs.Written.{compact_text}
use Rattle.vol_inspect.specs.OwnerTexts.{owners_text}
use Rattle.vol_inspect.specs.Owners.{InspectsBlock, owners_of}
use Rattle.vol_inspect.specs.declared.fault.InspectFault.{InspectFault}
use Rattle.vol_inspect.specs.declared.owners.Owner.{Owner}
use Rattle.vol_inspect.specs.declared.owners.Owner.TheVariants as owners
use Rattle.vol_layout.specs.Geometry.{geometry_read}
use Rattle.vol_layout.specs.declared.edition.Edition.{Edition}
use Rattle.vol_layout.specs.declared.geometry.Geometry.{Geometry}
use Rattle.command_faults.specs.declared.fault.Fault.{Fault}
use Rattle.command_reads.specs.Faults.{uninspected}
use Rattle.command_terms.specs.declared.looks.OutputForm.{OutputForm}
use Rattle.command_terms.specs.declared.looks.OutputForm.TheVariants as forms
use Rattle.vol_listing.specs.Json.{count}

-- an owner of a block: what it is used for; of the free list the block that has the array and the index in it, of an i-node the levels of blocks
-- below the block and the first logical block (this project)
abbrev pub owner_data : Owner → Data
owner_data owners.Outside = object (member (codes "use") (string (codes "outside")) no_members)
owner_data owners.Boot = object (member (codes "use") (string (codes "boot")) no_members)
owner_data owners.SuperBlock = object (member (codes "use") (string (codes "super-block")) no_members)
owner_data (owners.IList first last) =
    object (member (codes "first_ino") (count first) (member (codes "last_ino") (count last) (member (codes "use") (string (codes "i-list")) no_members)))
owner_data (owners.Free link index) =
    object (member (codes "index") (count index) (member (codes "listed_in") (count link) (member (codes "use") (string (codes "free")) no_members)))
owner_data (owners.Node ino form e) =
    object (member (codes "ino") (count ino)
    (member (codes "level") (count e.level)
    (member (codes "logical") (count e.logical)
    (member (codes "use") (string (codes "i-node")) no_members))))
owner_data owners.Lost = object (member (codes "use") (string (codes "lost")) no_members)

-- a block and its owners (this project)
abbrev pub owners_data : ℕ → List Owner → Data
owners_data block found =
    object (member (codes "block") (count block)
    (member (codes "format") (count 1)
    (member (codes "uses") (array (items_of (map owner_data found))) no_members)))

-- a block and its owners as JSON, on one line (RFC 8259)
abbrev pub owners_json : ℕ → List Owner → List ℕ
owners_json block found = compact_text (owners_data block found) ++ codes "\n"

-- the owners of a block in this format: a line each, or one object (this project)
abbrev pub owners_in : ℕ → List Owner → OutputForm → List ℕ
owners_in block found forms.Text = owners_text block found
owners_in block found forms.Json = owners_json block found

-- the owners of a block of an image in this format (this project)
abbrev pub IsBlockText : Edition → List ℕ → ℕ → OutputForm → List ℕ → Type 0
IsBlockText edition image block form text =
    (g : Geometry) × (geometry_read edition image ≡ Ok g) × (text ≡ owners_in block (owners_of g image block) form)

-- the reason why the owners aren't shown (this project)
abbrev pub IsBlockFault : Edition → List ℕ → ℕ → Fault → Type 0
IsBlockFault edition image block fault = (why : InspectFault) × InspectsBlock edition image block (Err why) × (fault ≡ uninspected why)

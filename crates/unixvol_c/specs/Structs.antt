-- Nodes, names and volumes, as C sees them.
use Rattle.std.specs.Prelude.{◌≡◌, ℕ, List, ◌++◌, length, map, take, drop, unwrap_or, is_some, Option, Ok}
use Rattle.vol_dir.specs.Tree.{free_count, shapes}
use Rattle.vol_layout.specs.Geometry.{geometry_of}
use Rattle.vol_layout.specs.Slot.{padded_name}
use Rattle.vol_layout.specs.declared.edition.Edition.{Edition}
use Rattle.vol_layout.specs.declared.edition.Edition.TheVariants.{V6, V7}
use Rattle.vol_layout.specs.declared.mode.Kind.{Kind}
use Rattle.vol_layout.specs.declared.mode.Kind.TheVariants as kinds
use Rattle.vol_volume.specs.Volume.{Mounted}
use Rattle.vol_volume.specs.declared.queries.Query.{Query}
use Rattle.vol_volume.specs.declared.queries.Reply.TheVariants as replies
use Rattle.vol_volume.specs.declared.queries.Stat.{Stat}
use Rattle.unixvol_c.specs.Calls.{IsAnswered}
use Rattle.unixvol_c.specs.Opened.{Opened}
use Rattle.unixvol_c.specs.declared.structs.VolumeSizes.{VolumeSizes}
use Rattle.unixvol_c.specs.declared.structs.ListedName.{ListedName}
use Rattle.unixvol_c.specs.declared.structs.Node.{Node}

-- the number of a kind (this project)
abbrev pub kind_number : Kind → ℕ
kind_number kinds.Regular = 1
kind_number kinds.Directory = 2
kind_number _ = 3

-- the attributes of a node (stat, section 2 of the manual)
pub record IsNode (stat : Stat) (node : Node) : Type 0 where
  pub size : node.size ≡ stat.size
  pub accessed : node.accessed ≡ stat.accessed
  pub modified : node.modified ≡ stat.modified
  pub changed : node.changed ≡ unwrap_or stat.changed 0
  pub keeps : node.keeps_changed ≡ is_some stat.changed
  pub inode : node.inode ≡ stat.number
  pub permissions : node.permissions ≡ stat.permissions
  pub links : node.links ≡ stat.links
  pub uid : node.uid ≡ stat.uid
  pub gid : node.gid ≡ stat.gid
  pub kind : node.kind ≡ kind_number stat.kind

-- the query for a node is answered, and the node has the reply's attributes (this project)
pub record TellsNode (held : Option Opened) (query : Query) (node : Node) : Type 0 where
  pub stat : Stat
  pub answered : IsAnswered held query (Ok (replies.Stat stat))
  pub told : IsNode stat node

-- a name with its i-number, padded with zero bytes to 14 (manual section 5, directories)
abbrev pub entry_of : List ℕ × ℕ → ListedName
entry_of name = record { inode = name.1; name = padded_name (take 14 name.0) }

-- the query for names is answered: the buffer has as many names as it has room for, the rest of it is unchanged, and the count is of all names (this
-- project)
pub record TellsNames (held : Option Opened) (query : Query) (old new : List ListedName) (count : ℕ) : Type 0 where
  pub names : List (List ℕ × ℕ)
  pub answered : IsAnswered held query (Ok (replies.Names names))
  pub counted : count ≡ length names
  pub filled : new ≡ map entry_of (take (length old) names) ++ drop (length names) old

-- the number of an edition (this project)
abbrev pub edition_number : Edition → ℕ
edition_number V6 = 6
edition_number V7 = 7

-- the sizes of a volume (filsys.h)
pub record IsAbout (volume : Mounted) (about : VolumeSizes) : Type 0 where
  pub blocks : about.blocks ≡ (geometry_of volume.edition volume.image).zone_end
  pub data_start : about.data_start ≡ (geometry_of volume.edition volume.image).zone_start
  pub free_blocks : about.free_blocks ≡ free_count (geometry_of volume.edition volume.image) (shapes (geometry_of volume.edition volume.image) volume.image)
  pub last_inode : about.last_inode ≡ (geometry_of volume.edition volume.image).last_inode
  pub edition : about.edition ≡ edition_number volume.edition

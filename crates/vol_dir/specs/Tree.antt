-- A volume as its users see it: a tree of nodes, and the shape of each file.
use Rattle.std.specs.Prelude.{ℕ, ◌-◌, ◌/◌, ◌%◌, ◌&&◌, Bool, false, nat_lt, nat_le, if◌then◌else◌, List, [], ◌∷◌, Option, None, Some}
use Rattle.std.specs.List.{range_with_len, count_by, sum_by}
use Rattle.std.specs.Option.{option_map}
use Rattle.pdp_words.specs.Words.{long}
use Rattle.vol_layout.specs.Inode.{inode_of, kind_of, is_large}
use Rattle.vol_layout.specs.BlockPointers.{mode_of, form_at}
use Rattle.vol_layout.specs.Body.{body}
use Rattle.vol_layout.specs.BlockMaps.{first_count, pointer_count, levels_below, places}
use Rattle.vol_layout.specs.Super.{time_place}
use Rattle.vol_file.specs.Shape.{is_named}
use Rattle.vol_dir.specs.Entries.{slots}
use Rattle.vol_dir.specs.Names.{Names, names_of, names_in}
use Rattle.vol_layout.specs.declared.edition.Edition.{Edition}
use Rattle.vol_layout.specs.declared.edition.Edition.TheVariants.{V6, V7}
use Rattle.vol_layout.specs.declared.geometry.Geometry.{Geometry}
use Rattle.vol_layout.specs.declared.i_node.Inode.{Inode}
use Rattle.vol_layout.specs.declared.mode.Kind.{Kind}
use Rattle.vol_layout.specs.declared.mode.Kind.TheVariants as kinds
use Rattle.vol_layout.specs.declared.block_map.BlockMap.{BlockMap}
use Rattle.vol_layout.specs.declared.block_map.BlockMap.TheVariants.{Small, Large, Deep}

-- the content of a node: the bytes of a regular file, the map of a directory, or the type bits of a special file's mode and its addresses, which are
-- not interpreted (manual section 5, file system)
pub data Content : Type 0 where
  Body : List ℕ → Content
  Directory : Names → Content
  Device : ℕ → List ℕ → Content

-- a node of the tree (manual section 5, file system)
pub record Node : Type 0 where
  pub content : Content
  pub permissions : ℕ
  pub links : ℕ
  pub uid : ℕ
  pub gid : ℕ
  pub size : ℕ
  pub accessed : ℕ
  pub modified : ℕ
  pub changed : Option ℕ

-- all nodes by i-number, with the geometry of the volume and the time in its super-block (manual section 5, file system)
pub record Tree : Type 0 where
  pub geometry : Geometry
  pub time : ℕ
  pub nodes : ℕ → Option Node

-- the structure of a file, without its bytes: the positions in its block map that point to a block, whether it is large in the sixth edition, and for
-- a directory the name, if any, in each slot (this project)
pub record Shape : Type 0 where
  pub names : List ℕ → Bool
  pub large : Bool
  pub slots : List (Option (List ℕ))

-- the shape of a node without a block map (this project)
abbrev pub no_shape : Shape
no_shape = record { names = λ p. false; large = false; slots = [] }

-- a tree, with the shape of each of its files and directories (this project)
pub record State : Type 0 where
  pub tree : Tree
  pub shapes : ℕ → Shape

-- the block map of a file, which is large or not (manual section 5, file system)
abbrev pub form_in : Edition → Bool → BlockMap
form_in V6 large = if large then Large else Small
form_in V7 large = Deep

-- true if a list of indexes is a position in the block map (Lions on bmap; ino.h)
abbrev pub is_place : BlockMap → List ℕ → Bool
is_place form [] = false
is_place form (k ∷ []) = nat_lt k (first_count form)
is_place form (j ∷ (a ∷ p)) = nat_lt j (pointer_count form) && (nat_le 1 (levels_below form (a ∷ p)) && is_place form (a ∷ p))

-- true if a list of indexes is a position in the block map of i-node i that points to a block (icheck)
abbrev pub is_named_place : Geometry → List ℕ → ℕ → List ℕ → Bool
is_named_place geometry image i p = is_place (form_at geometry image i) p && is_named geometry image i p

-- the number of positions that point to a block, in the block map of a file with this shape (icheck)
unfoldable pub place_count : Edition → Shape → ℕ
place_count edition shape = count_by shape.names (places (form_in edition shape.large))

-- the number of data blocks minus the number of positions that point to a block, in the block maps of all files; this is the number of free blocks if
-- no two positions point to the same block (icheck)
unfoldable pub free_count : Geometry → (ℕ → Shape) → ℕ
free_count geometry shapes =
    geometry.zone_end - geometry.zone_start
    - sum_by (λ i. place_count geometry.edition (shapes i)) (range_with_len 1 geometry.last_inode)

-- true if i is an i-number of the volume (manual section 5, file system)
abbrev pub is_number : Geometry → ℕ → Bool
is_number geometry i = nat_le 1 i && nat_le i geometry.last_inode

-- the content of i-node i, depending on its kind; None if it is free or odd (manual section 5, file system)
abbrev pub content_of : Geometry → List ℕ → ℕ → Kind → Option Content
content_of geometry image i kinds.Free = None
content_of geometry image i kinds.Odd = None
content_of geometry image i kinds.Regular = Some (Body (body geometry image i))
content_of geometry image i kinds.Directory = Some (Directory (names_of (slots geometry image i)))
content_of geometry image i kinds.Special =
    Some (Device (mode_of geometry image i / 4096) (inode_of geometry.edition image i).addresses)

-- the node made of an i-node's fields and some content (manual section 5, file system)
abbrev pub node_with : Inode → Content → Node
node_with node content = record {
  content = content;
  permissions = node.mode.bits % 4096;
  links = node.links;
  uid = node.uid;
  gid = node.gid;
  size = node.size;
  accessed = node.accessed;
  modified = node.modified;
  changed = node.changed;
}

-- the node that i-node i represents (manual section 5, file system)
unfoldable pub node_of : Geometry → List ℕ → ℕ → Option Node
node_of geometry image i =
    option_map (node_with (inode_of geometry.edition image i)) (content_of geometry image i (kind_of geometry.edition (mode_of geometry image i)))

-- the tree that an image represents (manual section 5, file system)
unfoldable pub tree : Geometry → List ℕ → Tree
tree geometry image = record {
  geometry = geometry;
  time = long image (time_place geometry.edition);
  nodes = λ i. if is_number geometry i then node_of geometry image i else None;
}

-- the shape of i-node i, depending on its kind (this project)
abbrev pub shape_of : Geometry → List ℕ → ℕ → Kind → Shape
shape_of geometry image i kinds.Regular =
    record { names = is_named_place geometry image i; large = is_large geometry.edition (mode_of geometry image i); slots = [] }
shape_of geometry image i kinds.Directory =
    record {
      names = is_named_place geometry image i;
      large = is_large geometry.edition (mode_of geometry image i);
      slots = names_in (slots geometry image i);
    }
shape_of geometry image i _ = no_shape

-- the shapes of all i-nodes of an image (this project)
unfoldable pub shapes : Geometry → List ℕ → ℕ → Shape
shapes geometry image i =
    if is_number geometry i then shape_of geometry image i (kind_of geometry.edition (mode_of geometry image i)) else no_shape

-- the state that an image represents (this project)
abbrev pub state : Geometry → List ℕ → State
state geometry image = record { tree = tree geometry image; shapes = shapes geometry image }

-- The nodes of a volume that are copied to the host.
use Rattle.std.specs.Prelude.{ℕ, if◌then◌else◌, List, Option, None, Some, Result, Ok, Err}
use Rattle.std.specs.Str.{is_utf8}
use Rattle.std.specs.String.{string_bytes}
use Rattle.vol_layout.specs.Body.{body}
use Rattle.vol_layout.specs.Inode.{inode_of, permissions_of}
use Rattle.vol_layout.specs.declared.geometry.Geometry.{Geometry}
use Rattle.vol_layout.specs.declared.i_node.Inode.{Inode}
use Rattle.vol_layout.specs.declared.mode.Kind.{Kind}
use Rattle.vol_layout.specs.declared.mode.Kind.TheVariants as kinds
use Rattle.vol_file.specs.Rules.{kind_at}
use Rattle.vol_dir.specs.Tree.{is_number}
use Rattle.vol_archive.specs.declared.met_entries.Reason.TheVariants as reasons
use Rattle.vol_archive.specs.declared.met_entries.Role.{Role}
use Rattle.vol_archive.specs.declared.met_entries.Role.TheVariants as roles
use Rattle.command_copies.specs.declared.nodes.NodeContent.{NodeContent}
use Rattle.command_copies.specs.declared.nodes.NodeContent.TheVariants as contents
use Rattle.command_copies.specs.declared.nodes.NodeRead.{NodeRead}
use Rattle.command_copies.specs.declared.nodes.Uncopied.{Uncopied}
use Rattle.command_copies.specs.declared.nodes.Uncopied.TheVariants.{Left, Special, NotText}

-- what is copied of a node: its path below the folder, its permissions, the time of its last modification, and its bytes; a directory has none (cp)
pub record CopiedNode : Type 0 where
  pub path : List ℕ
  pub permissions : ℕ
  pub modified : ℕ
  pub bytes : Option (List ℕ)

-- the bytes of a file; none for a directory (this project)
abbrev pub bytes_of : NodeContent → Option (List ℕ)
bytes_of contents.Directory = None
bytes_of (contents.File bytes) = Some bytes.items

-- a node that was read, as what is copied of it (this project)
abbrev pub copied_as : NodeRead → CopiedNode
copied_as node = record { path = string_bytes node.path; permissions = node.permissions; modified = node.modified; bytes = bytes_of node.content }

-- what is copied of a node, or the reason why it isn't copied (this project)
abbrev pub read_as : Result NodeRead Uncopied → Result CopiedNode Uncopied
read_as (Ok node) = Ok (copied_as node)
read_as (Err why) = Err why

-- what is copied to a path of an i-node with these bytes (stat)
abbrev pub copied_node : Inode → List ℕ → Option (List ℕ) → CopiedNode
copied_node node path bytes = record { path = path; permissions = permissions_of node.mode.bits; modified = node.modified; bytes = bytes }

-- what is copied to a path of i-node i, which has this kind, or the reason why it isn't copied (cp)
abbrev pub kind_node : Geometry → List ℕ → List ℕ → ℕ → Kind → Result CopiedNode Uncopied
kind_node g image path i kinds.Regular = Ok (copied_node (inode_of g.edition image i) path (Some (body g image i)))
kind_node g image path i kinds.Directory = Ok (copied_node (inode_of g.edition image i) path None)
kind_node g image path i kinds.Special = Err Special
kind_node g image path i kinds.Free = Err (Left reasons.NoNode)
kind_node g image path i kinds.Odd = Err (Left reasons.OddNode)

-- what is copied to a path of the i-node with this number, or the reason why it isn't copied: the names of the host are text (cp; this project)
unfoldable pub node_at : Geometry → List ℕ → List ℕ → ℕ → Result CopiedNode Uncopied
node_at g image path i =
    if is_utf8 path then (if is_number g i then kind_node g image path i (kind_at g image i) else Err (Left reasons.NoNode)) else Err NotText

-- what is copied to a path of an entry with this i-number and role, or the reason why it isn't copied (cp)
abbrev pub entry_node : Geometry → List ℕ → List ℕ → ℕ → Role → Result CopiedNode Uncopied
entry_node g image path i (roles.Left reason) = Err (Left reason)
entry_node g image path i roles.File = node_at g image path i
entry_node g image path i roles.Directory = node_at g image path i
entry_node g image path i roles.Special = node_at g image path i
entry_node g image path i (roles.Link k) = node_at g image path i

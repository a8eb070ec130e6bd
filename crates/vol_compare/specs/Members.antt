-- The members of a tree: what each path leads to.
use Rattle.std.specs.Prelude.{◌≡◌, ℕ, Bool, true, false, not, if◌then◌else◌, List, [], ◌∷◌, map, option_map, slice_get, Option, None, Some}
use Rattle.std.specs.Option.{option_map_or}
use Rattle.vol_layout.specs.Body.{body}
use Rattle.vol_layout.specs.Inode.{device_of, inode_of, is_block, permissions_of}
use Rattle.vol_layout.specs.declared.geometry.Geometry.{Geometry}
use Rattle.vol_layout.specs.declared.i_node.Inode.{Inode}
use Rattle.vol_layout.specs.declared.mode.Kind.{Kind}
use Rattle.vol_layout.specs.declared.mode.Kind.TheVariants as kinds
use Rattle.vol_file.specs.Rules.{kind_at}
use Rattle.vol_dir.specs.Tree.{is_number}
use Rattle.vol_judge.specs.Directories.{root_of}
use Rattle.vol_archive.specs.Export.{is_directory}
use Rattle.vol_archive.specs.Walk.{IsWalk}
use Rattle.vol_archive.specs.declared.met_entries.MetEntry.{MetEntry}
use Rattle.vol_archive.specs.declared.met_entries.Reason.{Reason}
use Rattle.vol_archive.specs.declared.met_entries.Reason.TheVariants as reasons
use Rattle.vol_archive.specs.declared.met_entries.Role.{Role}
use Rattle.vol_archive.specs.declared.met_entries.Role.TheVariants as roles
use Rattle.vol_compare.specs.declared.members.Facts.{Facts}
use Rattle.vol_compare.specs.declared.members.NodeKind.{NodeKind}
use Rattle.vol_compare.specs.declared.members.NodeKind.TheVariants as nodes
use Rattle.vol_compare.specs.declared.members.Target.{Target}
use Rattle.vol_compare.specs.declared.members.Target.TheVariants as targets

-- what a path leads to: a node with these facts and bytes, and with the path of its first name if this is a further one; or nothing, for this reason
-- (this project)
pub data Content : Type 0 where
  Node : Facts → List ℕ → Option (List ℕ) → Content
  LeftOut : Reason → Content

-- true if an entry is left out for a reason that leaves unknown what it leads to: its path is too long to be followed (this project)
abbrev pub is_unseen : Reason → Bool
is_unseen reasons.LongPath = true
is_unseen reasons.NoNode = false
is_unseen reasons.OddNode = false
is_unseen reasons.Again = false
is_unseen reasons.BadName = false

-- true unless it is unknown what a path leads to (this project)
abbrev pub is_seen : Content → Bool
is_seen (Node facts bytes first) = true
is_seen (LeftOut reason) = not (is_unseen reason)

-- a path of a tree, and what it leads to (this project)
pub record Member : Type 0 where
  pub path : List ℕ
  pub content : Content

-- the kind of a special file, with its device (stat.h)
abbrev pub special_kind : Inode → NodeKind
special_kind node = if is_block node.mode.bits then nodes.Block (device_of node) else nodes.Character (device_of node)

-- a time that is compared, or 0 (this project)
abbrev pub time_if : Bool → ℕ → ℕ
time_if times time = if times then time else 0

-- what is compared of an i-node of this kind; the times of the last read and of the last change only with `times`. The sixth edition stores no time of
-- the last change (stat; this project)
abbrev pub facts_of : Bool → Inode → NodeKind → Facts
facts_of times node kind = record {
  kind = kind;
  permissions = permissions_of node.mode.bits;
  links = node.links;
  uid = node.uid;
  gid = node.gid;
  modified = node.modified;
  accessed = time_if times node.accessed;
  changed = time_if times (option_map_or (λ time. time) node.changed 0);
}

-- true for the kind of a regular file (stat.h)
abbrev pub is_file : NodeKind → Bool
is_file (nodes.File size) = true
is_file nodes.Directory = false
is_file (nodes.Block device) = false
is_file (nodes.Character device) = false

-- the bytes that are compared of a node of this kind: those of a regular file (this project)
abbrev pub bytes_of : Geometry → List ℕ → ℕ → NodeKind → List ℕ
bytes_of g image i (nodes.File size) = body g image i
bytes_of g image i nodes.Directory = []
bytes_of g image i (nodes.Block device) = []
bytes_of g image i (nodes.Character device) = []

-- the kind of a node whose first name has this role (this project)
abbrev pub first_kind : Role → Inode → NodeKind
first_kind roles.Special node = special_kind node
first_kind role node = nodes.File node.size

-- what a further name of the file of another entry leads to (this project)
abbrev pub further_content : Bool → Geometry → List ℕ → ℕ → Inode → MetEntry → Content
further_content times g image i node first =
    let kind = first_kind first.role node in Node (facts_of times node kind) (bytes_of g image i kind) (Some first.path)

-- what an entry with this role and i-node leads to (this project)
abbrev pub role_content : Bool → Geometry → List ℕ → List MetEntry → ℕ → Inode → Role → Content
role_content times g image founds i node roles.File = Node (facts_of times node (nodes.File node.size)) (body g image i) None
role_content times g image founds i node roles.Directory = Node (facts_of times node nodes.Directory) [] None
role_content times g image founds i node roles.Special = Node (facts_of times node (special_kind node)) [] None
role_content times g image founds i node (roles.Link k) = option_map_or (further_content times g image i node) (slice_get founds k) (LeftOut reasons.NoNode)
role_content times g image founds i node (roles.Left reason) = LeftOut reason

-- what an entry leads to, among the entries that the walk found (this project)
unfoldable pub content_at : Bool → Geometry → List ℕ → List MetEntry → MetEntry → Content
content_at times g image founds found =
    if is_number g found.inode then role_content times g image founds found.inode (inode_of g.edition image found.inode) found.role
    else LeftOut reasons.NoNode

-- the member of an entry that the walk found (this project)
abbrev pub member_of : Bool → Geometry → List ℕ → List MetEntry → MetEntry → Member
member_of times g image founds found = record { path = found.path; content = content_at times g image founds found }

-- what a path leads to, with its bytes (this project)
abbrev pub content_of : Geometry → List ℕ → ℕ → Target → Content
content_of g image i (targets.Node node) = Node node.facts (bytes_of g image i node.facts.kind) (option_map (λ path. path.now) node.first)
content_of g image i (targets.Left reason) = LeftOut reason

-- the role of the root, by its kind (this project)
abbrev pub root_role : Kind → Role
root_role kinds.Free = roles.Left reasons.NoNode
root_role kinds.Odd = roles.Left reasons.OddNode
root_role kinds.Regular = roles.File
root_role kinds.Special = roles.Special
root_role kinds.Directory = roles.Directory

-- the root, as an entry that the walk found (this project)
abbrev pub root_entry : Geometry → List ℕ → MetEntry
root_entry g image = record { path = []; inode = root_of g; role = root_role (kind_at g image (root_of g)) }

-- the entries are all that a walk from the root finds; none if the root is no directory (find)
abbrev pub AreMetIf : Bool → Geometry → List ℕ → List MetEntry → Type 0
AreMetIf true g image founds = IsWalk g image (root_of g) founds
AreMetIf false g image founds = founds ≡ []

-- the entries are all that is met in the tree of an image below its root (find)
abbrev pub AreMet : Geometry → List ℕ → List MetEntry → Type 0
AreMet g image founds = AreMetIf (is_directory g image (root_of g)) g image founds

-- the members of a tree: the root, and all entries that the walk found, in its order (find)
abbrev pub members : Bool → Geometry → List ℕ → List MetEntry → List Member
members times g image founds =
    member_of times g image founds (root_entry g image) ∷ map (member_of times g image founds) founds

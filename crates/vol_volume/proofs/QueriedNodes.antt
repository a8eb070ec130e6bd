-- The nodes that queries read, computed from the i-nodes of a sound image.
use Rattle.std.proofs.Common.{◌≡◌, ◌≢◌, ℕ, ◌%◌, List, refl, ap, sym}
use Rattle.vol_layout.specs.Body.{body}
use Rattle.vol_layout.specs.Inode.{inode_of}
use Rattle.vol_layout.specs.declared.geometry.Geometry.{Geometry}
use Rattle.vol_layout.specs.declared.i_node.Inode.{Inode}
use Rattle.vol_layout.specs.declared.mode.Kind.{Kind}
use Rattle.vol_layout.specs.declared.mode.Kind.TheVariants as kinds
use Rattle.vol_file.specs.Rules.{kind_at, Rules3To7}
use Rattle.vol_dir.specs.Entries.{IsInUse}
use Rattle.vol_dir.specs.Tree.{tree}
use Rattle.vol_change.specs.Edits.{body_of}
use Rattle.vol_change.specs.Nodes.{node_at}
use Rattle.vol_volume.specs.Answer.{stat_of}
use Rattle.vol_volume.specs.declared.queries.Stat.{Stat}
use Rattle.vol_volume.proofs.NodeReadings.{node_is, used_first}

-- the attributes of i-node i as `Stat`, computed from its fields
abbrev pub told : ℕ → ℕ → Kind → Inode → Stat
told i permissions kind node = record {
  number = i;
  kind = kind;
  permissions = permissions;
  links = node.links;
  uid = node.uid;
  gid = node.gid;
  size = node.size;
  accessed = node.accessed;
  modified = node.modified;
  changed = node.changed;
}

-- the attributes computed from an i-node of the given kind are the attributes of its node
told_of : (geometry : Geometry) (image : List ℕ) (i : ℕ) (kind : Kind) → IsInUse geometry image i → kind_at geometry image i ≡ kind
    → kind ≢ kinds.Free → kind ≢ kinds.Odd
    → told i ((inode_of geometry.edition image i).mode.bits % 4096) kind (inode_of geometry.edition image i) ≡ stat_of i (node_at (tree geometry image) i)
told_of geometry image i kinds.Free used is some known = absurd (some refl)
told_of geometry image i kinds.Odd used is some known = absurd (known refl)
told_of geometry image i kinds.Regular used is some known = sym (ap (stat_of i) (node_is geometry image i kinds.Regular (used_first geometry image i used) used.last is))
told_of geometry image i kinds.Directory used is some known = sym (ap (stat_of i) (node_is geometry image i kinds.Directory (used_first geometry image i used) used.last is))
told_of geometry image i kinds.Special used is some known = sym (ap (stat_of i) (node_is geometry image i kinds.Special (used_first geometry image i used) used.last is))

-- the kind of an i-node in use isn't odd
known_kind : (geometry : Geometry) (image : List ℕ) (i : ℕ) → Rules3To7 geometry image → IsInUse geometry image i
    → kind_at geometry image i ≢ kinds.Odd
known_kind geometry image i files used =
    files.sound.kinds.known i (used_first geometry image i used) used.last

-- the attributes computed from an i-node are the attributes of its node
pub stat_is : (geometry : Geometry) (image : List ℕ) (i permissions : ℕ) (kind : Kind) (node : Inode) → Rules3To7 geometry image
    → IsInUse geometry image i → kind ≡ kind_at geometry image i → node ≡ inode_of geometry.edition image i → permissions ≡ node.mode.bits % 4096
    → told i permissions kind node ≡ stat_of i (node_at (tree geometry image) i)
stat_is geometry image i permissions kind node files used kind_is node_is permissions_are =
    rw (permissions_are, node_is, kind_is)
    (told_of geometry image i (kind_at geometry image i) used refl used.allocated (known_kind geometry image i files used))

-- the bytes of a regular file's node are the bytes stored for its i-node
pub body_is : (geometry : Geometry) (image : List ℕ) (i : ℕ) → IsInUse geometry image i → kind_at geometry image i ≡ kinds.Regular
    → body_of (node_at (tree geometry image) i).content ≡ body geometry image i
body_is geometry image i used is = ap (λ node. body_of node.content) (node_is geometry image i kinds.Regular (used_first geometry image i used) used.last is)

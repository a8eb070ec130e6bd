-- What a node grants is what its i-node grants.
use Rattle.std.proofs.Common.{◌≡◌, ℕ, List, Option, None, Some, ap}
use Rattle.std.specs.Option.{option_map}
use Rattle.vol_layout.specs.Inode.{inode_of, kind_of, permissions_of}
use Rattle.vol_layout.specs.BlockPointers.{mode_of}
use Rattle.vol_layout.specs.declared.geometry.Geometry.{Geometry}
use Rattle.vol_layout.specs.declared.i_node.Inode.{Inode}
use Rattle.vol_dir.specs.Tree.{Node, Content, content_of, node_with, node_of}
use Rattle.vol_dir.specs.Access.{grants, grants_by, grants_at}
use Rattle.vol_dir.specs.declared.cred.Cred.{Cred}

-- the node made of an i-node grants what the i-node grants
made_grants : (bit : ℕ) (cred : Cred) (stored : Inode) (content : Option Content) (node : Node) → option_map (node_with stored) content ≡ Some node
    → grants_by bit cred (permissions_of stored.mode.bits) stored.uid stored.gid ≡ grants bit cred node
made_grants bit cred stored None node is = absurd cc
made_grants bit cred stored (Some content) node is = let same : node_with stored content ≡ node = cc in ap (grants bit cred) same

-- the node of an i-node grants what the i-node grants
pub node_grants : (geometry : Geometry) (image : List ℕ) (i bit : ℕ) (cred : Cred) (node : Node) → node_of geometry image i ≡ Some node
    → grants_at geometry image i bit cred ≡ grants bit cred node
unfolding node_of
node_grants geometry image i bit cred node is =
    made_grants bit cred (inode_of geometry.edition image i) (content_of geometry image i (kind_of geometry.edition (mode_of geometry image i))) node is

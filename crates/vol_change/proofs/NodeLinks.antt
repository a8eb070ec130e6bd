-- The state's link count of a node.
use Rattle.std.proofs.Common.{◌≡◌, ◌≢◌, ◌∙◌, ap, refl, ℕ, ◌/◌, ◌≤◌, List, Some}
use Rattle.std.specs.Option.{unwrap_or}
use Rattle.vol_layout.specs.Inode.{inode_of}
use Rattle.vol_layout.specs.BlockPointers.{mode_of}
use Rattle.vol_layout.specs.Body.{body}
use Rattle.vol_layout.specs.declared.geometry.Geometry.{Geometry}
use Rattle.vol_layout.specs.declared.mode.Kind.{Kind}
use Rattle.vol_layout.specs.declared.mode.Kind.TheVariants as kinds
use Rattle.vol_file.specs.Rules.{kind_at, HasKinds}
use Rattle.vol_dir.specs.Entries.{slots}
use Rattle.vol_dir.specs.Names.{names_of}
use Rattle.vol_dir.specs.Tree.{Content, Body, Directory, Device, content_of, tree}
use Rattle.vol_change.specs.Nodes.{no_node, node_at}
use Rattle.vol_dir.proofs.WalkLaws.{node_inside}
use Rattle.vol_change.proofs.WrittenStates.{node_holds}

-- an i-node that is neither free nor odd has a content
pub content_there : (geometry : Geometry) (image : List ℕ) (i : ℕ) (kind : Kind) → kind ≢ kinds.Free → kind ≢ kinds.Odd
    → (content : Content) × (content_of geometry image i kind ≡ Some content)
content_there geometry image i kinds.Free used known = absurd (used refl)
content_there geometry image i kinds.Odd used known = absurd (known refl)
content_there geometry image i kinds.Regular used known = (Body (body geometry image i), refl)
content_there geometry image i kinds.Directory used known = (Directory (names_of (slots geometry image i)), refl)
content_there geometry image i kinds.Special used known =
    (Device (mode_of geometry image i / 4096) (inode_of geometry.edition image i).addresses, refl)

-- the state's link count of a node in use is that of its i-node
pub links_is : (geometry : Geometry) (image : List ℕ) (i : ℕ) → HasKinds geometry image → 1 ≤ i → i ≤ geometry.last_inode
    → kind_at geometry image i ≢ kinds.Free → (node_at (tree geometry image) i).links ≡ (inode_of geometry.edition image i).links
links_is geometry image i has first last used =
    let there = content_there geometry image i (kind_at geometry image i) used (has.known i first last) in
    ap (λ node. (unwrap_or node no_node).links) (node_inside geometry image i first last ∙ node_holds geometry image i there.0 there.1)

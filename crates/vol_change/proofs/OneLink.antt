-- Adding or removing a link sets the link count.
use Rattle.std.proofs.Common.{◌≡◌, ◌∙◌, sym, ap, refl, ℕ, ◌+◌, ◌-◌, ◌≤◌, List, Option, None, Some}
use Rattle.std.specs.Option.{option_map}
use Rattle.vol_layout.specs.Inode.{inode_of}
use Rattle.vol_layout.specs.declared.geometry.Geometry.{Geometry}
use Rattle.vol_layout.specs.declared.i_node.Inode.{Inode}
use Rattle.vol_file.specs.Rules.{kind_at}
use Rattle.vol_dir.specs.Tree.{Content, Node, node_with, node_of, content_of, state}
use Rattle.vol_change.specs.Edits.{change_node, put_node, with_links, add_link, drop_link}
use Rattle.vol_dir.proofs.WalkLaws.{node_inside}

-- two changes that agree on this i-node give the same node
changed_same : (was : Inode) (one other : Node → Node) (content : Option Content)
    → ((c : Content) → one (node_with was c) ≡ other (node_with was c))
    → option_map one (option_map (node_with was) content) ≡ option_map other (option_map (node_with was) content)
changed_same was one other None same = refl
changed_same was one other (Some c) same = ap (λ n. Some n) (same c)

-- two changes that agree on this i-node give the same state
change_same : (geometry : Geometry) (image : List ℕ) (i : ℕ) (one other : Node → Node) → 1 ≤ i → i ≤ geometry.last_inode
    → ((c : Content) → one (node_with (inode_of geometry.edition image i) c) ≡ other (node_with (inode_of geometry.edition image i) c))
    → change_node i one (state geometry image) ≡ change_node i other (state geometry image)
unfolding node_of
change_same geometry image i one other first last same =
    let here = node_inside geometry image i first last in
    ap (λ n. put_node i n (state geometry image))
    (ap (option_map one) here
    ∙ (changed_same (inode_of geometry.edition image i) one other (content_of geometry image i (kind_at geometry image i)) same
    ∙ sym (ap (option_map other) here)))

-- setting the link count to one more is `add_link`
pub link_more : (geometry : Geometry) (image : List ℕ) (i now count : ℕ) → 1 ≤ i → i ≤ geometry.last_inode
    → count ≡ (inode_of geometry.edition image i).links + 1
    → change_node i (with_links now count) (state geometry image) ≡ add_link now i (state geometry image)
link_more geometry image i now count first last is =
    ap (λ n. change_node i (with_links now n) (state geometry image)) is
    ∙ change_same geometry image i (with_links now ((inode_of geometry.edition image i).links + 1)) (λ node. with_links now (node.links + 1) node) first last
    (λ c. refl)

-- setting the link count to one less is `drop_link`
pub link_less : (geometry : Geometry) (image : List ℕ) (i now count : ℕ) → 1 ≤ i → i ≤ geometry.last_inode
    → count ≡ (inode_of geometry.edition image i).links - 1
    → change_node i (with_links now count) (state geometry image) ≡ drop_link now i (state geometry image)
link_less geometry image i now count first last is =
    ap (λ n. change_node i (with_links now n) (state geometry image)) is
    ∙ change_same geometry image i (with_links now ((inode_of geometry.edition image i).links - 1)) (λ node. with_links now (node.links - 1) node) first last
    (λ c. refl)

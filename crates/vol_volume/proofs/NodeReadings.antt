-- One i-node in the tree of an image.
use Rattle.std.proofs.Common.{◌≡◌, ◌≢◌, ℕ, ◌≤◌, ◌∙◌, ap, refl, sym, true, false, List, Some, arith}
use Rattle.std.specs.Option.{option_map, unwrap_or, is_none}
use Rattle.std.proofs.lemmas.Bool.{false≢true}
use Rattle.vol_layout.specs.Edition.{constants}
use Rattle.vol_layout.specs.Inode.{inode_place, inode_of}
use Rattle.vol_layout.specs.declared.geometry.Geometry.{Geometry}
use Rattle.vol_layout.specs.declared.mode.Kind.{Kind}
use Rattle.vol_layout.specs.declared.mode.Kind.TheVariants as kinds
use Rattle.vol_layout.proofs.InodeLaws.{inode_size}
use Rattle.vol_file.specs.Rules.{kind_at, size_of, Rules3To7}
use Rattle.vol_file.proofs.StoredNames.{root_first}
use Rattle.vol_dir.specs.Entries.{slots, IsDirectory, IsInUse}
use Rattle.vol_dir.specs.Names.{names_of}
use Rattle.vol_dir.specs.Tree.{Node, node_of, node_with, content_of, tree}
use Rattle.vol_dir.specs.Walk.{is_directory}
use Rattle.vol_change.proofs.EntryStates.{names_is}
use Rattle.vol_dir.proofs.WalkLaws.{node_inside}
use Rattle.vol_change.proofs.WrittenStates.{IsKind}
use Rattle.vol_change.specs.Nodes.{no_node, node_at, names_at}
use Rattle.vol_change.proofs.NodeLinks.{content_there, links_is}
use Rattle.vol_volume.specs.Verdict.{is_device}

-- the node of an i-number of the volume, read as an i-node of this kind
abbrev node_by : Geometry → List ℕ → ℕ → Kind → Node
node_by geometry image i kind = unwrap_or (option_map (node_with (inode_of geometry.edition image i)) (content_of geometry image i kind)) no_node

module _ (geometry : Geometry) (image : List ℕ) where
  -- the tree has the geometry of the image
  pub tree_geometry : (tree geometry image).geometry ≡ geometry
  unfolding tree
  tree_geometry = refl

  -- the node of an i-node of the given kind
  pub node_of_kind : (i : ℕ) (kind : Kind) → kind_at geometry image i ≡ kind
      → node_of geometry image i ≡ option_map (node_with (inode_of geometry.edition image i)) (content_of geometry image i kind)
  unfolding node_of
  node_of_kind i kind is = ap (λ k. option_map (node_with (inode_of geometry.edition image i)) (content_of geometry image i k)) is

  pub node_is : (i : ℕ) (kind : Kind) → 1 ≤ i → i ≤ geometry.last_inode → kind_at geometry image i ≡ kind → node_at (tree geometry image) i ≡ node_by geometry image i kind
  node_is i kind first last is = ap (λ n. unwrap_or n no_node) (node_inside geometry image i first last ∙ node_of_kind i kind is)

  -- if the i-node is a directory, so is the node
  pub directory_is : (i : ℕ) → 1 ≤ i → i ≤ geometry.last_inode → kind_at geometry image i ≡ kinds.Directory → is_directory (node_at (tree geometry image) i) ≡ true
  directory_is i first last is = ap is_directory (node_is i kinds.Directory first last is)

  no_directory_by : (i : ℕ) (kind : Kind) → kind ≢ kinds.Directory → is_directory (node_by geometry image i kind) ≡ false
  no_directory_by i kinds.Free other = refl
  no_directory_by i kinds.Regular other = refl
  no_directory_by i kinds.Directory other = absurd (other refl)
  no_directory_by i kinds.Special other = refl
  no_directory_by i kinds.Odd other = refl

  pub directory_not : (i : ℕ) → 1 ≤ i → i ≤ geometry.last_inode → kind_at geometry image i ≢ kinds.Directory → is_directory (node_at (tree geometry image) i) ≡ false
  directory_not i first last other =
      ap is_directory (node_is i (kind_at geometry image i) first last refl) ∙ no_directory_by i (kind_at geometry image i) other

  -- if the i-node is a special file, so is the node
  pub device_is : (i : ℕ) → 1 ≤ i → i ≤ geometry.last_inode → kind_at geometry image i ≡ kinds.Special → is_device (node_at (tree geometry image) i).content ≡ true
  device_is i first last is = ap (λ (n : Node). is_device n.content) (node_is i kinds.Special first last is)

  -- if the node is a directory, so is the i-node
  directory_by : (i : ℕ) (kind : Kind) → kind_at geometry image i ≡ kind → is_directory (node_by geometry image i kind) ≡ true → kind_at geometry image i ≡ kinds.Directory
  directory_by i kinds.Free is found = absurd (false≢true found)
  directory_by i kinds.Regular is found = absurd (false≢true found)
  directory_by i kinds.Directory is found = is
  directory_by i kinds.Special is found = absurd (false≢true found)
  directory_by i kinds.Odd is found = absurd (false≢true found)

  pub directory_from : (i : ℕ) → 1 ≤ i → i ≤ geometry.last_inode → is_directory (node_at (tree geometry image) i) ≡ true → IsDirectory geometry image i
  directory_from i first last found = record {
    first = first;
    last = last;
    kind = directory_by i (kind_at geometry image i) refl (sym (ap is_directory (node_is i (kind_at geometry image i) first last refl)) ∙ found);
  }

  pub other_kind : (i : ℕ) → 1 ≤ i → i ≤ geometry.last_inode → is_directory (node_at (tree geometry image) i) ≡ false → kind_at geometry image i ≢ kinds.Directory
  other_kind i first last other is = false≢true (sym other ∙ directory_is i first last is)

  no_device_by : (i : ℕ) (kind : Kind) → kind ≢ kinds.Special → is_device (node_by geometry image i kind).content ≡ false
  no_device_by i kinds.Free other = refl
  no_device_by i kinds.Regular other = refl
  no_device_by i kinds.Directory other = refl
  no_device_by i kinds.Special other = absurd (other refl)
  no_device_by i kinds.Odd other = refl

  pub device_not : (i : ℕ) → 1 ≤ i → i ≤ geometry.last_inode → kind_at geometry image i ≢ kinds.Special → is_device (node_at (tree geometry image) i).content ≡ false
  device_not i first last other =
      ap (λ (n : Node). is_device n.content) (node_is i (kind_at geometry image i) first last refl) ∙ no_device_by i (kind_at geometry image i) other

  -- a directory is an i-number of the volume whose kind is directory
  pub kind_of_directory : (d : ℕ) → IsDirectory geometry image d → IsKind geometry image d kinds.Directory
  kind_of_directory d directory = record { first = directory.first; last = directory.last; kind = directory.kind }

  -- the state's map of a directory has the names in its slots
  pub names_are : (d : ℕ) → IsDirectory geometry image d → names_at (tree geometry image) d ≡ names_of (slots geometry image d)
  names_are d directory = names_is geometry image d (kind_of_directory d directory)

  -- if the node isn't a special file, neither is the i-node
  pub other_device : (i : ℕ) → 1 ≤ i → i ≤ geometry.last_inode → is_device (node_at (tree geometry image) i).content ≡ false → kind_at geometry image i ≢ kinds.Special
  other_device i first last other is = false≢true (sym other ∙ device_is i first last is)

  -- an i-node in use reads as the node of its i-number
  pub node_stored : (i : ℕ) → 1 ≤ i → Rules3To7 geometry image → IsInUse geometry image i
      → node_of geometry image i ≡ Some (node_at (tree geometry image) i)
  node_stored i first files used =
      let kind = kind_at geometry image i in
      let stored = content_there geometry image i kind used.allocated (files.sound.kinds.known i first used.last) in
      let is : node_of geometry image i ≡ Some (node_with (inode_of geometry.edition image i) stored.0) =
      node_of_kind i kind refl ∙ ap (option_map (node_with (inode_of geometry.edition image i))) stored.1 in
      is ∙ sym (ap (λ n. Some (unwrap_or n no_node)) (node_inside geometry image i first used.last ∙ is))

  -- an i-number in use has a node
  pub used_some : (i : ℕ) → 1 ≤ i → Rules3To7 geometry image → IsInUse geometry image i → is_none ((tree geometry image).nodes i) ≡ false
  used_some i first files used = ap is_none (node_inside geometry image i first used.last ∙ node_stored i first files used)

  -- a node in use has the link count of its i-node
  pub links_are : (i : ℕ) → 1 ≤ i → Rules3To7 geometry image → IsInUse geometry image i
      → (node_at (tree geometry image) i).links ≡ (inode_of geometry.edition image i).links
  links_are i first files used = links_is geometry image i files.sound.kinds first used.last used.allocated

  -- a node in use has the owner of its i-node
  pub owner_is : (i : ℕ) → 1 ≤ i → Rules3To7 geometry image → IsInUse geometry image i
      → (node_at (tree geometry image) i).uid ≡ (inode_of geometry.edition image i).uid
  owner_is i first files used =
      let kind = kind_at geometry image i in
      let stored = content_there geometry image i kind used.allocated (files.sound.kinds.known i first used.last) in
      let is : node_of geometry image i ≡ Some (node_with (inode_of geometry.edition image i) stored.0) =
      node_of_kind i kind refl ∙ ap (option_map (node_with (inode_of geometry.edition image i))) stored.1 in
      ap (λ n. (unwrap_or n no_node).uid) (node_inside geometry image i first used.last ∙ is)

  -- a node in use has the size of its i-node
  pub size_is : (i : ℕ) → 1 ≤ i → Rules3To7 geometry image → IsInUse geometry image i
      → (node_at (tree geometry image) i).size ≡ size_of geometry image i
  size_is i first files used =
      let kind = kind_at geometry image i in
      let stored = content_there geometry image i kind used.allocated (files.sound.kinds.known i first used.last) in
      let is : node_of geometry image i ≡ Some (node_with (inode_of geometry.edition image i) stored.0) =
      node_of_kind i kind refl ∙ ap (option_map (node_with (inode_of geometry.edition image i))) stored.1 in
      ap (λ n. (unwrap_or n no_node).size) (node_inside geometry image i first used.last ∙ is)
      ∙ inode_size geometry.edition image (inode_place geometry.edition i)

  -- a kind that isn't free, odd, a directory or a special file is a regular file
  regular_by : (kind : Kind) → kind ≢ kinds.Free → kind ≢ kinds.Odd → kind ≢ kinds.Directory → kind ≢ kinds.Special → kind ≡ kinds.Regular
  regular_by kinds.Free used known directory special = absurd (used refl)
  regular_by kinds.Regular used known directory special = refl
  regular_by kinds.Directory used known directory special = absurd (directory refl)
  regular_by kinds.Special used known directory special = absurd (special refl)
  regular_by kinds.Odd used known directory special = absurd (known refl)

  -- an i-node in use that is neither a directory nor a special file is a regular file
  pub regular_left : (i : ℕ) → 1 ≤ i → Rules3To7 geometry image → IsInUse geometry image i → kind_at geometry image i ≢ kinds.Directory
      → kind_at geometry image i ≢ kinds.Special → kind_at geometry image i ≡ kinds.Regular
  regular_left i first files used directory special =
      regular_by (kind_at geometry image i) used.allocated (files.sound.kinds.known i first used.last) directory special

  -- an i-number in use is at least 1
  pub used_first : (i : ℕ) → IsInUse geometry image i → 1 ≤ i
  used_first i used = let low : 1 ≤ (constants geometry.edition).root = root_first geometry.edition in omega (arith, low, used.first)

  -- a node in use that is neither a directory nor a special file belongs to a regular file
  pub regular_file : (i : ℕ) → Rules3To7 geometry image → IsInUse geometry image i → is_directory (node_at (tree geometry image) i) ≡ false
      → is_device (node_at (tree geometry image) i).content ≡ false → kind_at geometry image i ≡ kinds.Regular
  regular_file i files used directory special =
      let first = used_first i used in
      regular_left i first files used (other_kind i first used.last directory) (other_device i first used.last special)

-- The node of an i-number, in the tree of an image.
use Rattle.std.proofs.Common.{◌≡◌, ◌≢◌, ◌⊎◌, inl, inr, ℕ, ◌≤◌, ◌/◌, ◌%◌, ◌∙◌, ap, refl, sym, true, false, cond, List, [], Option, None, Some, slice_index, arith, true≢false}
use Rattle.std.specs.Option.{is_some, option_map, option_map_or, unwrap_or}
use Rattle.std.proofs.lemmas.Bool.Decides.{nat_tests}
use Rattle.sha2.specs.Sha256.{sha256}
use Rattle.vol_layout.specs.Body.{body}
use Rattle.vol_layout.specs.BlockPointers.{mode_of}
use Rattle.vol_layout.specs.Inode.{inode_of, inode_place, kind_of}
use Rattle.vol_layout.specs.declared.geometry.Geometry.{Geometry}
use Rattle.vol_layout.specs.declared.i_node.Inode.{Inode}
use Rattle.vol_layout.specs.declared.mode.Kind.{Kind}
use Rattle.vol_layout.specs.declared.mode.Kind.TheVariants as kinds
use Rattle.vol_layout.proofs.InodeLaws.{inode_mode}
use Rattle.vol_file.specs.Rules.{kind_at}
use Rattle.vol_dir.specs.Entries.{IsDirectory}
use Rattle.vol_dir.specs.Names.{Names}
use Rattle.vol_dir.specs.Tree.{Node, Tree, node_of, node_with, content_of, tree, is_number}
use Rattle.vol_dir.specs.Walk.{is_directory, map_of}
use Rattle.vol_dir.proofs.WalkLaws.{node_inside}
use Rattle.vol_change.specs.Nodes.{names_at, no_node, node_at}
use Rattle.vol_listing.specs.Rows.{row_of, row_with, special_sort}
use Rattle.vol_listing.specs.Sums.{sum_at, sum_of}
use Rattle.vol_listing.specs.declared.rows.Row.{Row}
use Rattle.vol_listing.specs.declared.rows.Sort.{Sort}
use Rattle.vol_listing.specs.declared.rows.Sort.TheVariants as sorts

-- the node of an i-number of the volume, from the kind of its i-node
abbrev node_by : Geometry → List ℕ → ℕ → Kind → Node
node_by geometry image i kind = unwrap_or (option_map (node_with (inode_of geometry.edition image i)) (content_of geometry image i kind)) no_node

-- the row of i-node i of this kind, with these fields and this mode
abbrev pub row_by : ℕ → Kind → Inode → ℕ → Row
row_by i kinds.Free node mode = row_of i no_node
row_by i kinds.Odd node mode = row_of i no_node
row_by i kinds.Regular node mode = row_with i node sorts.Regular 0
row_by i kinds.Directory node mode = row_with i node sorts.Directory 0
row_by i kinds.Special node mode = row_with i node (special_sort (mode / 4096) (slice_index node.addresses 0 % 65536)) (mode / 4096)

module _ (geometry : Geometry) (image : List ℕ) (i : ℕ) where
  -- an i-number outside the volume has no node
  node_outside : is_number geometry i ≡ false → node_at (tree geometry image) i ≡ no_node
  unfolding tree
  node_outside number = ap (λ b. unwrap_or (cond b (node_of geometry image i) None) no_node) number

  node_of_kind : (kind : Kind) → kind ≡ kind_at geometry image i
      → node_of geometry image i ≡ option_map (node_with (inode_of geometry.edition image i)) (content_of geometry image i kind)
  unfolding node_of
  node_of_kind kind is = ap (λ k. option_map (node_with (inode_of geometry.edition image i)) (content_of geometry image i k)) (sym is)

  node_is : (kind : Kind) → is_number geometry i ≡ true → kind ≡ kind_at geometry image i → node_at (tree geometry image) i ≡ node_by geometry image i kind
  node_is kind number is =
      let first : 1 ≤ i = grind (arith, nat_tests) in
      let last : i ≤ geometry.last_inode = grind (arith, nat_tests) in
      ap (λ n. unwrap_or n no_node) (node_inside geometry image i first last ∙ node_of_kind kind is)

  -- an i-number outside the volume has the row of an empty file without links
  pub row_outside : is_number geometry i ≡ false → row_of i no_node ≡ row_of i (node_at (tree geometry image) i)
  row_outside number = ap (row_of i) (sym (node_outside number))

  -- the row of an i-node of each kind is the row of its node in the tree
  row_free : is_number geometry i ≡ true → kinds.Free ≡ kind_at geometry image i → row_of i no_node ≡ row_of i (node_at (tree geometry image) i)
  row_free number is = ap (row_of i) (sym (node_is kinds.Free number is))

  row_odd : is_number geometry i ≡ true → kinds.Odd ≡ kind_at geometry image i → row_of i no_node ≡ row_of i (node_at (tree geometry image) i)
  row_odd number is = ap (row_of i) (sym (node_is kinds.Odd number is))

  pub row_none : (kind : Kind) → is_number geometry i ≡ true → kind ≡ kind_at geometry image i → (kind ≡ kinds.Free) ⊎ (kind ≡ kinds.Odd)
      → row_of i no_node ≡ row_of i (node_at (tree geometry image) i)
  row_none kind number is (inl free) = row_free number (sym free ∙ is)
  row_none kind number is (inr odd) = row_odd number (sym odd ∙ is)

  pub row_regular : (node : Inode) → is_number geometry i ≡ true → kinds.Regular ≡ kind_at geometry image i → node ≡ inode_of geometry.edition image i
      → row_with i node sorts.Regular 0 ≡ row_of i (node_at (tree geometry image) i)
  row_regular node number is stored = ap (λ n. row_with i n sorts.Regular 0) stored ∙ ap (row_of i) (sym (node_is kinds.Regular number is))

  pub row_directory : (node : Inode) → is_number geometry i ≡ true → kinds.Directory ≡ kind_at geometry image i → node ≡ inode_of geometry.edition image i
      → row_with i node sorts.Directory 0 ≡ row_of i (node_at (tree geometry image) i)
  row_directory node number is stored = ap (λ n. row_with i n sorts.Directory 0) stored ∙ ap (row_of i) (sym (node_is kinds.Directory number is))

  pub row_special : (node : Inode) (sort : Sort) → is_number geometry i ≡ true → kinds.Special ≡ kind_at geometry image i → node ≡ inode_of geometry.edition image i
      → sort ≡ special_sort (node.mode.bits / 4096) (slice_index node.addresses 0 % 65536)
      → row_with i node sort (node.mode.bits / 4096) ≡ row_of i (node_at (tree geometry image) i)
  row_special node sort number is stored sorted =
      let mode = inode_mode geometry.edition image (inode_place geometry.edition i) in
      let device = slice_index (inode_of geometry.edition image i).addresses 0 % 65536 in
      ap (λ s. row_with i node s (node.mode.bits / 4096)) sorted
      ∙ (ap (λ (n : Inode). row_with i n (special_sort (n.mode.bits / 4096) (slice_index n.addresses 0 % 65536)) (n.mode.bits / 4096)) stored
      ∙ (ap (λ bits. row_with i (inode_of geometry.edition image i) (special_sort (bits / 4096) device) (bits / 4096)) mode
      ∙ ap (row_of i) (sym (node_is kinds.Special number is))))

  row_kind : (kind : Kind)
      → row_of i (node_by geometry image i kind) ≡ row_by i kind (inode_of geometry.edition image i) (mode_of geometry image i)
  row_kind kinds.Free = refl
  row_kind kinds.Odd = refl
  row_kind kinds.Regular = refl
  row_kind kinds.Directory = refl
  row_kind kinds.Special = refl

  -- the row of an i-node depends on its fields and its mode
  pub row_is : is_number geometry i ≡ true
      → row_of i (node_at (tree geometry image) i) ≡ row_by i (kind_of geometry.edition (mode_of geometry image i)) (inode_of geometry.edition image i) (mode_of geometry image i)
  row_is number = ap (row_of i) (node_is (kind_at geometry image i) number refl) ∙ row_kind (kind_at geometry image i)

  -- an i-number outside the volume is no directory
  pub directory_outside : is_number geometry i ≡ false → is_directory (node_at (tree geometry image) i) ≡ false
  directory_outside number = ap is_directory (node_outside number)

  pub directory_is : is_number geometry i ≡ true → kinds.Directory ≡ kind_at geometry image i → is_directory (node_at (tree geometry image) i) ≡ true
  directory_is number is = ap is_directory (node_is kinds.Directory number is)

  no_directory : (kind : Kind) → kind ≢ kinds.Directory → is_directory (node_by geometry image i kind) ≡ false
  no_directory kinds.Free other = refl
  no_directory kinds.Regular other = refl
  no_directory kinds.Directory other = absurd (other refl)
  no_directory kinds.Special other = refl
  no_directory kinds.Odd other = refl

  pub directory_not : is_number geometry i ≡ true → kind_at geometry image i ≢ kinds.Directory → is_directory (node_at (tree geometry image) i) ≡ false
  directory_not number other =
      ap is_directory (node_is (kind_at geometry image i) number refl) ∙ no_directory (kind_at geometry image i) other

  -- an i-number of the volume whose i-node is a directory is that of a directory
  pub is_directory_at : is_number geometry i ≡ true → kinds.Directory ≡ kind_at geometry image i → IsDirectory geometry image i
  is_directory_at number is =
      let first : 1 ≤ i = grind (arith, nat_tests) in
      let last : i ≤ geometry.last_inode = grind (arith, nat_tests) in
      record { first = first; last = last; kind = sym is }

  -- the sum of an i-node of this kind
  abbrev sum_by : Kind → Option (List ℕ)
  sum_by kind =
      option_map_or (λ (n : Node). sum_of n.content) (option_map (node_with (inode_of geometry.edition image i)) (content_of geometry image i kind)) None

  sum_is : (kind : Kind) → is_number geometry i ≡ true → kind ≡ kind_at geometry image i → sum_at (tree geometry image) i ≡ sum_by kind
  unfolding sum_at
  sum_is kind number is =
      let first : 1 ≤ i = grind (arith, nat_tests) in
      let last : i ≤ geometry.last_inode = grind (arith, nat_tests) in
      ap (λ n. option_map_or (λ (n : Node). sum_of n.content) n None) (node_inside geometry image i first last ∙ node_of_kind kind is)

  no_sum : (kind : Kind) → kind ≢ kinds.Regular → sum_by kind ≡ None
  no_sum kinds.Free other = refl
  no_sum kinds.Regular other = absurd (other refl)
  no_sum kinds.Directory other = refl
  no_sum kinds.Special other = refl
  no_sum kinds.Odd other = refl

  -- the sum of a regular file is the SHA-256 of its body
  pub sum_regular : is_number geometry i ≡ true → kinds.Regular ≡ kind_at geometry image i → sum_at (tree geometry image) i ≡ Some (sha256 (body geometry image i))
  sum_regular number is = sum_is kinds.Regular number is

  pub sum_other : is_number geometry i ≡ true → kind_at geometry image i ≢ kinds.Regular → sum_at (tree geometry image) i ≡ None
  sum_other number other = sum_is (kind_at geometry image i) number refl ∙ no_sum (kind_at geometry image i) other

  pub sum_outside : is_number geometry i ≡ false → sum_at (tree geometry image) i ≡ None
  unfolding tree sum_at
  sum_outside number = ap (λ b. option_map_or (λ (n : Node). sum_of n.content) (cond b (node_of geometry image i) None) None) number

no_names : (names : Option Names) → is_some names ≡ false → unwrap_or names [] ≡ []
no_names None other = refl
no_names (Some names) other = absurd (true≢false other)

-- anything but a directory has no names
pub names_of_other : (tree : Tree) (i : ℕ) → is_directory (node_at tree i) ≡ false → names_at tree i ≡ []
names_of_other tree i other = no_names (map_of (node_at tree i).content) other

-- The node of an i-number, from the kind of its i-node.
use Rattle.std.proofs.Common.{◌≡◌, ◌≢◌, ℕ, ◌≤◌, ◌<◌, ◌/◌, ◌%◌, ◌==◌, cond, true, false, List, None, Some, Ok, Err, refl, ap, sym, ◌∙◌, arith}
use Rattle.std.specs.Prelude.{Option, slice_index}
use Rattle.std.specs.Option.{is_some, option_map, option_map_or, ok_or}
use Rattle.std.proofs.lemmas.Bool.{false≢true}
use Rattle.std.proofs.lemmas.Bool.Decides.{nat_tests}
use Rattle.vol_layout.specs.Body.{body}
use Rattle.vol_layout.specs.Inode.{device_of, inode_of, inode_place, is_block}
use Rattle.vol_layout.specs.BlockPointers.{mode_of}
use Rattle.vol_layout.proofs.InodeLaws.{inode_mode}
use Rattle.vol_layout.specs.declared.geometry.Geometry.{Geometry}
use Rattle.vol_layout.specs.declared.i_node.Inode.{Inode}
use Rattle.vol_layout.specs.declared.mode.Kind.{Kind}
use Rattle.vol_layout.specs.declared.mode.Kind.TheVariants as kinds
use Rattle.vol_file.specs.Rules.{kind_at}
use Rattle.vol_dir.specs.Entries.{slots, IsDirectory}
use Rattle.vol_dir.specs.Names.{names_of}
use Rattle.vol_dir.specs.Tree.{Node, content_of, is_number, node_of, node_with, tree}
use Rattle.vol_dir.specs.Walk.{map_of}
use Rattle.vol_dir.proofs.WalkLaws.{node_inside}
use Rattle.vol_volume.proofs.NodeReadings.{node_of_kind}
use Rattle.vol_serve.specs.Nodes.{stat_in, special_of, special_in, HasNode, after_ok, names_in, number_in, bytes_of, bytes_in}
use Rattle.vol_serve.specs.declared.nodes.fault.NodeFault.TheVariants as faults
use Rattle.vol_volume.specs.Answer.{stat_of}
use Rattle.vol_volume.specs.declared.queries.Stat.{Stat}

module _ (geometry : Geometry) (image : List ℕ) where
  no_number : (i : ℕ) → is_number geometry i ≡ false → (tree geometry image).nodes i ≡ None
  unfolding tree
  no_number i outside = ap (λ b. cond b (node_of geometry image i) None) outside

  -- i-number 0 has no node
  pub none_zero : (i : ℕ) → i ≡ 0 → (tree geometry image).nodes i ≡ None
  none_zero i zero = let outside : is_number geometry i ≡ false = grind (arith, nat_tests) in no_number i outside

  -- an i-number above the last has no node
  pub none_above : (i : ℕ) → geometry.last_inode < i → (tree geometry image).nodes i ≡ None
  none_above i above = let outside : is_number geometry i ≡ false = grind (arith, nat_tests) in no_number i outside

  node_by : (i : ℕ) (kind : Kind) → 1 ≤ i → i ≤ geometry.last_inode → kind_at geometry image i ≡ kind
      → (tree geometry image).nodes i ≡ option_map (node_with (inode_of geometry.edition image i)) (content_of geometry image i kind)
  node_by i kind first last is = node_inside geometry image i first last ∙ node_of_kind geometry image i kind is

  -- a free i-node is no node
  pub none_free : (i : ℕ) → 1 ≤ i → i ≤ geometry.last_inode → kind_at geometry image i ≡ kinds.Free → (tree geometry image).nodes i ≡ None
  none_free i first last is = node_by i kinds.Free first last is

  -- an i-node whose mode isn't one of the edition's is no node
  pub none_odd : (i : ℕ) → 1 ≤ i → i ≤ geometry.last_inode → kind_at geometry image i ≡ kinds.Odd → (tree geometry image).nodes i ≡ None
  none_odd i first last is = node_by i kinds.Odd first last is

  some_by : (i : ℕ) (kind : Kind) → kind ≢ kinds.Free → kind ≢ kinds.Odd → is_some (content_of geometry image i kind) ≡ true
  some_by i kinds.Free used known = absurd (used refl)
  some_by i kinds.Regular used known = refl
  some_by i kinds.Directory used known = refl
  some_by i kinds.Special used known = refl
  some_by i kinds.Odd used known = absurd (known refl)

  -- every other i-number has a node
  pub held : (i : ℕ) (kind : Kind) → 1 ≤ i → i ≤ geometry.last_inode → kind ≡ kind_at geometry image i → kind ≢ kinds.Free → kind ≢ kinds.Odd
      → HasNode geometry image i kind
  held i kind first last is used known =
      record { first = first; last = last; is = sym is; some = some_by i kind used known; node = node_by i kind first last (sym is) }

  -- the attributes computed from the fields of an i-node
  abbrev told : ℕ → ℕ → Kind → Inode → Stat
  told i permissions kind node = record {
    number = i;
    kind = kind;
    permissions = permissions;
    links = node.links;
    uid = node.uid;
    gid = node.gid;
    size = node.size;
    accessed = node.accessed;
    modified = node.modified;
    changed = node.changed;
  }

  told_by : (i : ℕ) (kind : Kind) → HasNode geometry image i kind
      → Some (told i ((inode_of geometry.edition image i).mode.bits % 4096) kind (inode_of geometry.edition image i)) ≡ stat_in (tree geometry image) i
  told_by i kinds.Free has = absurd (false≢true has.some)
  told_by i kinds.Regular has = sym (ap (option_map (stat_of i)) has.node)
  told_by i kinds.Directory has = sym (ap (option_map (stat_of i)) has.node)
  told_by i kinds.Special has = sym (ap (option_map (stat_of i)) has.node)
  told_by i kinds.Odd has = absurd (false≢true has.some)

  -- the attributes computed from an i-node are those of its node
  pub told_is : (i permissions : ℕ) (kind : Kind) (node : Inode) → HasNode geometry image i kind → node ≡ inode_of geometry.edition image i
      → permissions ≡ node.mode.bits % 4096 → Some (told i permissions kind node) ≡ stat_in (tree geometry image) i
  told_is i permissions kind node has node_is permissions_are = rw (permissions_are, node_is) (told_by i kind has)

  -- an i-number without a node has no attributes
  pub told_none : (i : ℕ) → (tree geometry image).nodes i ≡ None → stat_in (tree geometry image) i ≡ None
  told_none i none = ap (option_map (stat_of i)) none

  -- the map of a directory is the map of its slots
  pub names_are : (d : ℕ) → HasNode geometry image d kinds.Directory → names_in (tree geometry image) d ≡ Ok (names_of (slots geometry image d))
  names_are d has = ap (λ (node : Option Node). after_ok (ok_or node faults.Stale) (λ n. ok_or (map_of n.content) faults.NotDirectory)) has.node

  -- a node that isn't a directory has no map
  pub names_other : (d : ℕ) (kind : Kind) → HasNode geometry image d kind → kind ≢ kinds.Directory → names_in (tree geometry image) d ≡ Err faults.NotDirectory
  names_other d kinds.Free has other = absurd (false≢true has.some)
  names_other d kinds.Regular has other = ap (λ (node : Option Node). after_ok (ok_or node faults.Stale) (λ n. ok_or (map_of n.content) faults.NotDirectory)) has.node
  names_other d kinds.Directory has other = absurd (other refl)
  names_other d kinds.Special has other = ap (λ (node : Option Node). after_ok (ok_or node faults.Stale) (λ n. ok_or (map_of n.content) faults.NotDirectory)) has.node
  names_other d kinds.Odd has other = absurd (false≢true has.some)

  pub names_none : (d : ℕ) → (tree geometry image).nodes d ≡ None → names_in (tree geometry image) d ≡ Err faults.Stale
  names_none d none = ap (λ (node : Option Node). after_ok (ok_or node faults.Stale) (λ n. ok_or (map_of n.content) faults.NotDirectory)) none

  pub directory_is : (d : ℕ) → HasNode geometry image d kinds.Directory → IsDirectory geometry image d
  directory_is d has = record { first = has.first; last = has.last; kind = has.is }

  -- the bytes of a regular file are those of its body
  pub bytes_are : (i : ℕ) → HasNode geometry image i kinds.Regular → bytes_in (tree geometry image) i ≡ Ok (body geometry image i)
  bytes_are i has = ap (λ (node : Option Node). after_ok (ok_or node faults.Stale) (λ n. ok_or (bytes_of n.content) faults.NotRegular)) has.node

  -- a node that isn't a regular file has no bytes
  pub bytes_other : (i : ℕ) (kind : Kind) → HasNode geometry image i kind → kind ≢ kinds.Regular → bytes_in (tree geometry image) i ≡ Err faults.NotRegular
  bytes_other i kinds.Free has other = absurd (false≢true has.some)
  bytes_other i kinds.Regular has other = absurd (other refl)
  bytes_other i kinds.Directory has other = ap (λ (node : Option Node). after_ok (ok_or node faults.Stale) (λ n. ok_or (bytes_of n.content) faults.NotRegular)) has.node
  bytes_other i kinds.Special has other = ap (λ (node : Option Node). after_ok (ok_or node faults.Stale) (λ n. ok_or (bytes_of n.content) faults.NotRegular)) has.node
  bytes_other i kinds.Odd has other = absurd (false≢true has.some)

  pub bytes_none : (i : ℕ) → (tree geometry image).nodes i ≡ None → bytes_in (tree geometry image) i ≡ Err faults.Stale
  bytes_none i none = ap (λ (node : Option Node). after_ok (ok_or node faults.Stale) (λ n. ok_or (bytes_of n.content) faults.NotRegular)) none

  -- the i-number of a node leads to it
  pub number_is : (i : ℕ) (kind : Kind) → HasNode geometry image i kind → number_in (tree geometry image) i ≡ Ok i
  number_is i kinds.Free has = absurd (false≢true has.some)
  number_is i kinds.Regular has = ap (λ (node : Option Node). after_ok (ok_or node faults.Stale) (λ _. Ok i)) has.node
  number_is i kinds.Directory has = ap (λ (node : Option Node). after_ok (ok_or node faults.Stale) (λ _. Ok i)) has.node
  number_is i kinds.Special has = ap (λ (node : Option Node). after_ok (ok_or node faults.Stale) (λ _. Ok i)) has.node
  number_is i kinds.Odd has = absurd (false≢true has.some)

  pub number_none : (i : ℕ) → (tree geometry image).nodes i ≡ None → number_in (tree geometry image) i ≡ Err faults.Stale
  number_none i none = ap (λ (node : Option Node). after_ok (ok_or node faults.Stale) (λ _. Ok i)) none

  -- the device of a special file is the one in its i-node
  pub special_is : (i number : ℕ) (node : Inode) → HasNode geometry image i kinds.Special → node ≡ inode_of geometry.edition image i
      → number ≡ device_of node
      → special_in (tree geometry image) i ≡ Some (record { is_block = is_block node.mode.bits; major = number / 256; minor = number % 256 })
  special_is i number node has node_is number_is =
      let mode = mode_of geometry image i in
      let stored = inode_of geometry.edition image i in
      let halved : mode / 4096 / 2 ≡ stored.mode.bits / 8192 = omega (arith, inode_mode geometry.edition image (inode_place geometry.edition i)) in
      rw (number_is, node_is)
      (ap (λ (node : Option Node). option_map_or (λ (n : Node). special_of n.content) node None) has.node
      ∙ ap (λ n. Some (record {
        is_block = n % 4 == 3;
        major = slice_index stored.addresses 0 % 65536 / 256;
        minor = slice_index stored.addresses 0 % 65536 % 256;
      })) halved)

  -- a node that isn't a special file has no device
  pub special_other : (i : ℕ) (kind : Kind) → HasNode geometry image i kind → kind ≢ kinds.Special → special_in (tree geometry image) i ≡ None
  special_other i kinds.Free has other = absurd (false≢true has.some)
  special_other i kinds.Regular has other = ap (λ (node : Option Node). option_map_or (λ (n : Node). special_of n.content) node None) has.node
  special_other i kinds.Directory has other = ap (λ (node : Option Node). option_map_or (λ (n : Node). special_of n.content) node None) has.node
  special_other i kinds.Special has other = absurd (other refl)
  special_other i kinds.Odd has other = absurd (false≢true has.some)

  pub special_none : (i : ℕ) → (tree geometry image).nodes i ≡ None → special_in (tree geometry image) i ≡ None
  special_none i none = ap (λ (node : Option Node). option_map_or (λ (n : Node). special_of n.content) node None) none

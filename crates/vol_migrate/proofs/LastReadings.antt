-- The state that the volume reads as when all files are copied.
use Rattle.std.proofs.Common.{◌≡◌, ◌≢◌, ◌∙◌, sym, ap, refl, ℕ, ◌+◌, ◌-◌, ◌/◌, Bool, true, false, List, [], Option, None, Some, inl, inr, arith}
use Rattle.std.specs.Prelude.{◌&&◌}
use Rattle.std.specs.Option.{option_map}
use Rattle.vol_layout.specs.Inode.{inode_of, inode_place, raised_inode, is_large, kind_of}
use Rattle.vol_layout.specs.BlockPointers.{IsFile, mode_of}
use Rattle.vol_layout.specs.declared.edition.Edition.TheVariants.{V6, V7}
use Rattle.vol_layout.specs.declared.geometry.Geometry.{Geometry}
use Rattle.vol_layout.specs.declared.i_node.Inode.{Inode}
use Rattle.vol_layout.specs.declared.mode.Kind.{Kind}
use Rattle.vol_layout.specs.declared.mode.Kind.TheVariants as kinds
use Rattle.vol_layout.specs.declared.block_map.BlockMap.TheVariants.{Deep}
use Rattle.vol_layout.proofs.InodeLaws.{inode_size}
use Rattle.vol_layout.proofs.RaisedModes.{raised_permissions}
use Rattle.vol_file.specs.Changes.{whole_blocks}
use Rattle.vol_file.specs.Rules.{kind_at, size_of}
use Rattle.vol_file.specs.Shape.{is_named, is_on_ways}
use Rattle.vol_dir.specs.Entries.{slots}
use Rattle.vol_dir.specs.Names.{names_of, names_in}
use Rattle.vol_dir.specs.Tree.{Body, Directory, Device, Content, Shape, no_shape, tree, shapes, state, node_of, node_with, content_of, shape_of, is_place, is_named_place}
use Rattle.vol_dir.proofs.PlaceTests.{place_passed, place_test}
use Rattle.vol_dir.proofs.WalkLaws.{node_inside}
use Rattle.vol_change.proofs.ShapePlaces.{guarded, ways_place}
use Rattle.vol_change.proofs.States.{shape_here}
use Rattle.vol_mkfs.specs.Mkfs.{volume_of}
use Rattle.vol_migrate.specs.Raised.{raised, raised_node, raised_content, raised_shape, raised_type, size_in, stored_blocks}
use Rattle.vol_migrate.specs.Stages.{IsUsed, MayMigrate}
use Rattle.vol_migrate.proofs.CarriedBlocks.{none_stored}
use Rattle.vol_migrate.proofs.RaisedDevices.{type_raised}
use Rattle.vol_migrate.proofs.RaisedNames.{names_raised, names_in_raised}
use Rattle.vol_migrate.proofs.StageSteps.{carried_kind, carried_mode, form_seventh, used_allocated}
use Rattle.vol_migrate.proofs.StageLaws.{old_rules, carried_file, file_is_used, used_file}
use Rattle.vol_migrate.proofs.LastStages.{IsLast, all_carried, regular_body, slots_carried, used_or, free_node, free_shape, old_free, new_free}

-- the content of a copied i-node of this kind is the old one, raised
content_carried : (from to : Geometry) (old image : List ℕ) (now i : ℕ) (kind : Kind) → MayMigrate old from to → IsLast from to old now image → IsUsed from old i
    → kind_at from old i ≡ kind
    → content_of to image (i + 1) kind ≡ option_map raised_content (content_of from old i kind)
content_carried from to old image now i kinds.Regular may stage used is = ap (λ b. Some (Body b)) (regular_body from to old image now i may stage used is)
content_carried from to old image now i kinds.Directory may stage used is =
    ap (λ names. Some (Directory names)) (ap names_of (slots_carried from to old image now i may stage used is) ∙ names_raised (slots from old i))
content_carried from to old image now i kinds.Free may stage used is = refl
content_carried from to old image now i kinds.Odd may stage used is = refl
content_carried from to old image now i kinds.Special may stage used is =
    let carried = all_carried from to old image now i stage used in
    let allocated = used_allocated from old i may.sixth (old_rules old from to may).sound.kinds used in
    let special : kind_of V6 (mode_of from old i) ≡ kinds.Special = ap (λ e. kind_of e (mode_of from old i)) (sym may.sixth) ∙ is in
    let type : mode_of to image (i + 1) / 4096 ≡ raised_type (mode_of from old i / 4096) =
    ap (λ m. m / 4096) (carried_mode from to old image now i (whole_blocks (size_of from old i)) carried)
    ∙ type_raised (mode_of from old i) allocated special in
    let addresses = carried.device is in
    λ t. Some (Device (type t) (addresses t))

-- a node made from a raised i-node is the raised node
node_raised : (node old : Inode) (now : ℕ) (content : Option Content) → node ≡ record (raised_inode old now) { addresses = node.addresses }
    → option_map (node_with node) (option_map raised_content content) ≡ option_map (raised_node now) (option_map (node_with old) content)
node_raised node old now None is = refl
node_raised node old now (Some content) is =
    let permissions = raised_permissions old.mode.bits in
    ap (λ n. Some (node_with n (raised_content content))) is
    ∙ (λ t. Some (record {
      content = raised_content content;
      permissions = permissions t;
      links = old.links;
      uid = old.uid;
      gid = old.gid;
      size = old.size;
      accessed = old.accessed;
      modified = old.modified;
      changed = Some now;
    }))

-- each node of the new volume is the old one, raised
node_carried : (from to : Geometry) (old image : List ℕ) (now k : ℕ) → MayMigrate old from to → IsLast from to old now image
    → (tree to image).nodes k ≡ option_map (raised_node now) ((tree from old).nodes (k - 1))
unfolding node_of
node_carried from to old image now k may stage =
    elim (used_or from old k) [
      | inl unused ↦
          free_node to image k (new_free from to old image now k stage unused)
          ∙ sym (ap (option_map (raised_node now)) (free_node from old (k - 1) (old_free from old (k - 1) unused)))
      | inr used ↦
          let i = k - 1 in
          let carried = all_carried from to old image now i stage used.1 in
          let kind = carried_kind from to old image now i (whole_blocks (size_of from old i)) may.sixth may.seventh (old_rules old from to may).sound.kinds used.1 carried in
          ap (tree to image).nodes used.0
          ∙ (node_inside to image (i + 1) (omega arith) (may.numbers i used.1)
          ∙ (ap (λ x. option_map (node_with (inode_of to.edition image (i + 1))) (content_of to image (i + 1) x)) kind
          ∙ (ap (option_map (node_with (inode_of to.edition image (i + 1))))
          (content_carried from to old image now i (kind_at from old i) may stage used.1 refl)
          ∙ (node_raised (inode_of to.edition image (i + 1)) (inode_of from.edition old i) now (content_of from old i (kind_at from old i)) carried.inode
          ∙ sym (ap (option_map (raised_node now)) (node_inside from old i used.1.first used.1.last))))))
    ]

-- if `name` implies `test`, their conjunction is `name`
names_places : (test name : Bool) → (name ≡ true → test ≡ true) → (test && name) ≡ name
names_places true name place = refl
names_places false true place = place refl
names_places false false place = refl

-- the positions of a copied file that point to blocks are those on the paths of its stored blocks
names_carried : (from to : Geometry) (old image : List ℕ) (now i : ℕ) (p : List ℕ) → MayMigrate old from to → IsLast from to old now image → IsFile from old i
    → is_named_place to image (i + 1) p ≡ is_on_ways Deep (stored_blocks (shapes from old i) (whole_blocks (size_of from old i))) p
names_carried from to old image now i p may stage file =
    let carried = all_carried from to old image now i stage (file_is_used old from i file) in
    let form = form_seventh to image (i + 1) may.seventh (carried_file old from to now image i (whole_blocks (size_of from old i)) may file carried) in
    let blocks = stored_blocks (shapes from old i) (whole_blocks (size_of from old i)) in
    ap (λ f. is_place f p && is_named to image (i + 1) p) form
    ∙ (guarded (is_place Deep p) (is_named to image (i + 1) p) (is_on_ways Deep blocks p) (λ passes. (carried.file file.kind).names p (place_passed Deep p passes))
    ∙ names_places (is_place Deep p) (is_on_ways Deep blocks p) (λ on. place_test Deep p (ways_place Deep blocks p on)))

-- the size of a node is that of its i-node
size_here : (from : Geometry) (old : List ℕ) (i : ℕ) (kind : Kind) → kind ≢ kinds.Free → kind ≢ kinds.Odd
    → size_in (option_map (node_with (inode_of from.edition old i)) (content_of from old i kind)) ≡ size_of from old i
size_here from old i kinds.Free some known = absurd (some refl)
size_here from old i kinds.Odd some known = absurd (known refl)
size_here from old i kinds.Regular some known = inode_size from.edition old (inode_place from.edition i)
size_here from old i kinds.Directory some known = inode_size from.edition old (inode_place from.edition i)
size_here from old i kinds.Special some known = inode_size from.edition old (inode_place from.edition i)

-- the shape of a copied i-node of this kind is the old one, raised
shape_by : (from to : Geometry) (old image : List ℕ) (now i : ℕ) (kind : Kind) → MayMigrate old from to → IsLast from to old now image → IsUsed from old i
    → kind_at from old i ≡ kind
    → shape_of to image (i + 1) kind ≡ record {
      names = is_on_ways Deep (stored_blocks (shapes from old i) (whole_blocks (size_of from old i)));
      large = false;
      slots = (shape_of from old i kind).slots;
    }
shape_by from to old image now i kinds.Regular may stage used is =
    let file = used_file old from i kinds.Regular used is refl in
    let large : is_large to.edition (mode_of to image (i + 1)) ≡ false = ap (λ e. is_large e (mode_of to image (i + 1))) may.seventh in
    λ t. record { names = λ p. names_carried from to old image now i p may stage file t; large = large t; slots = [] }
shape_by from to old image now i kinds.Directory may stage used is =
    let file = used_file old from i kinds.Directory used is refl in
    let large : is_large to.edition (mode_of to image (i + 1)) ≡ false = ap (λ e. is_large e (mode_of to image (i + 1))) may.seventh in
    let names : names_in (slots to image (i + 1)) ≡ names_in (slots from old i) =
    ap names_in (slots_carried from to old image now i may stage used is) ∙ names_in_raised (slots from old i) in
    λ t. record { names = λ p. names_carried from to old image now i p may stage file t; large = large t; slots = names t }
shape_by from to old image now i kinds.Free may stage used is = absurd (used.some is)
shape_by from to old image now i kinds.Odd may stage used is = absurd ((old_rules old from to may).sound.kinds.known i used.first used.last is)
shape_by from to old image now i kinds.Special may stage used is =
    let bare : shapes from old i ≡ no_shape = shape_here from old i used.first used.last ∙ ap (shape_of from old i) is in
    let none = ap (λ shape. stored_blocks shape (whole_blocks (size_of from old i))) bare ∙ none_stored (whole_blocks (size_of from old i)) in
    sym (ap (λ blocks. record { names = is_on_ways Deep blocks; large = false; slots = [] }) none)

-- each shape of the new volume is the old one, raised
shape_carried : (from to : Geometry) (old image : List ℕ) (now k : ℕ) → MayMigrate old from to → IsLast from to old now image
    → shapes to image k ≡ raised_shape (size_in ((tree from old).nodes (k - 1))) (shapes from old (k - 1))
unfolding node_of
shape_carried from to old image now k may stage =
    elim (used_or from old k) [
      | inl unused ↦
          free_shape to image k (new_free from to old image now k stage unused)
          ∙ sym (ap (λ node. raised_shape (size_in node) (shapes from old (k - 1))) (free_node from old (k - 1) (old_free from old (k - 1) unused))
          ∙ ap (raised_shape 0) (free_shape from old (k - 1) (old_free from old (k - 1) unused)))
      | inr used ↦
          let i = k - 1 in
          let carried = all_carried from to old image now i stage used.1 in
          let kind = carried_kind from to old image now i (whole_blocks (size_of from old i)) may.sixth may.seventh (old_rules old from to may).sound.kinds used.1 carried in
          let size : size_in ((tree from old).nodes i) ≡ size_of from old i =
          ap size_in (node_inside from old i used.1.first used.1.last)
          ∙ size_here from old i (kind_at from old i) used.1.some ((old_rules old from to may).sound.kinds.known i used.1.first used.1.last) in
          ap (shapes to image) used.0
          ∙ (shape_here to image (i + 1) (omega arith) (may.numbers i used.1)
          ∙ (ap (shape_of to image (i + 1)) kind
          ∙ (shape_by from to old image now i (kind_at from old i) may stage used.1 refl
          ∙ (ap (λ (shape : Shape). record {
            names = is_on_ways Deep (stored_blocks (shapes from old i) (whole_blocks (size_of from old i)));
            large = false;
            slots = shape.slots;
          }) (sym (shape_here from old i used.1.first used.1.last))
          ∙ sym (ap (λ n. raised_shape n (shapes from old i)) size)))))
    ]

-- the new volume reads as the old state, raised
pub state_raised : (from to : Geometry) (old image : List ℕ) (now blocks list_blocks : ℕ) → MayMigrate old from to → IsLast from to old now image
    → to ≡ volume_of V7 blocks list_blocks → state to image ≡ raised (state from old) blocks list_blocks now
unfolding tree
state_raised from to old image now blocks list_blocks may stage is =
    let time = stage.super_block.time in
    λ t. record {
      tree = record {
        geometry = is t;
        time = time t;
        nodes = λ k. node_carried from to old image now k may stage t;
      };
      shapes = λ k. shape_carried from to old image now k may stage t;
    }
